pub mod States
pub mod Usages
pub mod Barriers
pub mod Listed
pub mod Batches
