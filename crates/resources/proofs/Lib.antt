pub mod States
pub mod Firsts
pub mod Fills
pub mod Records
