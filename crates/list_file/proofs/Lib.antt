pub mod Tails
pub mod Sizes
pub mod Known
