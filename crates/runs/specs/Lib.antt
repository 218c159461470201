pub mod Marks
pub mod Excluded
pub mod Offering
pub mod Leaving
pub mod Shown
pub mod Driven
pub mod Encoded
pub mod Worked
