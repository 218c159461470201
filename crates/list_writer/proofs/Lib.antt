pub mod Rows
pub mod Growing
pub mod Bytewise
pub mod Trips
pub mod Whole
pub mod Readable
pub mod Parts
