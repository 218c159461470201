pub mod Unicode
pub mod Labels
pub mod Kept
pub mod Utf8
