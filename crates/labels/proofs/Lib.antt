pub mod Texts
pub mod Turns
pub mod Table
pub mod Utf8
