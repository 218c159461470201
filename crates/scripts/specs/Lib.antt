pub mod Calls
pub mod Definitions
pub mod Fronts
pub mod Lines
pub mod Naming
pub mod Shown
pub mod Telling
pub mod Words
