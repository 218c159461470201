pub mod Devices
pub mod Meaning
pub mod Writes
