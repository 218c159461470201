pub mod Account
pub mod Flush
pub mod Calls
pub mod Firsts
pub mod State
