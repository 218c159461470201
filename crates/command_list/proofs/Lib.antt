pub mod Places
pub mod Runs
pub mod Refusing
pub mod Fronts
pub mod RowPlaces
pub mod Types
