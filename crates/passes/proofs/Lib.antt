pub mod Questions
pub mod Fitting
pub mod Slots
pub mod Filling
pub mod Strides
pub mod Unfit
pub mod Firsts
