pub mod Bindings
pub mod Rects
pub mod Extents
pub mod Constants
