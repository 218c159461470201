pub mod Opening
pub mod Scenes
pub mod Putting
pub mod Handled
pub mod Phases
pub mod Firsts
