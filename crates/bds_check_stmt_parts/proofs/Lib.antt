pub mod Extending
pub mod SeenAlike
pub mod Walked
