pub mod InPlace
pub mod Lone
