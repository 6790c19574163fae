pub mod Flow
pub mod Fits
pub mod Laws
