pub mod Given
pub mod Remaining
pub mod Stamping
pub mod Turn
