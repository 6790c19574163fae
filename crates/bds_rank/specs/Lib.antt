pub mod Keeping
pub mod Left
pub mod Lessening
pub mod Machine
