pub mod Agreeing
pub mod Concluding
pub mod Telling
pub mod steps
