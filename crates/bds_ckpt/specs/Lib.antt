pub mod Adding
pub mod Faults
pub mod FileReading
pub mod Loading
pub mod Short
pub mod ThreadReading
