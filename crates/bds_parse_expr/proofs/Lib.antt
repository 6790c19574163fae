pub mod Steps
pub mod Fronts
pub mod Complete
pub mod Sound
pub mod Loops
pub mod Theorem
pub mod FaultLines
