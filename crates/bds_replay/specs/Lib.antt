pub mod Loading
pub mod Log
pub mod Longs
pub mod Recorded
pub mod Replayed
