pub mod Asking
pub mod Logged
pub mod Replays
pub mod Same
