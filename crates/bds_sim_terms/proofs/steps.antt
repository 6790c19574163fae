pub mod Leads
pub mod Slots
pub mod Rows
pub mod Follows
pub mod Pairing
pub mod Computing
pub mod Asking
pub mod Ending
pub mod Updating
pub mod Counting
pub mod Making
pub mod Walking
pub mod Looping
pub mod Switching
pub mod Settling
pub mod Sim
pub mod Weight
pub mod Turning
pub mod Turned
mod Example
mod FormsExample
mod SwitchExample
