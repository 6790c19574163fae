pub mod Heads
pub mod NothingSet
pub mod Parameters
pub mod WalkedParts
