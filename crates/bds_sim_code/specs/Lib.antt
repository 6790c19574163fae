pub mod CheckpointLaw
pub mod Checkpoints
pub mod Here
pub mod Law
pub mod OpeningLaw
pub mod ScriptHere
pub mod StmtHere
