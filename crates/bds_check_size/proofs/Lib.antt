pub mod Bounds
pub mod StmtBounds
pub mod ScriptBounds
