pub mod Known
pub mod Parts
pub mod ExprSize
pub mod StmtSize
pub mod ParSize
pub mod Nodes
pub mod ScriptSize
