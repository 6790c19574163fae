pub mod Operands
pub mod Pieces
