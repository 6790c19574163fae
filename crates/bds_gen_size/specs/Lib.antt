pub mod Behind
pub mod Capped
pub mod PieceSize
pub mod ScriptParts
pub mod GivenNames
