pub mod Maps
pub mod OperandLists
