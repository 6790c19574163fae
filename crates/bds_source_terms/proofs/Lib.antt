pub mod OperandTrees
