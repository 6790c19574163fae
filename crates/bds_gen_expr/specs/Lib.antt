pub mod Marks
pub mod Grown
pub mod Numbers
pub mod Scope
pub mod Indexes
pub mod ExprCode
pub mod PieceCode
pub mod Gen
