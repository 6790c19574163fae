pub mod Counting
pub mod LastEnds
pub mod Literals
pub mod PieceReads
