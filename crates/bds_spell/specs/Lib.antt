pub mod ExprWords
pub mod StmtWords
pub mod Fits
pub mod StmtFits
