pub mod Breaks
pub mod Declarations
pub mod Ends
pub mod Pieces
pub mod StmtBreaks
pub mod Typing
