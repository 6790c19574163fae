pub mod Views
pub mod Induction
pub mod Same
pub mod Pushes
pub mod StmtViews
pub mod StmtInduction
pub mod StmtSame
