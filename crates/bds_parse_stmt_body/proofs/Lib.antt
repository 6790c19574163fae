pub mod LineLaws
pub mod StmtFirst
pub mod BlockSound
pub mod StmtSound
mod LineComplete
mod FormComplete
pub mod StmtComplete
mod ReadSteps
