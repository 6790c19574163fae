pub mod Causes
pub mod Finding
pub mod Images
pub mod Looking
pub mod Naming
pub mod OneEnd
pub mod Told
pub mod WholeRuns
