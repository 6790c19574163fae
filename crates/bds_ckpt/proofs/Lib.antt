pub mod FileLaws
pub mod FrameLists
pub mod Loads
pub mod StateFieldLaws
pub mod ThreadFieldLaws
pub mod Writes
