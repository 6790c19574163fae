pub mod Reserved
pub mod Taken
pub mod KindLaws
pub mod Fitting
pub mod FittingGlobals
