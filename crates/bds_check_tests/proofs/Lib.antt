pub mod KeptParts
pub mod ListedTests
pub mod TestPrograms
pub mod TypedTests
