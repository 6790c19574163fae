pub mod DryRuns
pub mod Testing
pub mod Ways
