pub mod FitLaws
pub mod IndexLaws
pub mod OwnLaws
pub mod RuleFieldLaws
pub mod UnfitLaws
