pub mod TopLaws
pub mod SetLaws
pub mod ValueLaws
pub mod DeclaredLaws
pub mod UnitLaws
