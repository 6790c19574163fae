mod PartLaws
mod Theorem
