pub mod CallsKept
pub mod Standing
pub mod MarkLaws
