pub mod HistoryParts
pub mod HistoryWalk
pub mod Trimmed
