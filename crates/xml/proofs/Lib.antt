pub mod ClassesKept
pub mod Tags
pub mod Steps
pub mod Turns
pub mod Closes
pub mod TextRuns
pub mod Lines
pub mod LinePlaces
