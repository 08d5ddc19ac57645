-- Modules that belong to no one function.
pub mod Runs
pub mod CodeStanding
