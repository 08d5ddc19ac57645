-- The definitions that the command's contracts cite.
pub mod Asked
pub mod AskedMarked
pub mod Number
