-- The definitions that the contracts of `drawing` cite.
pub mod Numbers
pub mod Drawings
pub mod Writing
pub mod Determined
