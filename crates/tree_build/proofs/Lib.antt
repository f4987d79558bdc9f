pub mod Keys
pub mod Laying
pub mod Recursion
pub mod Whole
pub mod BuiltTree
