pub mod Trees
pub mod Nodes
pub mod Members
