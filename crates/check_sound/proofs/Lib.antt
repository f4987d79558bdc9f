pub mod Passing
pub mod Edges
pub mod Fair
pub mod InOrder
pub mod Sound
