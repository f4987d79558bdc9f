pub mod Pens
pub mod EachOnce
pub mod FirstNearest
