pub mod Sums
pub mod Cells
