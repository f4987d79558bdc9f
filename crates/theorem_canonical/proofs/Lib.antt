pub mod Opened
pub mod Values
pub mod Judging
pub mod Writing
pub mod Passing
pub mod Printed
pub mod ReadBack
