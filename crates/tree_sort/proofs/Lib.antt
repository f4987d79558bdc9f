pub mod Merging
pub mod Sorted
pub mod Sorting
pub mod Inserting
