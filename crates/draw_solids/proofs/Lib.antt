pub mod Spacing
