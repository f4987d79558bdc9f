pub mod Order
pub mod Rounding
pub mod Extremes
pub mod Quotients
pub mod Nonneg
pub mod Bounds
pub mod Tests
pub mod Patterns
