pub mod Members
pub mod Properties
pub mod Tests
