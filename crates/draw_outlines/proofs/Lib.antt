pub mod Reading
pub mod Alone
