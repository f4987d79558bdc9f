pub mod Following
pub mod Parts
pub mod Accounts
pub mod Fates
pub mod Behind
