pub mod Halvings
pub mod Unlimited
