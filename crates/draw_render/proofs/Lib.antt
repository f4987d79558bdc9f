pub mod Seeing
pub mod Staging
