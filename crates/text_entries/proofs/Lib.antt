pub mod Forms
pub mod Puts
