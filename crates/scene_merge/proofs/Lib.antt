pub mod Laying
pub mod Raising
