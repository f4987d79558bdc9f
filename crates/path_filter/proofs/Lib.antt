pub mod Filtering
pub mod Laying
