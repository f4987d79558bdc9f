pub mod Yards
pub mod Written
pub mod Fits
