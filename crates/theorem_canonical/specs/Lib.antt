-- Request (xii): what holds of the canonical text.
pub mod ReadBack
pub mod Printed
