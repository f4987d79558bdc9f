pub mod Draw
pub mod Drawing
