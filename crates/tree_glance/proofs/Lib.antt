pub mod Leaves
pub mod Glancing
pub mod Spots
pub mod Endings
pub mod Looking
pub mod Turns
pub mod Sighting
