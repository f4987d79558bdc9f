-- What `canonical` answers a text.
pub mod Restating
