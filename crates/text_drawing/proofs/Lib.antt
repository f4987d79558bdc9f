-- Laws of writing on in a slice of bytes.
pub mod Numbers
pub mod Adding
pub mod Digits
pub mod Texts
pub mod Ends
pub mod Determined
pub mod Sizes
