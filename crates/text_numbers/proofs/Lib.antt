-- Laws of words of digits.
pub mod Digits
