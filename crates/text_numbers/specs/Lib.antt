-- The definitions that the contracts of `text_numbers` cite.
pub mod Numerals
