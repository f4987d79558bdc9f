-- Laws of tokens.
pub mod Tokens
