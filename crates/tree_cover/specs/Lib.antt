pub mod Seeking
pub mod Agreeing
