-- Laws of the answer to a text.
pub mod Places
pub mod Replies
pub mod Showing
pub mod Fitting
