-- What `yard` answers a text.
pub mod Reply
