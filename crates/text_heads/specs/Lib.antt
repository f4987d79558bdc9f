-- What stands at the beginning of a form, its lines, and the view, read from tokens.
pub mod Heads
pub mod Lines
pub mod Cursors
