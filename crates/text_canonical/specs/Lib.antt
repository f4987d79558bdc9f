-- A scene as forms, its canonical text, and which forms can be written and read.
pub mod Forms
pub mod Canonical
pub mod Writable
