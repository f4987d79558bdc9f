-- The forms of solids.
pub mod Forms
