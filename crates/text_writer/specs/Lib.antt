-- What the canonical writer answers.
pub mod Writer
