-- What the calls on text tell.
pub mod TextCalls
