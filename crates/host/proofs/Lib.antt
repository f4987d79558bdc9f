pub mod Calls
pub mod TreeCalls
pub mod CoverCalls
pub mod StageCalls
