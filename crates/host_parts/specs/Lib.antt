pub mod PartCalls
