pub mod Transform
