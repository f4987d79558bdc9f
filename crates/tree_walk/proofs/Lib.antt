pub mod Rounds
pub mod Turns
pub mod Stacks
pub mod Layouts
pub mod Visits
