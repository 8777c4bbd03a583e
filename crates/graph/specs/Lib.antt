pub mod Graph
pub mod Faults
pub mod Search
pub mod Working
