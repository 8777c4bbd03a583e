pub mod Numbers
pub mod Sets
pub mod Refusals
pub mod Finds
