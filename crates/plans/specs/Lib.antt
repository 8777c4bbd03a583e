pub mod Plan
pub mod TwoBetween
pub mod Replies
pub mod Working
pub mod QuickParts
pub mod Known
