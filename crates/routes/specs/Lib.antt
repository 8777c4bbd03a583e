pub mod Routes
pub mod Tests
pub mod Rules
pub mod Jumps
pub mod Walk
pub mod Replies
pub mod WalkParts
