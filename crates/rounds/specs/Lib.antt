pub mod Schedule
pub mod Tests
pub mod States
pub mod Packet
pub mod Replies
pub mod Working
pub mod Mode
