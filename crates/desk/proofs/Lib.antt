pub mod LineLaws
pub mod IdLaws
pub mod ProgramLaws
pub mod OneReply
pub mod Answers
