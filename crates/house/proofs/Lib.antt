pub mod RefusalLaws
pub mod NumberLaws
pub mod BitLaws
pub mod SetLaws
pub mod StoreLaws
pub mod OneReply
pub mod Finding
