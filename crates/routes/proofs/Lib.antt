pub mod PairLaws
pub mod RuleLaws
pub mod WalkLaws
pub mod WalkPartsLaws
pub mod JumpLaws
pub mod TestLaws
