pub mod GroupingLemmas
pub mod LabelLemmas
pub mod Members
pub mod PartLemmas
pub mod RestrictedLemmas
pub mod RestrictingLemmas
pub mod SplitLaws
pub mod SplitLemmas
