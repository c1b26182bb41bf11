pub mod LogLaws
pub mod LineLaws
pub mod PlaceLaws
mod ReadingLemmas
mod CommentLemmas
mod EarlyLemmas
mod AheadLemmas
mod WordLemmas
mod HeaderLemmas
mod LineLemmas
mod GapLemmas
mod TableLemmas
mod TimeLemmas
mod DayLemmas
mod BitLemmas
mod ScanLemmas
mod NameLemmas
