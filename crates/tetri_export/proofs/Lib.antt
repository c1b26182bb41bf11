pub mod TextLemmas
mod EntryLemmas
