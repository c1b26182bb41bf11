pub mod AskLaws
mod Examples
pub mod ExpiryLemmas
pub mod OfferLemmas
pub mod OptionLemmas
pub mod ThriftLemmas
