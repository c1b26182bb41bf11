-- Laws of asks and their offers that crates above cite.
pub use Rattle.tetri_request.proofs.ExpiryLemmas.{earns_nothing, expired_from_test, offer_leaves, offers_until_expired, one_leaf_by_number, test_from_expired}
pub use Rattle.tetri_request.proofs.OfferLemmas.{between_short, IsOffer, offer_is}
pub use Rattle.tetri_request.proofs.OptionLemmas.{worth_falls}
pub use Rattle.tetri_request.proofs.ThriftLemmas.{keeps_thrift, offer_numbers}
