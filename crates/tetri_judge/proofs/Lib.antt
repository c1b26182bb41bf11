pub mod WastedLemmas
pub mod UnorderedLemmas
pub mod VerdictLaws
pub mod PlaceLemmas
pub mod SeenLemmas
