pub mod SoonerLemmas
