pub mod RightLemmas
