pub mod CertifiedLemmas
pub mod ClaimLaws
pub mod ProgramLemmas
