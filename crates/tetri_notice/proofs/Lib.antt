pub mod FrontLemmas
pub mod ItemLemmas
pub mod MemberLemmas
pub mod NoticeLaws
pub mod ObjectLemmas
pub mod Options
pub mod TokenLemmas
pub mod WrittenLemmas
