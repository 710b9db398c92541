pub mod GrantingLemmas
pub mod UnionLemmas
pub mod ClassLemmas
