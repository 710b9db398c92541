pub mod TurnsLemmas
pub mod NamingLemmas
