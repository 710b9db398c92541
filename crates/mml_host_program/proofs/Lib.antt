mod PortsLemmas
pub mod TellingLemmas
pub mod TallyLemmas
pub mod ClassLemmas
