pub mod PortLemmas
pub mod HouseLemmas
