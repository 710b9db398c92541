pub mod MatchingLemmas
pub mod WalkLemmas
pub mod ReportsLemmas
pub mod NamedLemmas
pub mod ListedLemmas
pub mod WitnessNamesLemmas
pub mod KindsLemmas
