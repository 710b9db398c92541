pub mod RowLemmas
pub mod StudentNamedLemmas
pub mod SearchedLemmas
pub mod RosterMeaningLemmas
pub mod FormLemmas
pub mod OwnedLemmas
