pub mod EachLemmas
pub mod SpelledLemmas
pub mod RawLemmas
pub mod NeighboursLemmas
pub mod NameTwiceLemmas
pub mod FirstAgainLemmas
pub mod LabErrorsLemmas
pub mod LabFaultLemmas
pub mod LabInLemmas
pub mod LabMeaningLemmas
pub mod ChecksLemmas
pub mod LinksFaultLemmas
pub mod LabOfLemmas
pub mod NoMemoryLemmas
pub mod LinksBelowLemmas
pub mod LinkCountLemmas
pub mod OwnersLemmas
mod SamenessLemmas
