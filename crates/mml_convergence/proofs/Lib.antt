pub mod StepLemmas
pub mod RunsLemmas
pub mod PartsLemmas
pub mod SumsLemmas
pub mod MovesLemmas
pub mod PotentialLemmas
pub mod WholePotentialLemmas
pub mod AppliedLemmas
pub mod RestLemmas
pub mod LeadsToRestLemmas
pub mod ExamplesLemmas
pub mod MarriedCountLemmas
pub mod StagesLemmas
pub mod PhasesLemmas
pub mod ServedLemmas
pub mod RoundsLemmas
pub mod ClosesFullLemmas
pub mod NumbersLemmas
mod CourtshipLemmas
pub mod WholeLemmas
mod MoveLemmas
mod IdleLemmas
mod PhaseLemmas
mod OpeningLemmas
mod ClearLemmas
mod RunLemmas
mod ReachedLemmas
mod SinglyLemmas
mod OneByOneLemmas
mod MovesReachedLemmas
mod CombLemmas
