pub mod SightLemmas
pub mod TwinsLemmas
pub mod ScriptedLemmas
pub mod SessionsLemmas
pub mod CoalitionsLemmas
