pub mod EngineLemmas
pub mod GreetingLemmas
pub mod TellingLemmas
pub mod RecordLemmas
pub mod EndingLemmas
pub mod TalkLemmas
pub mod SeenLemmas
