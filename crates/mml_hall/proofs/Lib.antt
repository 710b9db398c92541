pub mod LocalLemmas
pub mod ScriptLinesLemmas
pub mod ScriptsLemmas
pub mod HallsLemmas
pub mod TurnsLemmas
