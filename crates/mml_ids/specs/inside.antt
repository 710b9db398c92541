pub mod Words
pub mod WordsLemmas
