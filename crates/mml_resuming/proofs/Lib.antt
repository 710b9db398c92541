pub mod GoingOnLemmas
mod TailsLemmas
