pub mod NumbersLemmas
mod ServingLemmas
mod EndingsLemmas
