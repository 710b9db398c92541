pub mod FieldsLemmas
pub mod ReadingLemmas
pub mod CompactLemmas
