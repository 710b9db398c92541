pub mod FieldViews
pub mod Reading
pub mod Tables
