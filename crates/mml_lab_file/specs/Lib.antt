pub mod Shape
pub mod Faults
pub mod Reading
pub mod LabErrors
pub mod LabMeaning
pub mod inside
pub mod Sameness
