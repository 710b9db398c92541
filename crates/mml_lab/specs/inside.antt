-- How a roster and a lab are stored. No contract of a public function cites these definitions.
pub mod Owned
pub mod RosterView
pub mod LabView
