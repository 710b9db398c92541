-- How closes and rounds are counted in one pass. No contract of a public function cites these definitions.
pub mod Closes
pub mod Waiting
