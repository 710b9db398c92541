-- The state while the records of a class are read. No contract of a public function cites these definitions.
pub mod Marking
pub mod Seats
pub mod Unread
