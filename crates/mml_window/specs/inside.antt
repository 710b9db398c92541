pub mod Leaves
pub mod BookInside
pub mod ResumedInside
pub mod Cursors
pub mod Readers
pub mod Keeping
pub mod Seats
pub mod Shares
