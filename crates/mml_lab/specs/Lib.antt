pub mod Rosters
pub mod AccountView
pub mod Labs
pub mod RosterMeaning
pub mod inside
