pub mod Links
pub mod Backlogs
pub mod History
pub mod Lists
pub mod Rule
pub mod Fronts
pub mod Boards
pub mod KeptBoard
