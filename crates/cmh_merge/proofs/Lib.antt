pub mod Takings
pub mod WalkLists
pub mod SiteLists
pub mod Going
pub mod Confluence
