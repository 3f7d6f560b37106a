pub mod SiteReplies
pub mod Steps
pub mod Ends
pub mod Together
pub mod Said
pub mod Means
pub mod Texts
pub mod Replies
