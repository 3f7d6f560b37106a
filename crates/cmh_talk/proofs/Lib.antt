pub mod Taking
pub mod NoQuestions
pub mod Replies
