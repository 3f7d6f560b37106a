pub mod Said
pub mod Numbers
pub mod Links
pub mod Texts
pub mod Answers
pub mod News
