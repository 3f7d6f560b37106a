pub mod Formats
pub mod Words
pub mod Names
pub mod PictureTexts
pub mod Parts
pub mod PictureFaults
pub mod Draws
pub mod Inner
