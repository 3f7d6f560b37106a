pub mod Lines
pub mod Script
pub mod Forms
pub mod Texts
