pub mod Endings
pub mod Declarations
pub mod Transit
pub mod Reports
pub mod Kept
pub mod Laws
pub mod Texts
pub mod Inner
