pub mod Ports
pub mod Setting
pub mod SiteFaults
pub mod Shelves
pub mod SiteScript
