mod Leading
pub mod StartFaults
