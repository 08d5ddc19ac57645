pub mod Growth
pub mod AddWay
pub mod AddWhole
