pub mod Advancing
pub mod Steps
pub mod ShortWay
