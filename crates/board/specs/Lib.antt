pub mod Boards
pub mod Lending
