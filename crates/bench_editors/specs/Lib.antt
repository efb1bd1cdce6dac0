pub mod Rows
pub mod RowKeys
pub mod Desks
pub mod Laws
pub mod Standing
pub mod Examples
