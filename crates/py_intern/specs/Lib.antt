pub mod Laws
pub mod Pool
pub mod PoolRows
pub mod Values
