pub mod Adjoint
pub mod Horner
pub mod Limits
pub mod Order
pub mod Pairs
pub mod Places
pub mod Spread
