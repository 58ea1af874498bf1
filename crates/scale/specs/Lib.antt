pub mod Ceilings
pub mod Laws
pub mod Sums
pub mod Worsts
pub mod Joins
