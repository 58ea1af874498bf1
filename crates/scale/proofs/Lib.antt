pub mod JoinedLists
pub mod JoinedRanges
pub mod TwoScales
