pub mod BusLaws
pub mod LatestLaws
