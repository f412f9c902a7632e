pub mod WatchedSpots
