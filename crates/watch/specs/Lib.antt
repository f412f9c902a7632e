pub mod Watcher
pub mod Watched
pub mod WatchedFair
pub mod Refusals
