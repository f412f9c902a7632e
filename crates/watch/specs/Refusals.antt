-- The numbers of the refusals of this crate.
use Rattle.std.specs.Prelude.{ℕ}
use Rattle.watch.specs.declared.refusals.WatcherRefusal.{WatcherRefusal}
use Rattle.watch.specs.declared.refusals.WatcherRefusal.TheVariants.{BadCount, BadState, TooLarge}

-- 23: a watcher cannot have so many states; 24: a state's record does not fit the watcher; 25: the watched board would be too large
abbrev pub number_of : WatcherRefusal → ℕ
number_of BadCount = 23
number_of BadState = 24
number_of TooLarge = 25
