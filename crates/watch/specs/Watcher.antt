-- What a watcher (a deterministic monitor) says, whatever numbers stand in it.
use Rattle.std.specs.Prelude.{ℕ, ◌-◌, min, max, Bool, cond, ◌&&◌, List, replicate, nat_le, nat_lt, slice_index, slice_index_or, slice_set}
use Rattle.std.specs.List.{list_all}
use Rattle.watch.specs.declared.watcher.Watcher.{Watcher}
use Rattle.watch.specs.declared.watcher.WatcherState.{WatcherState}

-- the state of a new watcher: the label and all sixteen next states are 0
abbrev pub blank_state : WatcherState
blank_state = record { label = 0; next = replicate 16 0 }

-- the watcher with so many states, all of them blank
abbrev pub blank_watcher : ℕ → Watcher
blank_watcher n = record { states = n; table = replicate 16 blank_state }

-- how many states count: what stands in the watcher, kept within 1 and 16
abbrev pub states_of : Watcher → ℕ
states_of w = max 1 (min w.states 16)

-- the label of state q, kept within 15; 0 for a state that is not there
abbrev pub watch_label : Watcher → ℕ → ℕ
watch_label w q = cond (nat_lt q (states_of w)) (min (slice_index_or w.table q blank_state).label 15) 0

-- the state after q under label p, kept below the number of states; 0 for a state or a label that is not there
abbrev pub watch_next : Watcher → ℕ → ℕ → ℕ
watch_next w q p = cond (nat_lt q (states_of w) && nat_lt p 16) (min (slice_index (slice_index_or w.table q blank_state).next p) (states_of w - 1)) 0

-- whether a watcher may have n states
abbrev pub good_count : ℕ → Bool
good_count n = nat_le 1 n && nat_le n 16

-- whether every state of a list is below n
abbrev pub stay_below : ℕ → List ℕ → Bool
stay_below n qs = list_all (λ q. nat_lt q n) qs

-- whether the watcher may be given s for its state q
abbrev pub good_state : Watcher → ℕ → WatcherState → Bool
good_state w q s = nat_lt q (states_of w) && (nat_le s.label 15 && stay_below (states_of w) s.next)

-- the watcher with s for its state q
abbrev pub with_state : Watcher → ℕ → WatcherState → Watcher
with_state w q s = record { states = w.states; table = slice_set w.table q s }
