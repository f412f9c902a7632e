use Rattle.std.proofs.Common.{ℕ, ◌<◌, ◌≤◌, false}
use Rattle.meter.proofs.counters.last_where.Given as goal

-- no place from this one on passed
abbrev pub invariant-loop-place : goal.invariant-loop-place
invariant-loop-place g l =
    (l.place ≤ l.places) × ((j : ℕ) → l.place ≤ j → j < l.places → goal.F-post g l.test j false)

abbrev pub decreases-loop-place : goal.decreases-loop-place
decreases-loop-place g l = l.place
