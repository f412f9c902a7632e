-- The deadline meter: a memory is a number up to the limit, which labels keep, raise by one or take back to 0.
use Rattle.std.specs.Prelude.{ℕ, ◌+◌, ◌-◌, cond, List, ◌==◌, nat_le, nat_lt}
use Rattle.meter.specs.Marked.{seen_where, shown_over, Scale}
use Rattle.meter.specs.Actions.{action_at}
use Rattle.meter.specs.declared.actions.Action.{Action}
use Rattle.meter.specs.declared.actions.Action.TheVariants.{Keep, Add, Back}
use Rattle.meter.specs.declared.reading.Reading.{Reading}
use Rattle.meter.specs.declared.seen.Seen.{Seen}
use Rattle.meter.specs.declared.seen.Seen.TheVariants.{None, Memory, Overflow}

-- what a reading counts as: a memory's number is at most the limit
abbrev pub seen_below : ℕ → Reading ℕ → Seen ℕ
seen_below limit = seen_where (λ n. nat_le n limit)

-- how it is written: none and overflow have the number 0
abbrev pub shown_as : Seen ℕ → Reading ℕ
shown_as = shown_over 0

-- where an action takes the number n; one more than the limit is overflow
abbrev pub raise_by : ℕ → ℕ → Action → Seen ℕ
raise_by limit n Keep = Memory n
raise_by limit n Add = cond (nat_lt n limit) (Memory (n + 1)) Overflow
raise_by limit n Back = Memory 0

-- the greatest that it takes to n or below
abbrev pub lower_by : ℕ → ℕ → Action → Seen ℕ
lower_by limit n Keep = Memory n
lower_by limit n Add = cond (n == 0) None (Memory (n - 1))
lower_by limit n Back = Memory limit

-- the meter with the limit and the actions of the labels: its memories are the numbers from 0 to the limit
abbrev pub deadline_scale : ℕ → List Action → Scale (Reading ℕ) ℕ
deadline_scale limit actions = record {
  seen = seen_below limit;
  shown = shown_as;
  fits = λ n. nat_le n limit;
  size = limit + 1;
  number = λ n. n;
  first = 0;
  last = limit;
  raise = λ n p. raise_by limit n (action_at actions p);
  lower = λ n p. lower_by limit n (action_at actions p);
}
