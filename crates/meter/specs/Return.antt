-- The return meter: what its readings count as, and how a label takes one up or down.
use Rattle.std.specs.Prelude.{◌≡◌, ℕ, ◌+◌, ◌*◌, true, List, map, replicate, nat_eq}
use Rattle.std.specs.List.{range_with_len}
use Rattle.board.specs.Spot.{Spot, how_many}
use Rattle.meter.specs.Counters.{within, spread, number, raised, lowered}
use Rattle.meter.specs.Marked.{seen_where, shown_over, Scale}
use Rattle.meter.specs.declared.reading.Reading.{Reading}
use Rattle.meter.specs.declared.seen.Seen.{Seen}

-- all eight counters at 0, as a reading that is none or overflow is written
abbrev pub zeros : List ℕ
zeros = replicate 8 0

-- a memory has mark 1; none and overflow, marks 0 and 2, have every counter written as 0
abbrev pub written : Seen (List ℕ) → Reading (List ℕ)
written = shown_over zeros

-- what a reading counts as under these limits: a counter above its limit makes a memory count as none
abbrev pub counts_as : List ℕ → Reading (List ℕ) → Seen (List ℕ)
counts_as ns = seen_where (within ns)

-- it counts as a memory: mark 1, and no counter above its limit
abbrev pub CountsAsMemory : List ℕ → Reading (List ℕ) → Type 0
CountsAsMemory ns x = (x.mark ≡ 1) × (within ns x.content ≡ true)

-- the meter with these limits
abbrev pub return_scale : List ℕ → Scale (Reading (List ℕ)) (List ℕ)
return_scale ns = record {
  seen = counts_as ns;
  shown = written;
  fits = within ns;
  size = spread ns;
  number = number ns;
  first = zeros;
  last = ns;
  raise = raised ns;
  lower = lowered ns;
}

-- the limits that are counted on a board: how many positions bear each odd label
abbrev pub limits_on : List Spot → List ℕ
limits_on b = map (λ k. how_many (λ s. nat_eq s.label (2 * k + 1)) b) (range_with_len 0 8)
