-- Counters and their limits: the order of return memories, and what a label does to one. Place k of a list belongs to
-- the label 2k + 1, so the first k places are those of the odd labels below 2k.
use Rattle.std.specs.Prelude.{◌≡◌, ℕ, zero, suc, ◌+◌, ◌-◌, ◌*◌, ◌/◌, ◌%◌, ◌<◌, Bool, true, false, cond, ◌&&◌, List, [], ◌∷◌, ◌++◌, length, take, drop, replicate, Some, None, Option, ◌==◌, nat_le, nat_lt, slice_index, slice_index_or, slice_set}
use Rattle.meter.specs.declared.seen.Seen.{Seen}
use Rattle.meter.specs.declared.seen.Seen.TheVariants.{None as Nothing, Memory, Overflow}

-- there are as many counters as limits, and none is above its limit
abbrev pub within : List ℕ → List ℕ → Bool
within [] [] = true
within [] (c ∷ cs) = false
within (n ∷ ns) [] = false
within (n ∷ ns) (c ∷ cs) = nat_le c n && within ns cs

-- all limits together
abbrev pub total : List ℕ → ℕ
total [] = 0
total (n ∷ ns) = n + total ns

-- how many lists of counters there are within the limits
abbrev pub spread : List ℕ → ℕ
spread [] = 1
spread (n ∷ ns) = (n + 1) * spread ns

-- the counters as one number in mixed radix, the first counter weighing most
abbrev pub number : List ℕ → List ℕ → ℕ
number [] cs = 0
number (n ∷ ns) [] = 0
number (n ∷ ns) (c ∷ cs) = c * spread ns + number ns cs

-- of two lists of counters, the first is smaller where they first differ
pub record Smaller (cs ds : List ℕ) : Type 0 where
  pub place : ℕ
  pub same : take place cs ≡ take place ds
  pub less : slice_index_or cs place 0 < slice_index ds place

-- how many counters belong to labels up to p
abbrev pub places_to : ℕ → ℕ
places_to p = (p + 1) / 2

-- from place k on every counter is 0
abbrev pub cleared : ℕ → List ℕ → List ℕ
cleared k cs = take k cs ++ replicate (length cs - k) 0

-- from place k on every counter is at its limit
abbrev pub filled : ℕ → List ℕ → List ℕ → List ℕ
filled k ns cs = take k cs ++ drop k ns

-- the last of the first k places that passes a test
abbrev pub last_place : (ℕ → Bool) → ℕ → Option ℕ
last_place test zero = None
last_place test (suc k) = cond (test k) (Some k) (last_place test k)

-- the last of the first k places at which a test answers true, by what it answers at each
abbrev pub AnswersLast : (ℕ → Bool → Type 0) → ℕ → Option ℕ → Type 0
AnswersLast answers k None = (j : ℕ) → j < k → answers j false
AnswersLast answers k (Some p) = (p < k) × answers p true × ((j : ℕ) → p < j → j < k → answers j false)

-- a place whose counter is below its limit
abbrev pub has_room : List ℕ → List ℕ → ℕ → Bool
has_room ns cs k = nat_lt (slice_index cs k) (slice_index ns k)

-- a place whose counter is above 0
abbrev pub has_some : List ℕ → ℕ → Bool
has_some cs k = nat_lt 0 (slice_index cs k)

-- one more at the place, 0 after it; overflow where there is no place
abbrev pub carried : List ℕ → Option ℕ → Seen (List ℕ)
carried cs None = Overflow
carried cs (Some k) = Memory (slice_set (cleared (k + 1) cs) k (slice_index cs k + 1))

-- one less at the place, the limits after it; none where there is no place
abbrev pub borrowed : List ℕ → List ℕ → Option ℕ → Seen (List ℕ)
borrowed ns cs None = Nothing
borrowed ns cs (Some k) = Memory (slice_set (filled (k + 1) ns cs) k (slice_index cs k - 1))

-- up by p: an even label clears the counters of labels above it; an odd one adds to the last counter up to it that has room
abbrev pub raised : List ℕ → List ℕ → ℕ → Seen (List ℕ)
raised ns cs p = cond (p % 2 == 0) (Memory (cleared (places_to p) cs)) (carried cs (last_place (has_room ns cs) (places_to p)))

-- down by p: an even label fills the counters of labels above it; an odd one takes from the last counter up to it that has some
abbrev pub lowered : List ℕ → List ℕ → ℕ → Seen (List ℕ)
lowered ns cs p = cond (p % 2 == 0) (Memory (filled (places_to p) ns cs)) (borrowed ns cs (last_place (has_some cs) (places_to p)))
