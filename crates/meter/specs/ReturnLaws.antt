-- Why the return meter keeps the laws: the witness that its `impl` gives. Nothing here has to be read to understand a
-- contract.
use Rattle.std.specs.Prelude.{◌≡◌, ℕ, ◌+◌, ◌*◌, ◌%◌, ◌<◌, ◌≤◌, Bool, true, false, cond, List, length, drop, replicate, ◌==◌}
use Rattle.std.proofs.Common.{⊎_elim, add-mul, mul-le-mul_right}
use Rattle.std.proofs.Math.Path.{subst}
use native.Mathlib.Omega.{arith}
use Rattle.std.proofs.lemmas.Bool.{cases_lt}
use Rattle.meter.specs.Counters.{within, total, spread, number, cleared, filled, places_to, last_place, has_room, has_some, carried, borrowed}
use Rattle.meter.specs.CounterSteps.{before, weight, rank_of, cleared-number, filled-number, carried-rank, carried-well, borrowed-rank, borrowed-well}
use Rattle.meter.specs.Few.{spread-few}
use Rattle.meter.specs.Gauge.{Laws, ExactlyWhen}
use Rattle.meter.specs.Marked.{gauge_of}
use Rattle.meter.specs.MarkedLaws.{Well, Lawful, seen-well, seen-shown, marked-laws}
use Rattle.meter.specs.Radix.{within-length, within-drop, within-zeros, within-full, within-cleared, within-filled, number-below, number-zeros, number-full, number-split, spread-some}
use Rattle.meter.specs.Return.{zeros, return_scale}
use Rattle.meter.specs.declared.seen.Seen.{Seen}
use Rattle.meter.specs.declared.seen.Seen.TheVariants.{Memory}

-- a multiple below the next multiple is at most this one
multiple : (a b m : ℕ) → a * m < b * m + m → a * m ≤ b * m
multiple a b m h =
    ⊎_elim
    (λ (lt : b < a).
    let more = mul-le-mul_right {m = b + 1} {n = a} m (omega arith) in
    let one = add-mul b 1 m in
    absurd (omega arith))
    (λ (ge : a ≤ b). mul-le-mul_right m ge)
    (cases_lt b a)

-- the arithmetic of the adjoint law: a and b are the numbers of the counters that a step keeps, r and s what the others add
even_adjoint : (a b m r s : ℕ) → r < m → s < m → ExactlyWhen (a * m + 1 ≤ b * m + s + 1) (a * m + r + 1 ≤ b * m + m)
even_adjoint a b m r s lr ls = (
  λ h. let k = multiple a b m (omega arith) in omega arith,
  λ h. let k = multiple a b m (omega arith) in omega arith,
)

odd_adjoint : (a b m r s : ℕ) → r < m → s < m → ExactlyWhen ((a + 1) * m + 1 ≤ b * m + s + 1) (a * m + r + 1 ≤ b * m)
odd_adjoint a b m r s lr ls =
    let one = add-mul a 1 m in (
      λ h. let k = multiple (a + 1) b m (omega arith) in omega arith,
      λ h. ⊎_elim
          (λ (lt : b * m < (a + 1) * m). let k = multiple b a m (omega arith) in absurd (omega arith))
          (λ (ge : (a + 1) * m ≤ b * m). omega arith)
          (cases_lt (b * m) ((a + 1) * m)),
    )

-- the steps of a memory, with the first k counters kept or counted
module _ (ns : List ℕ) (k : ℕ) (le : k ≤ length ns) where
  up : Bool → List ℕ → Seen (List ℕ)
  up even cs = cond even (Memory (cleared k cs)) (carried cs (last_place (has_room ns cs) k))

  down : Bool → List ℕ → Seen (List ℕ)
  down even cs = cond even (Memory (filled k ns cs)) (borrowed ns cs (last_place (has_some cs) k))

  up-well : (even : Bool) (cs : List ℕ) → within ns cs ≡ true → Well (within ns) (up even cs) × (1 ≤ rank_of ns (up even cs))
  unfolding up
  up-well true cs w = (within-cleared ns cs k w, omega arith)
  up-well false cs w = let r = carried-rank ns cs w k le in (carried-well ns cs w k, omega arith)

  -- the number of counters within their limits, cut after the first k
  record Cut (cs : List ℕ) : Type 0 where
    rest : ℕ
    small : rest < weight k ns
    whole : number ns cs ≡ before k ns cs * weight k ns + rest

  cut : (cs : List ℕ) → within ns cs ≡ true → Cut cs
  cut cs w = record {
    rest = number (drop k ns) (drop k cs);
    small = number-below (drop k ns) (drop k cs) (within-drop ns cs k w);
    whole = number-split ns cs k (within-length ns cs w);
  }

  down-well : (even : Bool) (cs : List ℕ) → within ns cs ≡ true → Well (within ns) (down even cs) × (rank_of ns (down even cs) ≤ spread ns)
  unfolding down
  down-well true cs w =
      let fits = within-filled ns cs k w in let b = number-below ns (filled k ns cs) fits in (fits, omega arith)
  down-well false cs w =
      let r = borrowed-rank ns cs w k le in
      let b = number-below ns cs w in
      let c = cut cs w in
      (borrowed-well ns cs w k, omega arith)

  steps-adjoint : (even : Bool) (cs ds : List ℕ) → within ns cs ≡ true → within ns ds ≡ true → ExactlyWhen (rank_of ns (up even cs) ≤ number ns ds + 1) (number ns cs + 1 ≤ rank_of ns (down even ds))
  unfolding up down
  steps-adjoint true cs ds w v =
      let a = cut cs w in
      let b = cut ds v in
      let raise = cleared-number ns cs k in
      let lower = filled-number ns ds k (within-length ns ds v) in
      let law = even_adjoint (before k ns cs) (before k ns ds) (weight k ns) a.rest b.rest a.small b.small in
      (λ h. let q = law.0 (omega arith) in omega arith, λ h. let q = law.1 (omega arith) in omega arith)
  steps-adjoint false cs ds w v =
      let a = cut cs w in
      let b = cut ds v in
      let raise = carried-rank ns cs w k le in
      let lower = borrowed-rank ns ds v k le in
      let law = odd_adjoint (before k ns cs) (before k ns ds) (weight k ns) a.rest b.rest a.small b.small in
      (λ h. let q = law.0 (omega arith) in omega arith, λ h. let q = law.1 (omega arith) in omega arith)

module _ (ns : List ℕ) (long : length ns ≡ 8) (few : total ns ≤ 512) where
  places : (p : ℕ) → p < 16 → places_to p ≤ length ns
  places p lt = omega arith

  return-lawful : Lawful (return_scale ns)
  unfolding up down
  return-lawful = record {
    some = spread-some ns;
    few = spread-few ns long few;
    seen_well = seen-well (within ns);
    seen_shown = seen-shown (within ns) zeros;
    below = number-below ns;
    first_fits = subst (λ (m : ℕ). within ns (replicate m 0) ≡ true) long (within-zeros ns);
    first_number = number-zeros ns 8;
    last_fits = within-full ns;
    last_number = number-full ns;
    raised = λ cs p lt. up-well ns (places_to p) (places p lt) (p % 2 == 0) cs;
    lowered = λ cs p lt. down-well ns (places_to p) (places p lt) (p % 2 == 0) cs;
    adjoint = λ cs ds p lt. steps-adjoint ns (places_to p) (places p lt) (p % 2 == 0) cs ds;
  }

  -- the laws, for every list of eight limits that add up to at most 512
  pub return-laws : Laws (gauge_of (return_scale ns))
  return-laws = marked-laws (return_scale ns) return-lawful
