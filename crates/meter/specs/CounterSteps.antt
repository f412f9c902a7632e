-- What the steps of counters do to their number, over any list of limits. Nothing here has to be read to understand a
-- contract.
use Rattle.std.specs.Prelude.{◌≡◌, ℕ, zero, suc, ◌+◌, ◌-◌, ◌*◌, ◌<◌, ◌≤◌, true, List, [], ◌∷◌, ◌++◌, length, take, drop, replicate, slice_index, slice_index_or, slice_set, refl}
use Rattle.std.proofs.Common.{sym, ap, ◌∙◌, add-mul, mul_assoc, add-one, arith}
use Rattle.std.proofs.lemmas.Bool.Decides.{nat_tests}
use Rattle.meter.specs.Counters.{within, spread, number, cleared, filled, last_place, has_room, has_some, carried, borrowed}
use Rattle.meter.specs.Marked.{rank_in}
use Rattle.meter.specs.declared.seen.Seen.{Seen}
use Rattle.meter.specs.MarkedLaws.{Well}
use Rattle.meter.specs.Radix.{within-length, within-at, within-set, within-cleared, within-filled, number-zeros, number-full, number-set, spread_at, number_at, spread-split}

-- the number of the first k counters, and how many lists there are of the others
abbrev pub before : ℕ → List ℕ → List ℕ → ℕ
before k ns cs = number (take k ns) (take k cs)

abbrev pub weight : ℕ → List ℕ → ℕ
weight k ns = spread (drop k ns)

-- the rank of what counters count as
abbrev pub rank_of : List ℕ → Seen (List ℕ) → ℕ
rank_of ns = rank_in (spread ns) (number ns)

clear_number : (ns cs : List ℕ) (k m : ℕ) → number ns (take k cs ++ replicate m 0) ≡ before k ns cs * weight k ns
clear_number ns cs zero m = let z = number-zeros ns m in omega arith
clear_number [] cs (suc k) m = refl
clear_number (n ∷ ns) [] (suc k) m = let z = number-zeros (n ∷ ns) m in omega arith
clear_number (n ∷ ns) (c ∷ cs) (suc k) m =
    let rest = clear_number ns cs k m in
    let split = ap (λ (x : ℕ). c * x) (spread-split ns k) in
    let group = mul_assoc c (spread (take k ns)) (weight k ns) in
    let apart = add-mul (c * spread (take k ns)) (before k ns cs) (weight k ns) in
    omega arith

pub cleared-number : (ns cs : List ℕ) (k : ℕ) → number ns (cleared k cs) ≡ before k ns cs * weight k ns
cleared-number ns cs k = clear_number ns cs k (length cs - k)

pub filled-number : (ns cs : List ℕ) (k : ℕ) → length ns ≡ length cs → number ns (filled k ns cs) + 1 ≡ before k ns cs * weight k ns + weight k ns
filled-number ns cs zero e = let f = number-full ns in omega arith
filled-number [] cs (suc k) e = refl
filled-number (n ∷ ns) [] (suc k) e = absurd (omega arith)
filled-number (n ∷ ns) (c ∷ cs) (suc k) e =
    let rest = filled-number ns cs k (omega arith) in
    let split = ap (λ (x : ℕ). c * x) (spread-split ns k) in
    let group = mul_assoc c (spread (take k ns)) (weight k ns) in
    let apart = add-mul (c * spread (take k ns)) (before k ns cs) (weight k ns) in
    omega arith

-- the counter at a place before the one from which all are cleared or filled
front_at : (cs ds : List ℕ) (k : ℕ) → k < length cs → slice_index (take (suc k) cs ++ ds) k ≡ slice_index cs k
front_at [] ds k lt = absurd (omega arith)
front_at (c ∷ cs) ds zero lt = refl
front_at (c ∷ cs) ds (suc k) lt = front_at cs ds k (omega arith)

module _ (ns cs : List ℕ) (w : within ns cs ≡ true) where
  -- a full counter hands the carry on, and an empty one the borrow
  carry-on : (k : ℕ) → k < length ns → slice_index cs k ≡ slice_index ns k → (before k ns cs + 1) * weight k ns ≡ (before (suc k) ns cs + 1) * weight (suc k) ns
  carry-on k lt full =
      let n = slice_index_or ns k 0 in
      let outer = ap (λ (x : ℕ). (before k ns cs + 1) * x) (spread_at ns k lt) in
      let group = mul_assoc (before k ns cs + 1) (n + 1) (weight (suc k) ns) in
      let inner = number_at ns cs k lt (within-length ns cs w) in
      let apart = add-mul (before k ns cs) 1 (n + 1) in
      let same : (before k ns cs + 1) * (n + 1) ≡ before (suc k) ns cs + 1 = omega arith in
      outer ∙ sym group ∙ ap (λ (x : ℕ). x * weight (suc k) ns) same

  borrow-on : (k : ℕ) → k < length ns → slice_index cs k ≡ 0 → before k ns cs * weight k ns ≡ before (suc k) ns cs * weight (suc k) ns
  borrow-on k lt empty =
      let n = slice_index_or ns k 0 in
      let outer = ap (λ (x : ℕ). before k ns cs * x) (spread_at ns k lt) in
      let group = mul_assoc (before k ns cs) (n + 1) (weight (suc k) ns) in
      let inner = number_at ns cs k lt (within-length ns cs w) in
      let same : before k ns cs * (n + 1) ≡ before (suc k) ns cs = omega arith in
      outer ∙ sym group ∙ ap (λ (x : ℕ). x * weight (suc k) ns) same

  -- one more at place k, 0 after it
  more-number : (k : ℕ) → k < length ns → number ns (slice_set (cleared (suc k) cs) k (slice_index cs k + 1)) ≡ (before (suc k) ns cs + 1) * weight (suc k) ns
  more-number k lt =
      let same = within-length ns cs w in
      let c = slice_index_or cs k 0 in
      let W = weight (suc k) ns in
      let at : slice_index_or (cleared (suc k) cs) k 0 ≡ c = front_at cs (replicate (length cs - suc k) 0) k (omega arith) in
      let long : length ns ≡ length (cleared (suc k) cs) = within-length ns (cleared (suc k) cs) (within-cleared ns cs (suc k) w) in
      let put = number-set ns (cleared (suc k) cs) k lt long (c + 1) in
      let was = cleared-number ns cs (suc k) in
      let one = add-mul c 1 W in
      let held = ap (λ (x : ℕ). x * W) at in
      let apart = add-mul (before (suc k) ns cs) 1 W in
      omega arith

  -- one less at place k, the limits after it
  less-number : (k : ℕ) → k < length ns → 0 < slice_index cs k → number ns (slice_set (filled (suc k) ns cs) k (slice_index cs k - 1)) + 1 ≡ before (suc k) ns cs * weight (suc k) ns
  less-number k lt some =
      let same = within-length ns cs w in
      let c = slice_index_or cs k 0 in
      let W = weight (suc k) ns in
      let at : slice_index_or (filled (suc k) ns cs) k 0 ≡ c = front_at cs (drop (suc k) ns) k (omega arith) in
      let long : length ns ≡ length (filled (suc k) ns cs) = within-length ns (filled (suc k) ns cs) (within-filled ns cs (suc k) w) in
      let put = number-set ns (filled (suc k) ns cs) k lt long (c - 1) in
      let was = filled-number ns cs (suc k) same in
      let split : c ≡ (c - 1) + 1 = omega arith in
      let one = ap (λ (x : ℕ). x * W) split ∙ add-mul (c - 1) 1 W in
      let held = ap (λ (x : ℕ). x * W) at in
      omega arith

  pub carried-rank : (k : ℕ) → k ≤ length ns → rank_of ns (carried cs (last_place (has_room ns cs) k)) ≡ (before k ns cs + 1) * weight k ns + 1
  carried-rank zero le = omega arith
  carried-rank (suc k) le =
      let rest = carried-rank k (omega arith) in
      let put = more-number k (omega arith) in
      let on = carry-on k (omega arith) in
      let most = within-at ns cs w k in
      let next = add-one k in
      grind (arith, nat_tests)

  pub carried-well : (k : ℕ) → Well (within ns) (carried cs (last_place (has_room ns cs) k))
  carried-well zero = tt
  carried-well (suc k) =
      let rest = carried-well k in
      let put = within-set ns (cleared (k + 1) cs) k (slice_index cs k + 1) (within-cleared ns cs (k + 1) w) in
      grind (arith, nat_tests)

  pub borrowed-rank : (k : ℕ) → k ≤ length ns → rank_of ns (borrowed ns cs (last_place (has_some cs) k)) ≡ before k ns cs * weight k ns
  borrowed-rank zero le = omega arith
  borrowed-rank (suc k) le =
      let rest = borrowed-rank k (omega arith) in
      let put = less-number k (omega arith) in
      let on = borrow-on k (omega arith) in
      let next = add-one k in
      grind (arith, nat_tests)

  pub borrowed-well : (k : ℕ) → Well (within ns) (borrowed ns cs (last_place (has_some cs) k))
  borrowed-well zero = tt
  borrowed-well (suc k) =
      let rest = borrowed-well k in
      let most = within-at ns cs w k in
      let put = within-set ns (filled (k + 1) ns cs) k (slice_index cs k - 1) (within-filled ns cs (k + 1) w) in
      grind (arith, nat_tests)
