-- The limits that are counted on a board, and what they add up to.
use Rattle.std.proofs.Common.{◌≡◌, ℕ, zero, suc, ◌+◌, ◌*◌, ◌<◌, ◌≤◌, cond, eqb, List, [], ◌∷◌, map, length, get_or, refl, arith}
use Rattle.std.proofs.lemmas.List.FromFn.{length-map-range_with_len}
use Rattle.std.proofs.lemmas.Bool.Decides.{nat_tests}
use Rattle.std.specs.List.{range_with_len}
use Rattle.board.specs.Spot.{Spot, how_many}
use Rattle.meter.specs.Counters.{total}
use Rattle.meter.specs.Return.{limits_on}

-- no limit is more than all together
limit_of_all : (ns : List ℕ) (k : ℕ) → get_or ns k 0 ≤ total ns
limit_of_all [] k = omega arith
limit_of_all (n ∷ ns) zero = omega arith
limit_of_all (n ∷ ns) (suc k) = let rest = limit_of_all ns k in omega arith

pub limit_few : (ns : List ℕ) (k : ℕ) → total ns ≤ 512 → get_or ns k 0 ≤ 512
limit_few ns k few = let one = limit_of_all ns k in omega arith

-- 1 where the position bears the label of place k
hit : ℕ → Spot → ℕ
hit k s = cond (eqb s.label (2 * k + 1)) 1 0

at_place : List Spot → ℕ → ℕ
at_place b k = how_many (λ s. eqb s.label (2 * k + 1)) b

-- a position is counted at one place at most: not again after the place of its label
hits_after : (s : Spot) (k m : ℕ) → s.label < 2 * k + 1 → total (map (λ j. hit j s) (range_with_len k m)) ≡ 0
unfolding hit
hits_after s k zero lt = refl
hits_after s k (suc m) lt = let rest = hits_after s (k + 1) m (omega arith) in grind (arith, nat_tests)

hits_few : (s : Spot) (k m : ℕ) → total (map (λ j. hit j s) (range_with_len k m)) ≤ 1
unfolding hit
hits_few s k zero = omega arith
hits_few s k (suc m) = let rest = hits_few s (k + 1) m in let after = hits_after s (k + 1) m in grind (arith, nat_tests)

-- one position more adds its hits
more_hits : (s : Spot) (b : List Spot) (ks : List ℕ) → total (map (at_place (s ∷ b)) ks) ≡ total (map (λ j. hit j s) ks) + total (map (at_place b) ks)
unfolding hit at_place
more_hits s b [] = refl
more_hits s b (k ∷ ks) = let rest = more_hits s b ks in grind (arith, nat_tests)

all_few : (b : List Spot) → total (map (at_place b) (range_with_len 0 8)) ≤ length b
unfolding at_place
all_few [] = omega arith
all_few (s ∷ b) =
    let rest = all_few b in
    let few = hits_few s 0 8 in
    let more = more_hits s b (range_with_len 0 8) in
    omega arith

-- the limits add up to no more than there are positions
pub limits_few : (b : List Spot) → total (limits_on b) ≤ length b
unfolding at_place
limits_few b = all_few b

pub limits_long : (b : List Spot) → length (limits_on b) ≡ 8
limits_long b = length-map-range_with_len (λ k. how_many (λ s. eqb s.label (2 * k + 1)) b) 0 8
