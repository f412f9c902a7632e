-- A test that shows a board to be fair, for boards that are computed. Nothing here has to be read to
-- understand a contract.
use Rattle.std.specs.Prelude.{◌≡◌, ℕ, zero, suc, ◌<◌, ◌≤◌, Bool, true, ◌&&◌, List, length, nat_le, nat_lt}
use Rattle.std.proofs.Common.{⊎_elim, arith}
use Rattle.std.proofs.lemmas.Bool.{and_parts, leb-true, ltb-true, cases_lt}
use Rattle.std.specs.List.{list_all}
use Rattle.std.proofs.lemmas.List.Sums.{AllPass-from_list_all}
use Rattle.board.specs.Spot.{Spot, blank, spot_at}
use Rattle.board.specs.Fair.{Fair, FairSpot}
use Rattle.board.specs.Fairness.{rising-within, rising-ascends}
use Rattle.board.specs.Rising.{rising}

-- every number below n passes
abbrev pub all_below : ℕ → (ℕ → Bool) → Bool
all_below zero test = true
all_below (suc n) test = test n && all_below n test

-- so each of them does
pub passes_below : (n : ℕ) (test : ℕ → Bool) → all_below n test ≡ true → (k : ℕ) → k < n → test k ≡ true
passes_below zero test h k lt = absurd (omega arith)
passes_below (suc n) test h k lt =
    let p = and_parts (test n) (all_below n test) h in
    ⊎_elim
    (λ (below : k < n). passes_below n test p.1 k below)
    (λ (past : n ≤ k). let same : n ≡ k = omega arith in rw (← same) p.0)
    (cases_lt k n)

-- a position of a board of n
abbrev pub fair_spot_test : ℕ → Spot → Bool
fair_spot_test n s = nat_lt s.side 2 && (nat_lt s.label 16 && (nat_le (length s.moves) 16 && rising n 0 s.moves))

-- every position of a list
abbrev pub fair_spots_test : ℕ → List Spot → Bool
fair_spots_test n b = list_all (fair_spot_test n) b

-- the whole board
abbrev pub fair_test : List Spot → Bool
fair_test b = nat_le 1 (length b) && (nat_le (length b) 512 && fair_spots_test (length b) b)

fair-spot_from : (n : ℕ) (s : Spot) → fair_spot_test n s ≡ true → FairSpot n s
fair-spot_from n s h =
    let p = and_parts _ _ h in
    let q = and_parts _ _ p.1 in
    let r = and_parts _ _ q.1 in
    record {
      side_known = ltb-true s.side 2 p.0;
      label_known = ltb-true s.label 16 q.0;
      few = leb-true (length s.moves) 16 r.0;
      within = λ i lt. (rising-within n 0 s.moves r.1 i lt).1;
      ascending = rising-ascends n 0 s.moves r.1;
    }

fair-spots_from : (n : ℕ) (b : List Spot) → fair_spots_test n b ≡ true → (v : ℕ) → v < length b → FairSpot n (spot_at b v)
fair-spots_from n b h v lt = fair-spot_from n (spot_at b v) (AllPass-from_list_all (fair_spot_test n) b h v blank lt)

-- a board that passes is fair
pub fair-from : (b : List Spot) → fair_test b ≡ true → Fair b
fair-from b h =
    let p = and_parts _ _ h in
    let q = and_parts _ _ p.1 in
    record { some = leb-true 1 (length b) p.0; most = leb-true (length b) 512 q.0; each = fair-spots_from (length b) b q.1 }
