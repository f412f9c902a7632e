-- What reading gives, from what the survey found.
use Rattle.std.proofs.Common.{◌≡◌, ℕ, suc, ◌+◌, ◌<◌, ◌≤◌, true, ◌⊎◌, List, [], ◌∷◌, length, is_ok, Ok, Err, Result, refl, ap, ◌∙◌, arith}
use Rattle.std.proofs.lemmas.Bool.{false≢true}
use Rattle.std.proofs.lemmas.Bool.Decides.{nat_tests}
use Rattle.board.specs.Spot.{Spot, all_moves}
use Rattle.board_text.specs.Passes.{board_in, after_opening, total_of}
use Rattle.board_text.specs.Reading.{records_of, fitted, reading, counts}
use Rattle.board_text.specs.Verdict.{Fault, opening, spots_in, end_in}
use Rattle.board_text.specs.declared.refusals.TextRefusal.TheVariants.{NoRoom}
use Rattle.board_text.proofs.Framed.{goes_on, went_on}
use Rattle.board_text.proofs.Texts.{spots-count}

-- a verdict without a fault is its board
pub board_is : (v : Result (List Spot) Fault) → is_ok v ≡ true → v ≡ Ok (board_in v)
board_is (Ok b) good = refl
board_is (Err f) good = absurd (false≢true good)

-- a board has as many records as positions
pub length_records : (before : ℕ) (b : List Spot) → length (records_of before b) ≡ length b
length_records before [] = refl
length_records before (s ∷ b) = ap suc (length_records (before + length s.moves) b)

-- what a survey without a fault says of the verdict
pub record Counted (v : Result (List Spot) Fault) (n m : ℕ) : Type 0 where
  pub good : is_ok v ≡ true
  pub count : length (board_in v) ≡ n
  pub total : length (all_moves (board_in v)) ≡ m

pub counted : (v : Result (List Spot) Fault) (n m : ℕ) → Ok (n, m) ≡ counts v → Counted v n m
counted (Ok b) n m e =
    let same : ◌≡◌ {A = ℕ × ℕ} (length b, length (all_moves b)) (n, m) = cc in
    record { good = refl; count = ap (λ (q : ℕ × ℕ). q.0) same; total = ap (λ (q : ℕ × ℕ). q.1) same }
counted (Err f) n m e = cc

-- and one with a fault
pub faulted : (v : Result (List Spot) Fault) (f : Fault) → Err f ≡ counts v → v ≡ Err f
faulted (Ok b) f e = cc
faulted (Err g) f e = cc

module _ (v : Result (List Spot) Fault) (good : is_ok v ≡ true) (records moves : ℕ) where
  -- slices that have room get the board
  pub fitted-well : length (board_in v) ≤ records → length (all_moves (board_in v)) ≤ moves → fitted v records moves ≡ Ok (board_in v)
  fitted-well enough plenty = rw (board_is v good) (grind (arith, nat_tests))

  -- slices of which one is too short are refused
  pub fitted_short : (records < length (board_in v)) ⊎ (moves < length (all_moves (board_in v))) → fitted v records moves ≡ Err (NoRoom, 0)
  fitted_short short = rw (board_is v good) (grind (arith, nat_tests))

-- what a board was judged from
pub good_spots : (n : ℕ) (t : List ℕ) → is_ok (after_opening n t) ≡ true → (after : List ℕ) × (spots_in n n 2 t ≡ Ok (board_in (after_opening n t), after))
good_spots n t good =
    let b = board_in (after_opening n t) in
    let spots = went_on (spots_in n n 2 t) _ b (board_is (after_opening n t) good) in
    let p = spots.0 in
    let ends = went_on (end_in (length (all_moves p.0)) (n + 2) p.1) _ b spots.2 in
    let same : p.0 ≡ b = cc ends.2 in
    (p.1, spots.1 ∙ ap (λ (x : List Spot). Ok (x, p.1)) same)

-- its positions are as many as the first line says
pub good_count : (n : ℕ) (t : List ℕ) → is_ok (after_opening n t) ≡ true → length (board_in (after_opening n t)) ≡ n
good_count n t good = let spots = good_spots n t good in spots-count n n 2 t (board_in (after_opening n t), spots.0) spots.1

-- a text that has moves after its first line is a board
totalled : (v : Result (List Spot) Fault) (m : ℕ) → Ok m ≡ total_of v → (is_ok v ≡ true) × (length (all_moves (board_in v)) ≡ m)
totalled (Ok b) m e = (refl, cc)
totalled (Err f) m e = cc

-- what the survey says of it
pub surveyed : (n m : ℕ) (t : List ℕ) → Ok m ≡ total_of (after_opening n t) → Counted (after_opening n t) n m
surveyed n m t e =
    let all = totalled (after_opening n t) m e in
    record { good = all.0; count = good_count n t all.0; total = all.1 }

-- what reading gives, once the first line gave n positions and the survey m moves
module _ (t : List ℕ) {r : List ℕ} {n m : ℕ} (opened : opening t ≡ Ok (n, r)) (total : Ok m ≡ total_of (after_opening n r)) (records moves : ℕ) where
  judged : (v : Result (List Spot) Fault) → fitted (after_opening n r) records moves ≡ v → reading t records moves ≡ v
  judged v e = ap (λ (x : Result (List Spot) Fault). fitted x records moves) (goes_on (opening t) _ (n, r) opened) ∙ e

  pub reading_well : n ≤ records → m ≤ moves → reading t records moves ≡ Ok (board_in (after_opening n r))
  reading_well enough plenty =
      let found = surveyed n m r total in
      let count = found.count in
      let all = found.total in
      judged _ (fitted-well (after_opening n r) found.good records moves (omega arith) (omega arith))

  pub reading_short : (records < n) ⊎ (moves < m) → reading t records moves ≡ Err (NoRoom, 0)
  reading_short short =
      let found = surveyed n m r total in
      judged _ (fitted_short (after_opening n r) found.good records moves (rw (found.count, found.total) short))
