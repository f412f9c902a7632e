-- What counting over a board has done and has left, and how far it can come.
use Rattle.std.proofs.Common.{◌≡◌, ℕ, suc, ◌+◌, ◌*◌, ◌<◌, ◌≤◌, Bool, true, false, cond, List, [], ◌∷◌, length, filter, refl, ap, ⊎_elim, arith}
use Rattle.std.specs.List.{range_with_len, sum_by}
use Rattle.std.proofs.lemmas.List.{length-append, get_or_past}
use Rattle.std.proofs.lemmas.List.Sums.{sum_by-cons}
use Rattle.std.proofs.lemmas.Bool.{cases_lt}
use Rattle.board.specs.Spot.{Spot, blank, spot_at, moves_of, all_moves, how_many}
use Rattle.board.specs.Fair.{Fair}

-- no more positions pass a test than there are
pub how_many-most : (test : Spot → Bool) (b : List Spot) → how_many test b ≤ length b
how_many-most test [] = omega arith
how_many-most test (s ∷ b) =
    let rest = how_many-most test b in
    elim (test s) as (λ t. cond t (1 + how_many test b) (how_many test b) ≤ length (s ∷ b)) [ true ↦ omega arith | false ↦ omega arith ]

-- the positions that pass a test, asked for by their numbers, from k on
passing_from : (test : Spot → Bool) (b : List Spot) (k : ℕ) (f : ℕ → Bool) → ((i v : ℕ) → k + i ≡ v → i < length b → f v ≡ test (spot_at b i)) → length (filter f (range_with_len k (length b))) ≡ how_many test b
passing_from test [] k f h = refl
passing_from test (s ∷ b) k f h =
    let rest = passing_from test b (k + 1) f (λ i v e lt. h (suc i) v (omega arith) (omega arith)) in
    rw (h 0 k (omega arith) (omega arith)) (elim (test s) as (λ t. length (cond t (k ∷ filter f (range_with_len (k + 1) (length b))) (filter f (range_with_len (k + 1) (length b)))) ≡ cond t (1 + how_many test b) (how_many test b)) [ true ↦ omega arith | false ↦ rest ])

pub passing : (test : Spot → Bool) (b : List Spot) → length (filter (λ v. test (spot_at b v)) (range_with_len 0 (length b))) ≡ how_many test b
passing test b = passing_from test b 0 (λ v. test (spot_at b v)) (λ i v e lt. ap (λ j. test (spot_at b j)) (let same : v ≡ i = omega arith in same))

-- the moves of all positions, asked for by their numbers, from k on
moves_from : (b : List Spot) (k : ℕ) (f : ℕ → ℕ) → ((i v : ℕ) → k + i ≡ v → i < length b → f v ≡ moves_of b i) → sum_by f (range_with_len k (length b)) ≡ length (all_moves b)
moves_from [] k f h = refl
moves_from (s ∷ b) k f h =
    let rest = moves_from b (k + 1) f (λ i v e lt. h (suc i) v (omega arith) (omega arith)) in
    let first = h 0 k (omega arith) (omega arith) in
    let head : sum_by f (range_with_len k (length (s ∷ b))) ≡ f k + sum_by f (range_with_len (k + 1) (length b)) = sum_by-cons f k (range_with_len (k + 1) (length b)) in
    simp length-append (omega arith)

pub moves_in_all : (b : List Spot) → sum_by (λ v. moves_of b v) (range_with_len 0 (length b)) ≡ length (all_moves b)
moves_in_all b = moves_from b 0 (λ v. moves_of b v) (λ i v e lt. ap (λ j. moves_of b j) (let same : v ≡ i = omega arith in same))

few-each : (b : List Spot) → ((v : ℕ) → v < length b → moves_of b v ≤ 16) → length (all_moves b) ≤ 16 * length b
few-each [] each = omega arith
few-each (s ∷ b) each =
    let rest = few-each b (λ v lt. each (suc v) (omega arith)) in
    let first = each 0 (omega arith) in
    simp length-append (omega arith)

-- sixteen moves a position at most
pub few-moves : (b : List Spot) → Fair b → length (all_moves b) ≤ 16 * length b
few-moves b f = few-each b (λ v lt. (f.each v lt).few)

-- also where there is no position
pub few-at : (b : List Spot) → Fair b → (v : ℕ) → moves_of b v ≤ 16
few-at b f v =
    ⊎_elim
    (λ (lt : v < length b). (f.each v lt).few)
    (λ (past : length b ≤ v). let e = ap (λ (s : Spot). length s.moves) (get_or_past b v blank past) in omega arith)
    (cases_lt v (length b))
