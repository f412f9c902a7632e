-- A pool board shows its positions under their numbers.
use Rattle.std.proofs.Common.{◌≡◌, ℕ, zero, suc, ◌<◌, Bool, true, false, cond, List, [], ◌∷◌, length, get_or, filter, sym, refl, ap, ◌∙◌, subst, zero-add, arith}
use Rattle.std.specs.List.{range_with_len}
use Rattle.std.proofs.lemmas.List.FromFn.{length-range_with_len, get_or-range_with_len, length-map-range_with_len}
use Rattle.std.proofs.ByRecursion.{All-get_or, kept_by_passes}
use Rattle.board.specs.Spot.{Spot, spot_at}
use Rattle.board.specs.Pool.{InPool, ShowsPool, pool_count, pool_number, pool_state, pool_goes, pool_moves, pool_spot, pool_board}
use Rattle.board.specs.declared.pool_state.PoolState.{PoolState}
use Rattle.board.proofs.PoolNumbers.{number-below, state-of_number, pool_there, spot_for}

-- a place of a list that holds w
abbrev Found : List ℕ → ℕ → Type 0
Found xs w = (i : ℕ) × (i < length xs) × (get_or xs i 0 ≡ w)

found-later : (x w : ℕ) (xs : List ℕ) → Found xs w → Found (x ∷ xs) w
found-later x w xs f = let lt = f.1 in (suc f.0, omega arith, f.2)

-- what passes is kept
found-kept : (test : ℕ → Bool) (xs : List ℕ) (k w : ℕ) → k < length xs → get_or xs k 0 ≡ w → test w ≡ true → Found (filter test xs) w
found-kept test [] k w lt e t = absurd (omega arith)
found-kept test (x ∷ xs) zero w lt e t = rw (e, t) (0, omega arith, refl)
found-kept test (x ∷ xs) (suc k) w lt e t =
    let rest = found-kept test xs k w (omega arith) e t in
    elim (test x) as (λ b. Found (cond b (x ∷ filter test xs) (filter test xs)) w) [ true ↦ found-later x w (filter test xs) rest | false ↦ rest ]

module _ (q : ℕ) where
  -- what stands under a position's number
  under : (p : PoolState) → InPool q p → spot_at (pool_board q) (pool_number q p) ≡ spot_for q p
  under p inside =
      pool_there q (pool_number q p) (number-below q p inside)
      ∙ ap (spot_for q) (state-of_number q p inside)

  goes-found : (p r : PoolState) → InPool q r → pool_goes p r ≡ true → Found (pool_moves q p) (pool_number q r)
  goes-found p r inside goes =
      let below = number-below q r inside in
      found-kept (λ w. pool_goes p (pool_state q w)) (range_with_len 0 (pool_count q)) (pool_number q r) (pool_number q r)
      (rw length-range_with_len below)
      (get_or-range_with_len 0 (pool_count q) (pool_number q r) 0 below ∙ zero-add (pool_number q r))
      (ap (pool_goes p) (state-of_number q r inside) ∙ goes)

  found-goes : (p r : PoolState) → InPool q r → Found (pool_moves q p) (pool_number q r) → pool_goes p r ≡ true
  found-goes p r inside found =
      let test : ℕ → Bool = λ w. pool_goes p (pool_state q w) in
      let passes = All-get_or (λ w. test w ≡ true) (pool_moves q p) found.0 0 found.1 (kept_by_passes test (range_with_len 0 (pool_count q))) in
      sym (ap test found.2 ∙ ap (pool_goes p) (state-of_number q r inside)) ∙ passes

  pub shows : ShowsPool q (pool_board q)
  shows = record {
    count = length-map-range_with_len (pool_spot q) 0 (pool_count q);
    side = λ p inside. ap (λ (s : Spot). s.side) (under p inside);
    label = λ p inside. ap (λ (s : Spot). s.label) (under p inside);
    moves = λ p r inside there. (
      λ goes. subst (λ (ms : List ℕ). Found ms (pool_number q r)) (sym (ap (λ (s : Spot). s.moves) (under p inside))) (goes-found p r there goes),
      λ found. found-goes p r there (subst (λ (ms : List ℕ). Found ms (pool_number q r)) (ap (λ (s : Spot). s.moves) (under p inside)) found),
    );
  }
