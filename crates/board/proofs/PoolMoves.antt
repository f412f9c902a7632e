-- The moves of a pool board by their places. That they are those of the meaning is computed for every
-- position of every pool.
use Rattle.std.proofs.Common.{◌≡◌, ℕ, ◌+◌, ◌-◌, ◌*◌, ◌<◌, ◌≤◌, Bool, true, false, cond, ◌&&◌, eqb, leb, List, [], ◌∷◌, map, length, get_or, sym, refl, ap, ◌∙◌, subst, arith}
use Rattle.std.specs.List.{range_with_len}
use Rattle.std.proofs.lemmas.List.FromFn.{get_or-map-range_with_len, length-map-range_with_len}
use Rattle.std.proofs.lemmas.Bool.{and_parts, eqb-true, leb-true, eq-eqb, ne_eqb, cond-true, cond-false, false≢true}
use Rattle.board.specs.FairTest.{all_below, passes_below}
use Rattle.board.specs.Pool.{InPool, clash, idle, pool_number, pool_moves}
use Rattle.board.specs.Side.{side_number, side_numbered}
use Rattle.board.proofs.Sides.{side-below, side-back}
use Rattle.board.specs.declared.pool_state.PoolState.{PoolState}
use Rattle.board.specs.declared.side.Side.{Side}
use Rattle.board.specs.declared.side.Side.TheVariants.{Controller, Kiln}

-- how many moves there are
abbrev pub choices : ℕ → PoolState → ℕ
choices q p = cond (clash p) 1 (cond (eqb (side_number p.side) 0) (1 + idle p * q) (3 - idle p))

-- where the controller's move at place i leads
abbrev pub after_handing : ℕ → PoolState → ℕ → PoolState
after_handing q p i = record {
  first = cond (eqb p.first 0) (cond (eqb p.second 0) (i - q) i) p.first;
  second = cond (eqb p.second 0) (cond (eqb p.first 0) (cond (leb i q) i 0) i) p.second;
  side = Kiln;
}

-- where the kiln's leads
abbrev pub after_giving : PoolState → ℕ → PoolState
after_giving p i = record { first = cond (eqb i 0) 0 p.first; second = cond (eqb i (cond (eqb p.first 0) 0 1)) 0 p.second; side = Controller }

-- where any move leads
abbrev pub after : ℕ → PoolState → ℕ → PoolState
after q p i = cond (clash p) p (cond (eqb (side_number p.side) 0) (after_handing q p i) (after_giving p i))

same : List ℕ → List ℕ → Bool
same [] [] = true
same [] (y ∷ ys) = false
same (x ∷ xs) [] = false
same (x ∷ xs) (y ∷ ys) = eqb x y && same xs ys

same_true : (xs ys : List ℕ) → same xs ys ≡ true → xs ≡ ys
unfolding same
same_true [] [] h = refl
same_true [] (y ∷ ys) h = absurd (false≢true h)
same_true (x ∷ xs) [] h = absurd (false≢true h)
same_true (x ∷ xs) (y ∷ ys) h =
    let p = and_parts (eqb x y) (same xs ys) h in
    let e = eqb-true x y p.0 in
    let f = same_true xs ys p.1 in
    cc

-- the moves by place are those of the meaning, and lead to positions
abbrev agrees : ℕ → PoolState → Bool
agrees q p =
    same (pool_moves q p) (map (λ i. pool_number q (after q p i)) (range_with_len 0 (choices q p)))
    && all_below (choices q p) (λ i. leb (after q p i).first q && leb (after q p i).second q)

abbrev agrees_in : ℕ → Bool
agrees_in q = all_below (q + 1) (λ f. all_below (q + 1) (λ s. all_below 2 (λ t. agrees q (record { first = f; second = s; side = side_numbered t }))))

all_agree : all_below 8 agrees_in ≡ true
unfolding same
all_agree = refl

agrees_at : (q : ℕ) (p : PoolState) → q ≤ 7 → InPool q p → agrees q p ≡ true
agrees_at q p most inside =
    let in-pool = passes_below 8 agrees_in all_agree q (omega arith) in
    let at_first = passes_below (q + 1) _ in-pool p.first (omega arith) in
    let at_second = passes_below (q + 1) _ at_first p.second (omega arith) in
    let at_side = passes_below 2 (λ t. agrees q (record { first = p.first; second = p.second; side = side_numbered t })) at_second (side_number p.side) (side-below p.side) in
    subst (λ (t : Side). agrees q (record { first = p.first; second = p.second; side = t }) ≡ true) (side-back p.side) at_side

module _ (q : ℕ) (p : PoolState) (most : q ≤ 7) (inside : InPool q p) where
  moves-are : pool_moves q p ≡ map (λ i. pool_number q (after q p i)) (range_with_len 0 (choices q p))
  moves-are = same_true _ _ (and_parts _ _ (agrees_at q p most inside)).0

  -- there are as many moves as places
  pub choices-are : length (pool_moves q p) ≡ choices q p
  choices-are = ap (λ (ms : List ℕ). length ms) moves-are ∙ length-map-range_with_len (λ i. pool_number q (after q p i)) 0 (choices q p)

  -- what a move leads to is a position, and its number is the meaning's
  pub after-inside : (i : ℕ) → i < length (pool_moves q p) → InPool q (after q p i)
  after-inside i lt =
      let many = choices-are in
      let h = passes_below (choices q p) (λ k. leb (after q p k).first q && leb (after q p k).second q) (and_parts _ _ (agrees_at q p most inside)).1 i (omega arith) in
      let a = and_parts _ _ h in
      (leb-true (after q p i).first q a.0, leb-true (after q p i).second q a.1)

  pub after-number : (i : ℕ) → i < length (pool_moves q p) → pool_number q (after q p i) ≡ get_or (pool_moves q p) i 0
  after-number i lt =
      let many = choices-are in
      let below : i < choices q p = omega arith in
      sym (ap (λ (ms : List ℕ). get_or ms i 0) moves-are ∙ get_or-map-range_with_len (λ k. pool_number q (after q p k)) 0 (choices q p) i i 0 below (omega arith))

-- the number of moves case by case: at a clash, at the controller's turn, at the kiln's
module _ (q : ℕ) (p : PoolState) (most : q ≤ 7) (inside : InPool q p) where
  pub choices-clash : true ≡ clash p → 1 ≡ length (pool_moves q p)
  choices-clash clashes = sym (choices-are q p most inside ∙ cond-true (clash p) 1 _ (sym clashes))

  pub choices-handing : false ≡ clash p → p.side ≡ Controller → (n : ℕ) → n ≡ idle p → 1 + n * q ≡ length (pool_moves q p)
  choices-handing apart turn n e =
      ap (λ (k : ℕ). 1 + k * q) e
      ∙ sym (choices-are q p most inside ∙ cond-false (clash p) 1 _ (sym apart) ∙ cond-true (eqb (side_number p.side) 0) (1 + idle p * q) (3 - idle p) (eq-eqb (side_number p.side) 0 (ap side_number turn)))

  pub choices-giving : false ≡ clash p → p.side ≡ Kiln → (n : ℕ) → n ≡ idle p → 3 - n ≡ length (pool_moves q p)
  choices-giving apart turn n e =
      ap (λ (k : ℕ). 3 - k) e
      ∙ sym (choices-are q p most inside ∙ cond-false (clash p) 1 _ (sym apart) ∙ cond-false (eqb (side_number p.side) 0) (1 + idle p * q) (3 - idle p) (ne_eqb (side_number p.side) 0 (λ e. let k = ap side_number turn in omega arith)))

same-state : (p r : PoolState) → p.first ≡ r.first → p.second ≡ r.second → p.side ≡ r.side → p ≡ r
same-state p r a b c = rw (a, b, c) refl

-- what is known of the position that a move leads to
pub record Lands (q : ℕ) (p : PoolState) (i : ℕ) (r : PoolState) : Type 0 where
  pub inside : InPool q r
  pub number : pool_number q r ≡ get_or (pool_moves q p) i 0

module _ (q : ℕ) (p : PoolState) (most : q ≤ 7) (inside : InPool q p) (i : ℕ) (there : i < length (pool_moves q p)) where
  pub lands : (r : PoolState) → after q p i ≡ r → Lands q p i r
  lands r e = subst (Lands q p i) e (record { inside = after-inside q p most inside i there; number = after-number q p most inside i there })

  -- the controller's move, and the kiln's
  pub lands-handing : clash p ≡ false → p.side ≡ Controller → (r : PoolState) → (after_handing q p i).first ≡ r.first → (after_handing q p i).second ≡ r.second → Kiln ≡ r.side → Lands q p i r
  lands-handing apart turn r first second side =
      lands r
      (cond-false (clash p) p _ apart
      ∙ cond-true (eqb (side_number p.side) 0) (after_handing q p i) (after_giving p i) (eq-eqb (side_number p.side) 0 (ap side_number turn))
      ∙ same-state (after_handing q p i) r first second side)

  pub lands-giving : clash p ≡ false → p.side ≡ Kiln → (r : PoolState) → (after_giving p i).first ≡ r.first → (after_giving p i).second ≡ r.second → Controller ≡ r.side → Lands q p i r
  lands-giving apart turn r first second side =
      lands r
      (cond-false (clash p) p _ apart
      ∙ cond-false (eqb (side_number p.side) 0) (after_handing q p i) (after_giving p i) (ne_eqb (side_number p.side) 0 (λ e. let k = ap side_number turn in omega arith))
      ∙ same-state (after_giving p i) r first second side)
