-- Positions of a pool board and their numbers.
use Rattle.std.proofs.Common.{◌≡◌, ℕ, ◌+◌, ◌*◌, ◌/◌, ◌%◌, ◌<◌, ◌≤◌, cond, ltb, Some, None, Option, sym, refl, ap, ◌∙◌, ⊎_elim, mul-le-mul, arith}
use lib.Arith.{digits_lt, digits_div, digits_mod}
use Rattle.std.proofs.lemmas.List.FromFn.{get_or-map-range_with_len, length-map-range_with_len}
use Rattle.std.proofs.lemmas.List.{get_or_past}
use Rattle.std.proofs.lemmas.Bool.{lt-ltb, le-ltb, cases_lt, cond-true, cond-false}
use Rattle.board.specs.Spot.{Spot, blank, spot_at}
use Rattle.board.specs.Pool.{InPool, pool_count, pool_number, pool_state, pool_label, pool_moves, pool_spot, pool_board}
use Rattle.board.specs.Side.{side_number, side_numbered}
use Rattle.board.proofs.Sides.{side-below, side-back}
use Rattle.board.specs.declared.pool_state.PoolState.{PoolState}

-- at most 128 positions
pub count_most : (q : ℕ) → q ≤ 7 → (q + 1) * (q + 1) ≤ 64
count_most q most = let w : q + 1 ≤ 8 = omega arith in mul-le-mul w w

-- a position's number is below the count
pub number-below : (q : ℕ) (p : PoolState) → InPool q p → pool_number q p < pool_count q
number-below q p inside =
    let turn = side-below p.side in
    let pair : p.first * (q + 1) + p.second < (q + 1) * (q + 1) = digits_lt {q = p.first} {m = q + 1} (omega arith) (omega arith) in
    omega arith

-- and no other position bears it
pub state-of_number : (q : ℕ) (p : PoolState) → InPool q p → pool_state q (pool_number q p) ≡ p
state-of_number q p inside =
    let pair = p.first * (q + 1) + p.second in
    let turn = side_number p.side in
    let two = side-below p.side in
    let half : (pair * 2 + turn) / 2 ≡ pair = omega arith in
    let rest : (pair * 2 + turn) % 2 ≡ turn = omega arith in
    let side : side_numbered ((pair * 2 + turn) % 2) ≡ p.side = ap side_numbered rest ∙ side-back p.side in
    let small : p.second < q + 1 = omega arith in
    let first : (pair * 2 + turn) / 2 / (q + 1) ≡ p.first = ap (λ (n : ℕ). n / (q + 1)) half ∙ digits_div p.first small in
    let second : (pair * 2 + turn) / 2 % (q + 1) ≡ p.second = ap (λ (n : ℕ). n % (q + 1)) half ∙ digits_mod p.first small in
    rw (first, second, side) refl

-- what the board has under a number, and past the last one
pub pool_there : (q v : ℕ) → v < pool_count q → spot_at (pool_board q) v ≡ pool_spot q v
pool_there q v below = get_or-map-range_with_len (pool_spot q) 0 (pool_count q) v v blank below (omega arith)

pub pool_missing : (q v : ℕ) → pool_count q ≤ v → spot_at (pool_board q) v ≡ blank
pool_missing q v past = get_or_past (pool_board q) v blank (rw (length-map-range_with_len (pool_spot q) 0 (pool_count q)) past)

-- the answer to the question which position bears a number
abbrev pub position_of : ℕ → ℕ → Option PoolState
position_of q v = cond (ltb v (pool_count q)) (Some (pool_state q v)) None

pub record Borne (q v : ℕ) (p : PoolState) : Type 0 where
  pub below : v < pool_count q
  pub state : p ≡ pool_state q v

pub is_borne : (q v : ℕ) (p : PoolState) → Some p ≡ position_of q v → Borne q v p
is_borne q v p e =
    ⊎_elim
    (λ (lt : v < pool_count q). record { below = lt; state = let f = cond-true (ltb v (pool_count q)) (Some (pool_state q v)) None (lt-ltb v (pool_count q) lt) in cc })
    (λ (past : pool_count q ≤ v). let f = cond-false (ltb v (pool_count q)) (Some (pool_state q v)) None (le-ltb v (pool_count q) past) in let z : ◌≡◌ {A = ℕ} 0 1 = cc in absurd (omega arith))
    (cases_lt v (pool_count q))

pub is_missing : (q v : ℕ) → None ≡ position_of q v → pool_count q ≤ v
is_missing q v e =
    ⊎_elim
    (λ (lt : v < pool_count q). let f = cond-true (ltb v (pool_count q)) (Some (pool_state q v)) None (lt-ltb v (pool_count q) lt) in let z : ◌≡◌ {A = ℕ} 0 1 = cc in absurd (omega arith))
    (λ (past : pool_count q ≤ v). past)
    (cases_lt v (pool_count q))

-- what the board has where the position is known
abbrev pub spot_for : ℕ → PoolState → Spot
spot_for q p = record { side = side_number p.side; label = pool_label p; moves = pool_moves q p }

pub spot_borne : (q v : ℕ) (p : PoolState) → Some p ≡ position_of q v → spot_for q p ≡ spot_at (pool_board q) v
spot_borne q v p e = let b = is_borne q v p e in ap (spot_for q) b.state ∙ sym (pool_there q v b.below)

pub spot_missing : (q v : ℕ) → None ≡ position_of q v → blank ≡ spot_at (pool_board q) v
spot_missing q v e = sym (pool_missing q v (is_missing q v e))
