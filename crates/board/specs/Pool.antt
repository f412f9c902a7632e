-- The pool board: the controller hands buffers to two tasks, and the kiln has them given back.
use Rattle.std.specs.Prelude.{◌≡◌, ℕ, ◌+◌, ◌*◌, ◌/◌, ◌%◌, ◌<◌, ◌≤◌, Bool, cond, not, ◌&&◌, ◌||◌, List, map, Decides, filter, ◌==◌, nat_le}
use Rattle.std.specs.List.{range_with_len}
use Rattle.board.specs.Spot.{Spot, count_of, side_of, label_of, moves_of, move_of}
use Rattle.board.specs.Side.{side_number, side_numbered}
use Rattle.board.specs.declared.pool_state.PoolState.{PoolState}

-- how many buffers there can be
abbrev pub PoolSize : ℕ → Type 0
PoolSize q = (1 ≤ q) × (q ≤ 7)

-- the same as a test
abbrev pub pool_size : ℕ → Bool
pool_size q = nat_le 1 q && nat_le q 7

-- how many positions there are with q buffers
abbrev pub pool_count : ℕ → ℕ
pool_count q = (q + 1) * (q + 1) * 2

-- a position that there is with q buffers
abbrev pub InPool : ℕ → PoolState → Type 0
InPool q p = (p.first ≤ q) × (p.second ≤ q)

-- the number of a position
abbrev pub pool_number : ℕ → PoolState → ℕ
pool_number q p = (p.first * (q + 1) + p.second) * 2 + side_number p.side

-- the position that bears a number
abbrev pub pool_state : ℕ → ℕ → PoolState
pool_state q v = record { first = v / 2 / (q + 1); second = v / 2 % (q + 1); side = side_numbered (v % 2) }

-- both tasks have the same buffer
abbrev pub clash : PoolState → Bool
clash p = p.first == p.second && not (p.first == 0)

-- how many tasks have no buffer
abbrev pub idle : PoolState → ℕ
idle p = cond (p.first == 0) 1 0 + cond (p.second == 0) 1 0

-- 1 for a clash, 3 where no task has a buffer, else 2
abbrev pub pool_label : PoolState → ℕ
pool_label p = cond (clash p) 1 (cond (p.first == 0 && p.second == 0) 3 2)

-- a task that has no buffer is handed one
abbrev pub handed : ℕ → ℕ → Bool
handed a b = a == 0 && not (b == 0)

-- a task that has a buffer gives it back
abbrev pub given_back : ℕ → ℕ → Bool
given_back a b = not (a == 0) && b == 0

-- both tasks keep what they have, or one of them keeps it and the other changes in this way
abbrev pub one_changes : (ℕ → ℕ → Bool) → PoolState → PoolState → Bool
one_changes way p r =
    (p.first == r.first && p.second == r.second)
    || ((way p.first r.first && p.second == r.second) || (p.first == r.first && way p.second r.second))

-- whether a move leads from one position to another: a clash stays; else the controller hands out, and the kiln has given back
abbrev pub pool_goes : PoolState → PoolState → Bool
pool_goes p r =
    cond (clash p)
    (p.first == r.first && (p.second == r.second && side_number p.side == side_number r.side))
    (cond (side_number p.side == 0)
    (side_number r.side == 1 && one_changes handed p r)
    (side_number r.side == 0 && one_changes given_back p r))

-- the numbers that the moves of a position lead to
abbrev pub pool_moves : ℕ → PoolState → List ℕ
pool_moves q p = filter (λ w. pool_goes p (pool_state q w)) (range_with_len 0 (pool_count q))

-- the position with number v, as a board has it
abbrev pub pool_spot : ℕ → ℕ → Spot
pool_spot q v = record { side = side_number (pool_state q v).side; label = pool_label (pool_state q v); moves = pool_moves q (pool_state q v) }

-- the board with q buffers
abbrev pub pool_board : ℕ → List Spot
pool_board q = map (pool_spot q) (range_with_len 0 (pool_count q))

-- a move of v leads to w
abbrev pub Leads : List Spot → ℕ → ℕ → Type 0
Leads b v w = (i : ℕ) × (i < moves_of b v) × (move_of b v i ≡ w)

-- a board shows every position with q buffers under its number, and its moves are those of the positions
pub record ShowsPool (q : ℕ) (b : List Spot) : Type 0 where
  pub count : count_of b ≡ pool_count q
  pub side : (p : PoolState) → InPool q p → side_of b (pool_number q p) ≡ side_number p.side
  pub label : (p : PoolState) → InPool q p → label_of b (pool_number q p) ≡ pool_label p
  pub moves : (p r : PoolState) → InPool q p → InPool q r → Decides (pool_goes p r) (Leads b (pool_number q p) (pool_number q r))
