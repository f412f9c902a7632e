-- The watched board (a product arena): a board, and a watcher that steps as moves are made.
use Rattle.std.specs.Prelude.{◌≡◌, ℕ, ◌+◌, ◌*◌, ◌/◌, ◌%◌, ◌<◌, Bool, cond, List, map, length, nat_le}
use Rattle.std.specs.List.{range_with_len}
use Rattle.board.specs.Spot.{Spot, spot_at, side_of, label_of}
use Rattle.watch.specs.Watcher.{states_of, watch_label, watch_next}
use Rattle.watch.specs.declared.watcher.Watcher.{Watcher}

-- whether the board has at most 512 positions in all states
abbrev pub small_enough : List Spot → Watcher → Bool
small_enough b w = nat_le (length b * states_of w) 512

-- how many states the watcher has on the board: all, or state 0 alone where the positions would be too many
abbrev pub states_on : List Spot → Watcher → ℕ
states_on b w = cond (small_enough b w) (states_of w) 1

-- the state after q under label p; state 0 alone leads to itself
abbrev pub next_on : List Spot → Watcher → ℕ → ℕ → ℕ
next_on b w q p = cond (small_enough b w) (watch_next w q p) 0

-- position v of the board in state q: the side of v, the label of q, and each move of v, on which the watcher steps by the label of v
abbrev pub watched_spot : List Spot → Watcher → ℕ → ℕ → Spot
watched_spot b w v q = record {
  side = side_of b v;
  label = watch_label w q;
  moves = map (λ m. m * states_on b w + next_on b w q (label_of b v)) (spot_at b v).moves;
}

-- the board: a position for each position below and each state
abbrev pub watched_board : List Spot → Watcher → List Spot
watched_board b w = map (λ n. watched_spot b w (n / states_on b w) (n % states_on b w)) (range_with_len 0 (length b * states_on b w))

-- p shows board b under watcher w: with S states, what stands at v × S + q is position v in state q
pub record Watches (b : List Spot) (w : Watcher) (p : List Spot) : Type 0 where
  pub count : length p ≡ length b * states_on b w
  pub each : (v q : ℕ) → v < length b → q < states_on b w → spot_at p (v * states_on b w + q) ≡ watched_spot b w v q
