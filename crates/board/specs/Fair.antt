-- The limits that every board keeps.
use Rattle.std.specs.Prelude.{ℕ, ◌+◌, ◌<◌, ◌≤◌, List, length, slice_index}
use Rattle.board.specs.Spot.{Spot, spot_at}

-- a position of a board of n positions: a side, a label from 0 to 15, at most 16 moves, each to a position, strictly ascending
pub record FairSpot (n : ℕ) (s : Spot) : Type 0 where
  pub side_known : s.side < 2
  pub label_known : s.label < 16
  pub few : length s.moves ≤ 16
  pub within : (i : ℕ) → i < length s.moves → slice_index s.moves i < n
  pub ascending : (i : ℕ) → i + 1 < length s.moves → slice_index s.moves i < slice_index s.moves (i + 1)

-- a board has 1 to 512 positions, each of them fair
pub record Fair (b : List Spot) : Type 0 where
  pub some : 1 ≤ length b
  pub most : length b ≤ 512
  pub each : (v : ℕ) → v < length b → FairSpot (length b) (spot_at b v)
