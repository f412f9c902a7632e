-- What records and moves in two slices show: the board of a table.
use Rattle.std.specs.Prelude.{ℕ, ◌+◌, ◌<◌, ◌≤◌, Bool, cond, ◌&&◌, ◌||◌, List, [], ◌∷◌, map, length, take, drop, ◌==◌, nat_le, nat_lt, slice_index_or}
use Rattle.std.specs.List.{list_all}
use Rattle.board.specs.Spot.{Spot}
use Rattle.board.specs.Fair.{Fair}
use Rattle.board.specs.Rising.{rising}
use Rattle.board.specs.declared.records.Record.{Record}

-- what stands for a record that is not there
abbrev pub blank_record : Record
blank_record = record { side = 0; label = 0; first = 0; count = 0 }

-- the one record of the bare board: a kiln position with label 0 and no moves
abbrev pub bare_record : Record
bare_record = record { side = 1; label = 0; first = 0; count = 0 }

-- the position that a record shows: its moves are `count` places of the move slice from `first` on
abbrev pub spot_of : List ℕ → Record → Spot
spot_of ms r = record { side = r.side; label = r.label; moves = take r.count (drop r.first ms) }

-- the slices show a fair board, and no record that has moves points past the move slice
pub record Sound (rs : List Record) (ms : List ℕ) : Type 0 where
  pub fair : Fair (map (spot_of ms) rs)
  pub inside : (v : ℕ) → v < length rs → 0 < (slice_index_or rs v blank_record).count → (slice_index_or rs v blank_record).first + (slice_index_or rs v blank_record).count ≤ length ms

-- the same as tests, for the code: one record in a table of n
abbrev pub sound_record : ℕ → List ℕ → Record → Bool
sound_record n ms r =
    nat_lt r.side 2 && (nat_lt r.label 16 && (nat_le r.count 16 && ((r.count == 0 || nat_le (r.first + r.count) (length ms)) && rising n 0 (spot_of ms r).moves)))

-- every record of a list
abbrev pub sound_records : ℕ → List ℕ → List Record → Bool
sound_records n ms rs = list_all (sound_record n ms) rs

-- the whole table
abbrev pub sound_table : List Record → List ℕ → Bool
sound_table rs ms = nat_le 1 (length rs) && (nat_le (length rs) 512 && sound_records (length rs) ms rs)

-- the records that count: those of the slice, or the bare board's one where the slices are not sound
abbrev pub kept : List Record → List ℕ → List Record
kept rs ms = cond (sound_table rs ms) rs (bare_record ∷ [])

-- the board that the slices mean
abbrev pub board_of : List Record → List ℕ → List Spot
board_of rs ms = map (spot_of ms) (kept rs ms)
