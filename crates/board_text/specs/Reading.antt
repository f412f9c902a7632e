-- What reading answers, and what it leaves in the two slices.
use Rattle.std.specs.Prelude.{ℕ, ◌+◌, Bool, cond, ◌&&◌, List, [], ◌∷◌, ◌++◌, length, drop, Ok, Err, Result, nat_le}
use Rattle.board.specs.Spot.{Spot, all_moves}
use Rattle.board.specs.declared.records.Record.{Record}
use Rattle.board_text.specs.Verdict.{Fault, verdict}
use Rattle.board_text.specs.declared.refusals.TextRefusal.TheVariants.{NoRoom}

-- the record of a position before whose moves stand `before` others
abbrev pub record_of : ℕ → Spot → Record
record_of before s = record { side = s.side; label = s.label; first = before; count = length s.moves }

-- the records of a board: each has its place after the moves of those before it
abbrev pub records_of : ℕ → List Spot → List Record
records_of before [] = []
records_of before (s ∷ b) = record_of before s ∷ records_of (before + length s.moves) b

-- the front of a list overwritten, later places kept
abbrev pub over : {X : Type 0} → List X → List X → List X
over xs ys = xs ++ drop (length xs) ys

-- the board fits into slices of these lengths
abbrev pub fits : List Spot → ℕ → ℕ → Bool
fits b records moves = nat_le (length b) records && nat_le (length (all_moves b)) moves

-- the board that is read where the slices have room for it, else refusal 18 with line 0
abbrev pub fitted : Result (List Spot) Fault → ℕ → ℕ → Result (List Spot) Fault
fitted (Ok b) records moves = cond (fits b records moves) (Ok b) (Err (NoRoom, 0))
fitted (Err e) records moves = Err e

-- the answer: how many positions and how many moves, or the fault
abbrev pub counts : Result (List Spot) Fault → Result (ℕ × ℕ) Fault
counts (Ok b) = Ok (length b, length (all_moves b))
counts (Err e) = Err e

-- the records afterwards
abbrev pub records_after : Result (List Spot) Fault → List Record → List Record
records_after (Ok b) rs = over (records_of 0 b) rs
records_after (Err e) rs = rs

-- the moves afterwards
abbrev pub moves_after : Result (List Spot) Fault → List ℕ → List ℕ
moves_after (Ok b) ms = over (all_moves b) ms
moves_after (Err e) ms = ms

-- reading a text into slices of these lengths
abbrev pub reading : List ℕ → ℕ → ℕ → Result (List Spot) Fault
reading t records moves = fitted (verdict t) records moves
