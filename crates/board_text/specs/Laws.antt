-- What holds of boards and their texts, in the words of the subject.
use Rattle.std.specs.Prelude.{◌≡◌, ℕ, ◌≤◌, List, length, take, Ok}
use Rattle.board.specs.Fair.{Fair}
use Rattle.board.specs.Spot.{Spot, all_moves}
use Rattle.board.specs.Table.{board_of}
use Rattle.board.specs.declared.records.Record.{Record}
use Rattle.board_text.specs.Reading.{reading, records_after, moves_after}
use Rattle.board_text.specs.Text.{text_of}
use Rattle.board_text.specs.Verdict.{verdict}

-- a text is judged to be a board exactly when it is the text of a fair board, and then it is that board
abbrev pub JudgedExactly : List ℕ → Type 0
JudgedExactly t = (b : List Spot) → (verdict t ≡ Ok b → Fair b × (t ≡ text_of b)) × (Fair b × (t ≡ text_of b) → verdict t ≡ Ok b)

-- no other fair board has the text of b
abbrev pub KnownByItsText : List Spot → Type 0
KnownByItsText b = (a : List Spot) → Fair a → text_of a ≡ text_of b → a ≡ b

-- a text, read into slices that have room for b, gives b: the table over the records read, and the moves, means b
abbrev pub GivesBack : List ℕ → List Spot → Type 0
GivesBack t b =
    (rs : List Record) (ms : List ℕ) → length b ≤ length rs → length (all_moves b) ≤ length ms →
    (reading t (length rs) (length ms) ≡ Ok b)
    × (board_of (take (length b) (records_after (reading t (length rs) (length ms)) rs)) (moves_after (reading t (length rs) (length ms)) ms) ≡ b)
