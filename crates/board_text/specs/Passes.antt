-- What the reader's two passes tell each other; only private functions cite it.
use Rattle.std.specs.Prelude.{ℕ, ◌+◌, List, [], length, Ok, Err, Result}
use Rattle.board.specs.Spot.{Spot, all_moves}
use Rattle.board_text.specs.Verdict.{Fault, and_then, spots_in, end_in}
use Rattle.board_text.specs.declared.opened.Opened.{Opened}

-- while positions are read: the moves so far, and the text that is left
abbrev pub tallied : ℕ → Result (List Spot × List ℕ) Fault → Result (ℕ × List ℕ) Fault
tallied before (Ok p) = Ok (before + length (all_moves p.0), p.1)
tallied before (Err e) = Err e

-- the board that a text was judged to be
abbrev pub board_in : Result (List Spot) Fault → List Spot
board_in (Ok b) = b
board_in (Err e) = []

-- what a text is judged to be, once its first line gave n positions: t is what stands after that line
abbrev pub after_opening : ℕ → List ℕ → Result (List Spot) Fault
after_opening n t =
    and_then (spots_in n n 2 t) (λ p.
    and_then (end_in (length (all_moves p.0)) (n + 2) p.1) (λ _. Ok p.0))

-- the same of a text whose first line was taken
abbrev pub judged : Opened → Result (List Spot) Fault
judged o = after_opening o.count o.lines.rest.now

-- the number of all its moves
abbrev pub total_of : Result (List Spot) Fault → Result ℕ Fault
total_of (Ok b) = Ok (length (all_moves b))
total_of (Err e) = Err e
