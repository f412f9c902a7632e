-- What a text is turned into: the board's one text, or the line of its refusal.
use Rattle.std.specs.Prelude.{ℕ, List, [], ◌∷◌, ◌++◌, Ok, Err, Result}
use Rattle.board.specs.Spot.{Spot}
use Rattle.board.specs.Summary.{summary_of}
use Rattle.board.specs.declared.summary.Summary.{Summary}
use Rattle.board_text.specs.Digits.{hex2, hex4}
use Rattle.board_text.specs.Refusals.{number_of}
use Rattle.board_text.specs.Text.{text_of}
use Rattle.board_text.specs.Verdict.{Fault}

-- a refusal's line: 1F (which is 31), its number in two digits, its line in four, and LF
abbrev pub refusal_line : ℕ → ℕ → List ℕ
refusal_line number line = hex2 31 ++ (hex2 number ++ (hex4 line ++ 10 ∷ []))

-- what is printed for a verdict
abbrev pub formatted : Result (List Spot) Fault → List ℕ
formatted (Ok b) = text_of b
formatted (Err e) = refusal_line (number_of e.0) e.1

-- what is told of it: the board in numbers, or the fault
abbrev pub told : Result (List Spot) Fault → Result Summary Fault
told (Ok b) = Ok (summary_of b)
told (Err e) = Err e
