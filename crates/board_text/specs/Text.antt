-- The one text of a board.
use Rattle.std.specs.Prelude.{ℕ, List, [], ◌∷◌, ◌++◌, length}
use Rattle.std.specs.List.{flat_map}
use Rattle.board.specs.Spot.{Spot, all_moves}
use Rattle.board_text.specs.Digits.{hex2, hex4, hex4s}

-- the first line: 01, and four digits for how many positions there are; LF, byte 10, closes every line
abbrev pub first_line : List Spot → List ℕ
first_line b = hex2 1 ++ (hex4 (length b) ++ 10 ∷ [])

-- the line of a position: 02, two digits for the side, two for the label, four for each move
abbrev pub spot_line : Spot → List ℕ
spot_line s = hex2 2 ++ (hex2 s.side ++ (hex2 s.label ++ (hex4s s.moves ++ 10 ∷ [])))

-- the lines of all positions, in their order
abbrev pub spot_lines : List Spot → List ℕ
spot_lines b = flat_map spot_line b

-- the last line: 03, and four digits for how many moves there are in all
abbrev pub last_line : List Spot → List ℕ
last_line b = hex2 3 ++ (hex4 (length (all_moves b)) ++ 10 ∷ [])

-- the whole text
abbrev pub text_of : List Spot → List ℕ
text_of b = first_line b ++ (spot_lines b ++ last_line b)
