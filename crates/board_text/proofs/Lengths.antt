-- How long a text and its parts are.
use Rattle.std.proofs.Common.{◌≡◌, ℕ, ◌+◌, ◌*◌, ◌≤◌, List, [], ◌∷◌, length, refl, arith}
use Rattle.std.proofs.lemmas.List.{length-append}
use Rattle.board.specs.Fair.{Fair}
use Rattle.board.specs.Spot.{Spot, all_moves}
use Rattle.board.proofs.Tallies.{few-moves}
use Rattle.board_text.specs.Digits.{hex4s}
use Rattle.board_text.specs.Text.{spot_line, spot_lines, last_line, text_of}

-- four digits a move
pub hex4s-length : (ms : List ℕ) → length (hex4s ms) ≡ 4 * length ms
hex4s-length [] = refl
hex4s-length (m ∷ ms) = let rest = hex4s-length ms in omega arith

-- seven bytes, and the digits of the moves
pub spot_line-length : (s : Spot) → length (spot_line s) ≡ 7 + 4 * length s.moves
spot_line-length s =
    let moves = hex4s-length s.moves in
    let end = length-append (hex4s s.moves) (10 ∷ []) in
    omega arith

pub spot_lines-length : (b : List Spot) → length (spot_lines b) ≡ 7 * length b + 4 * length (all_moves b)
spot_lines-length [] = refl
spot_lines-length (s ∷ b) =
    let rest = spot_lines-length b in
    let line = spot_line-length s in
    let both = length-append (spot_line s) (spot_lines b) in
    let moves = length-append s.moves (all_moves b) in
    omega arith

-- the whole text
pub text_length : (b : List Spot) → length (text_of b) ≡ 14 + 7 * length b + 4 * length (all_moves b)
text_length b =
    let lines = spot_lines-length b in
    let end = length-append (spot_lines b) (last_line b) in
    omega arith

-- at most 512 positions, and sixteen moves each
pub longest_text : (b : List Spot) → Fair b → length (text_of b) ≤ 36366
longest_text b f =
    let long = text_length b in
    let few = few-moves b f in
    let most = f.most in
    omega arith
