-- The records and the moves of a fair board, as reading leaves them in the two slices, mean that board.
use Rattle.std.proofs.Common.{◌≡◌, ℕ, zero, suc, ◌+◌, ◌<◌, ◌≤◌, List, [], ◌∷◌, ◌++◌, map, length, get_or, take, drop, Ok, Result, sym, refl, ap, ◌∙◌, subst, append_assoc, arith}
use Rattle.std.proofs.lemmas.List.{length-append, take_at, drop_at, drop-drop}
use Rattle.std.proofs.lemmas.Bool.{cond-true}
use Rattle.board.specs.Spot.{Spot, all_moves}
use Rattle.board.specs.Fair.{Fair}
use Rattle.board.specs.Table.{Sound, blank_record, bare_record, spot_of, sound_table, board_of}
use Rattle.board.proofs.Decided.{decides_sound}
use Rattle.board.specs.declared.records.Record.{Record}
use Rattle.board_text.specs.Laws.{GivesBack}
use Rattle.board_text.specs.Reading.{records_of, over, fitted, reading, records_after, moves_after}
use Rattle.board_text.specs.Text.{text_of}
use Rattle.board_text.specs.Verdict.{Fault}
use Rattle.board_text.proofs.Fitted.{fitted-well, length_records}
use Rattle.board_text.proofs.Texts.{read_back}

-- a position shown with its own side and label and equal moves, before an equal board
same-board : (s : Spot) (ms : List ℕ) (a b : List Spot) → ms ≡ s.moves → a ≡ b → record { side = s.side; label = s.label; moves = ms } ∷ a ≡ s ∷ b
same-board s ms a b p q = rw (p, q)

-- where the moves of a board stand from a place on, its records show that board
records-show : (ms : List ℕ) (place : ℕ) (b : List Spot) (rest : List ℕ) → drop place ms ≡ all_moves b ++ rest → map (spot_of ms) (records_of place b) ≡ b
records-show ms place [] rest e = refl
records-show ms place (s ∷ b) rest e =
    let here : drop place ms ≡ s.moves ++ (all_moves b ++ rest) = e ∙ append_assoc s.moves (all_moves b) rest in
    let size = length s.moves in
    same-board s _ _ b
    (ap (take size) here ∙ take_at s.moves (all_moves b ++ rest) size refl)
    (records-show ms (place + size) b rest (sym (drop-drop size place ms) ∙ ap (drop size) here ∙ drop_at s.moves (all_moves b ++ rest) size refl))

-- no record of a board points past its moves
records-inside : (place n : ℕ) (b : List Spot) → place + length (all_moves b) ≤ n → (v : ℕ) → v < length (records_of place b) → (get_or (records_of place b) v blank_record).first + (get_or (records_of place b) v blank_record).count ≤ n
records-inside place n [] fits v lt = absurd (omega arith)
records-inside place n (s ∷ b) fits zero lt = let all = simp length-append at fits in omega arith
records-inside place n (s ∷ b) fits (suc v) lt =
    let all = simp length-append at fits in records-inside (place + length s.moves) n b (omega arith) v (omega arith)

-- a fair board's records and moves are a table of that board, whatever stands after the moves
pub table_back : (b : List Spot) (ms : List ℕ) → Fair b → board_of (records_of 0 b) (over (all_moves b) ms) ≡ b
table_back b ms f =
    let rs = records_of 0 b in
    let after = over (all_moves b) ms in
    let shows = records-show after 0 b (drop (length (all_moves b)) ms) refl in
    let room : 0 + length (all_moves b) ≤ length after = simp length-append (omega arith) in
    let sound : Sound rs after = record { fair = subst Fair (sym shows) f; inside = λ v lt some. records-inside 0 (length after) b room v lt } in
    ap (map (spot_of after)) (cond-true (sound_table rs after) rs (bare_record ∷ []) ((decides_sound rs after).1 sound)) ∙ shows

-- the text of a fair board, read into slices with room, gives the board back
pub gives_back : (b : List Spot) → Fair b → GivesBack (text_of b) b
gives_back b f rs ms enough plenty =
    let t = text_of b in
    let judged = read_back b f in
    let read : reading t (length rs) (length ms) ≡ Ok b =
    ap (λ (v : Result (List Spot) Fault). fitted v (length rs) (length ms)) judged ∙ fitted-well (Ok b) refl (length rs) (length ms) enough plenty in
    let front : take (length b) (over (records_of 0 b) rs) ≡ records_of 0 b =
    take_at (records_of 0 b) (drop (length (records_of 0 b)) rs) (length b) (length_records 0 b) in (
      read,
      ap (λ (v : Result (List Spot) Fault). board_of (take (length b) (records_after v rs)) (moves_after v ms)) read
          ∙ ap (λ (x : List Record). board_of x (over (all_moves b) ms)) front
          ∙ table_back b ms f,
    )
