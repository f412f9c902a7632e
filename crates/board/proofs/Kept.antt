-- What is known of the records of a table that count.
use Rattle.std.proofs.Common.{◌≡◌, ℕ, zero, suc, ◌+◌, ◌<◌, ◌≤◌, true, List, [], ◌∷◌, map, length, get_or, take, drop, sym, refl, ap, ◌∙◌, ⊎_elim, arith}
use Rattle.std.proofs.lemmas.List.{get_or_past, get_or-take, get_or-drop, length-take}
use Rattle.std.proofs.lemmas.Bool.{cases_Bool, cases_lt, cond-true, cond-false}
use Rattle.board.specs.Spot.{Spot, spot_at, move_of}
use Rattle.board.specs.Fairness.{tested_at, sound_parts}
use Rattle.board.specs.Table.{blank_record, bare_record, spot_of, sound_table, kept, board_of}
use Rattle.board.specs.declared.records.Record.{Record}

-- a list read through a function, at every place
pub get_or-map_all : {X Y : Type 0} (f : X → Y) (xs : List X) (i : ℕ) (d : X) → get_or (map f xs) i (f d) ≡ f (get_or xs i d)
get_or-map_all f [] i d = refl
get_or-map_all f (x ∷ xs) zero d = refl
get_or-map_all f (x ∷ xs) (suc i) d = get_or-map_all f xs i d

-- the board's positions are the records that count, shown
pub shown-at : (rs : List Record) (ms : List ℕ) (v : ℕ) → spot_at (board_of rs ms) v ≡ spot_of ms (get_or (kept rs ms) v blank_record)
shown-at rs ms v = get_or-map_all (spot_of ms) (kept rs ms) v blank_record

-- a record with at most sixteen moves, which lie in the move slice
pub record Lies (ms : List ℕ) (r : Record) : Type 0 where
  pub few : r.count ≤ 16
  pub inside : 0 < r.count → r.first + r.count ≤ length ms

no_moves : (ms : List ℕ) (r : Record) → r.count ≡ 0 → Lies ms r
no_moves ms r e = record { few = omega arith; inside = λ lt. absurd (omega arith) }

lies_at : (rs : List Record) (ms : List ℕ) → sound_table rs ms ≡ true → (v : ℕ) → Lies ms (get_or rs v blank_record)
lies_at rs ms h v =
    ⊎_elim
    (λ (lt : v < length rs).
    let t = tested_at (length rs) ms rs (sound_parts rs ms h).2 v lt in
    record { few = t.few; inside = t.inside })
    (λ (past : length rs ≤ v). no_moves ms (get_or rs v blank_record) (ap (λ (r : Record). r.count) (get_or_past rs v blank_record past)))
    (cases_lt v (length rs))

bare_at : (v : ℕ) → (get_or (bare_record ∷ []) v blank_record).count ≡ 0
bare_at zero = refl
bare_at (suc v) = refl

-- every record that counts lies so, and so does the blank one
pub kept-lies : (rs : List Record) (ms : List ℕ) (v : ℕ) → Lies ms (get_or (kept rs ms) v blank_record)
kept-lies rs ms v =
    ⊎_elim
    (λ h. rw (cond-true (sound_table rs ms) rs (bare_record ∷ []) h) (lies_at rs ms h v))
    (λ h. rw (cond-false (sound_table rs ms) rs (bare_record ∷ []) h) (no_moves ms (get_or (bare_record ∷ []) v blank_record) (bare_at v)))
    (cases_Bool (sound_table rs ms))

-- a move that is there, and one that is not
pub move_there : (rs : List Record) (ms : List ℕ) (v i : ℕ) (r : Record) → r ≡ get_or (kept rs ms) v blank_record → i < r.count → get_or ms (r.first + i) 0 ≡ move_of (board_of rs ms) v i
move_there rs ms v i r e lt =
    sym (ap (λ (s : Spot). get_or s.moves i 0) (shown-at rs ms v ∙ ap (spot_of ms) (sym e)) ∙ get_or-take r.count (drop r.first ms) i 0 lt ∙ get_or-drop r.first ms i 0)

pub move_missing : (rs : List Record) (ms : List ℕ) (v i : ℕ) (r : Record) → r ≡ get_or (kept rs ms) v blank_record → r.count ≤ i → 0 ≡ move_of (board_of rs ms) v i
move_missing rs ms v i r e past =
    sym (ap (λ (s : Spot). get_or s.moves i 0) (shown-at rs ms v ∙ ap (spot_of ms) (sym e)) ∙ get_or_past (take r.count (drop r.first ms)) i 0 (simp length-take (omega arith)))
