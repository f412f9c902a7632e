-- The lines of positions: each is read as its position, and what was read as a position is its line.
use Rattle.std.proofs.Common.{◌≡◌, ℕ, zero, suc, ◌+◌, ◌-◌, ◌%◌, ◌<◌, ◌≤◌, true, ◌&&◌, eqb, ltb, leb, List, [], ◌∷◌, ◌++◌, length, get_or, Ok, sym, refl, ap, ◌∙◌, subst, append_assoc, arith}
use Rattle.std.proofs.lemmas.Bool.{and_parts, and_from, leb-true, ltb-true, eqb-true, eq-eqb, cond-true}
use Rattle.std.proofs.lemmas.Bool.Decides.{nat_tests}
use Rattle.board.specs.Spot.{Spot, spot_at}
use Rattle.board.specs.Fair.{FairSpot}
use Rattle.board.specs.Fairness.{rising-within, rising-ascends}
use Rattle.board.specs.Rising.{rising}
use Rattle.board.proofs.Decided.{fair-rises}
use Rattle.board_text.specs.Digits.{is_digit, hex2, hex4s, all_digits}
use Rattle.board_text.specs.Text.{spot_line, spot_lines}
use Rattle.board_text.specs.Verdict.{is_frame, is_kind, is_spot_line, next_line, spot_by, spot_written, spot_in, spots_in}
use Rattle.board_text.proofs.Hex.{two-hex2, hex2-two, fours-hex4s, hex4s-fours, digits_hex2, digits_hex4s, same-two, same-join}
use Rattle.board_text.proofs.Lengths.{hex4s-length}
use Rattle.board_text.proofs.Framed.{goes_on, went_on, passed, frame_read, read_frame, by_six}

-- the line of a position without its LF
abbrev pub spot_digits : Spot → List ℕ
spot_digits s = hex2 2 ++ (hex2 s.side ++ (hex2 s.label ++ hex4s s.moves))

-- the line with what follows it
spot_line-more : (s : Spot) (rest : List ℕ) → spot_line s ++ rest ≡ spot_digits s ++ 10 ∷ rest
spot_line-more s rest =
    ap (λ (l : List ℕ). hex2 2 ++ (hex2 s.side ++ (hex2 s.label ++ l))) (append_assoc (hex4s s.moves) (10 ∷ []) rest)

-- the moves of a fair position fit four digits
small_moves : (n : ℕ) (s : Spot) → n ≤ 512 → FairSpot n s → (i : ℕ) → i < length s.moves → get_or s.moves i 0 < 65536
small_moves n s most f i lt = let low = f.within i lt in omega arith

-- a position is known by its side, its label and its moves
same_spot : (s : Spot) (a b : ℕ) (ms : List ℕ) → a ≡ s.side → b ≡ s.label → ms ≡ s.moves → ◌≡◌ {A = Spot} (record { side = a; label = b; moves = ms }) s
same_spot s a b ms p q r = rw (p, q, r)

-- what the line of a fair position writes is that position
line_writes : (n : ℕ) (s : Spot) → n ≤ 512 → FairSpot n s → spot_written (spot_digits s) ≡ s
line_writes n s most f =
    let side = f.side_known in
    let label = f.label_known in
    same_spot s _ _ _ (two-hex2 s.side (omega arith)) (two-hex2 s.label (omega arith)) (fours-hex4s s.moves (small_moves n s most f))

-- its line is a frame
spot_framed : (n : ℕ) (s : Spot) → n ≤ 512 → FairSpot n s → is_frame (spot_digits s) ≡ true
spot_framed n s most f =
    let side = f.side_known in
    let label = f.label_known in
    let long = hex4s-length s.moves in
    and_from (all_digits (spot_digits s)) _
    (digits_hex2 2 (hex2 s.side ++ (hex2 s.label ++ hex4s s.moves)) (omega arith)
    (digits_hex2 s.side (hex2 s.label ++ hex4s s.moves) (omega arith)
    (digits_hex2 s.label (hex4s s.moves) (omega arith) (digits_hex4s s.moves (small_moves n s most f)))))
    (eq-eqb (length (spot_digits s) % 2) 0 (omega arith))

-- and has the form of a position's line
spot_formed : (n : ℕ) (s : Spot) → FairSpot n s → is_spot_line (spot_digits s) ≡ true
spot_formed n s f =
    let few = f.few in
    let long = hex4s-length s.moves in
    grind (arith, nat_tests)

-- a fair position passes
spot_passes : (n line : ℕ) (s : Spot) → FairSpot n s → spot_by n line s ≡ Ok s
spot_passes n line s f =
    let side = f.side_known in
    let label = f.label_known in
    let up = fair-rises n s f in
    grind (arith, nat_tests)

-- the line of a fair position is read as that position
spot_read : (n line : ℕ) (s : Spot) → n ≤ 512 → FairSpot n s → spot_in n line (spot_digits s) ≡ Ok s
spot_read n line s most f =
    cond-true (is_spot_line (spot_digits s)) _ _ (spot_formed n s f) ∙ ap (spot_by n line) (line_writes n s most f) ∙ spot_passes n line s f

-- a line that has the form of a position's is the line of what it writes
formed_line : (l : List ℕ) → 6 ≤ length l → all_digits l ≡ true → is_kind 2 l ≡ true → (length l - 6) % 4 ≡ 0 → l ≡ spot_digits (spot_written l)
formed_line l long =
    by_six (λ l. all_digits l ≡ true → is_kind 2 l ≡ true → (length l - 6) % 4 ≡ 0 → l ≡ spot_digits (spot_written l))
    (λ a b c d e f rest digits kind even.
    let p = and_parts (is_digit a) _ digits in
    let q = and_parts (is_digit b) _ p.1 in
    let r = and_parts (is_digit c) _ q.1 in
    let s = and_parts (is_digit d) _ r.1 in
    let t = and_parts (is_digit e) _ s.1 in
    let u = and_parts (is_digit f) _ t.1 in
    let k = and_parts (eqb a 48) (eqb b 50) kind in
    sym (same-join (sym (same-two (eqb-true a 48 k.0) (eqb-true b 50 k.1)))
    (same-join (hex2-two c d r.0 s.0) (same-join (hex2-two e f t.0 u.0) (hex4s-fours rest u.1 (omega arith))))))
    l long

-- a position that passes, written in a line of at most 70 digits, is fair
passed_fair : (n : ℕ) (s : Spot) → length (spot_digits s) ≤ 70 → s.side < 2 → s.label < 16 → rising n 0 s.moves ≡ true → FairSpot n s
passed_fair n s long side label rises = record {
  side_known = side;
  label_known = label;
  few = let each = hex4s-length s.moves in omega arith;
  within = λ i lt. (rising-within n 0 s.moves rises i lt).1;
  ascending = rising-ascends n 0 s.moves rises;
}

-- what was read as a position is fair, and the line is its line
read_spot : (n line : ℕ) (l : List ℕ) (s : Spot) → is_frame l ≡ true → spot_in n line l ≡ Ok s → (l ≡ spot_digits s) × FairSpot n s
read_spot n line l s framed h =
    let formed = passed (is_spot_line l) _ _ s h in
    let kind = and_parts (is_kind 2 l) _ formed.0 in
    let six = and_parts (leb 6 (length l)) _ kind.1 in
    let most = and_parts (leb (length l) 70) _ six.1 in
    let is : l ≡ spot_digits (spot_written l) = formed_line l (leb-true 6 (length l) six.0) (and_parts (all_digits l) _ framed).0 kind.0 (eqb-true _ 0 most.1) in
    let w = spot_written l in
    let known = passed (ltb w.side 2 && ltb w.label 16) _ _ s formed.1 in
    let both = and_parts (ltb w.side 2) _ known.0 in
    let rises = passed (rising n 0 w.moves) _ _ s known.1 in
    let same : spot_written l ≡ s = cc rises.1 in
    subst (λ (q : Spot). (l ≡ spot_digits q) × FairSpot n q) same
    (is, passed_fair n w (subst (λ (x : List ℕ). length x ≤ 70) is (leb-true (length l) 70 most.0)) (ltb-true _ 2 both.0) (ltb-true _ 16 both.1) rises.0)

-- the lines of fair positions are read as those positions
pub spots-read : (n line : ℕ) (b : List Spot) (rest : List ℕ) → n ≤ 512 → ((v : ℕ) → v < length b → FairSpot n (spot_at b v)) → spots_in n (length b) line (spot_lines b ++ rest) ≡ Ok (b, rest)
spots-read n line [] rest most each = refl
spots-read n line (s ∷ b) rest most each =
    let fair = each 0 (omega arith) in
    let more = spot_lines b ++ rest in
    let text : (spot_line s ++ spot_lines b) ++ rest ≡ spot_digits s ++ 10 ∷ more = append_assoc (spot_line s) (spot_lines b) rest ∙ spot_line-more s more in
    goes_on _ _ (spot_digits s, more) (ap (next_line line) text ∙ frame_read line (spot_digits s) more (spot_framed n s most fair))
    ∙ goes_on _ _ s (spot_read n line s most fair)
    ∙ goes_on _ _ (b, rest) (spots-read n (line + 1) b rest most (λ v lt. each (suc v) (omega arith)))

-- what is known of positions that were read
pub record Spots (n k : ℕ) (t : List ℕ) (p : List Spot × List ℕ) : Type 0 where
  pub count : length p.0 ≡ k
  pub lines : t ≡ spot_lines p.0 ++ p.1
  pub fair : (v : ℕ) → v < length p.0 → FairSpot n (spot_at p.0 v)

-- one line more in front of positions that were read
one_more : (n k : ℕ) (s : Spot) (t l : List ℕ) (q : List Spot × List ℕ) → t ≡ spot_digits s ++ 10 ∷ l → FairSpot n s → Spots n k l q → Spots n (suc k) t (s ∷ q.0, q.1)
one_more n k s t l q line f more = record {
  count = ap suc more.count;
  lines = line ∙ ap (λ (x : List ℕ). spot_digits s ++ 10 ∷ x) more.lines ∙ sym (append_assoc (spot_line s) (spot_lines q.0) q.1 ∙ spot_line-more s (spot_lines q.0 ++ q.1));
  fair = elim [ zero ↦ λ lt. f | suc v ↦ λ lt. more.fair v (omega arith) ];
}

-- positions that were read are fair and as many as asked for, and their lines stand there
pub read_spots : (n k line : ℕ) (t : List ℕ) (p : List Spot × List ℕ) → spots_in n k line t ≡ Ok p → Spots n k t p
read_spots n zero line t p h =
    let same : ◌≡◌ {A = List Spot × List ℕ} ([], t) p = cc in
    subst (Spots n 0 t) same (record { count = refl; lines = refl; fair = λ v lt. absurd (omega arith) })
read_spots n (suc k) line t p h =
    let first = went_on (next_line line t) _ p h in
    let l = first.0 in
    let at_front = read_frame line t l first.1 in
    let second = went_on (spot_in n line l.0) _ p first.2 in
    let spot = read_spot n line l.0 second.0 at_front.1 second.1 in
    let third = went_on (spots_in n k (line + 1) l.1) _ p second.2 in
    let q = third.0 in
    let same : (second.0 ∷ q.0, q.1) ≡ p = cc third.2 in
    subst (Spots n (suc k) t) same
    (one_more n k second.0 t l.1 q (at_front.0 ∙ ap (λ (x : List ℕ). x ++ 10 ∷ l.1) spot.0) spot.1 (read_spots n k (line + 1) l.1 q third.1))
