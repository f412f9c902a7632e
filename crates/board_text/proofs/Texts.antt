-- A fair board and its text: each is found from the other.
use Rattle.std.proofs.Common.{◌≡◌, ℕ, ◌+◌, ◌<◌, ◌≤◌, List, ◌∷◌, ◌++◌, length, Ok, sym, ap, ◌∙◌, subst, arith}
use Rattle.board.specs.Spot.{Spot, spot_at, all_moves}
use Rattle.board.specs.Fair.{Fair, FairSpot}
use Rattle.board.proofs.Tallies.{few-moves}
use Rattle.board_text.specs.Laws.{JudgedExactly}
use Rattle.board_text.specs.Text.{spot_lines, last_line, text_of}
use Rattle.board_text.specs.Verdict.{next_line, count_in, opening, spots_in, end_in, verdict}
use Rattle.board_text.proofs.Hex.{same-join}
use Rattle.board_text.proofs.Framed.{goes_on, went_on, frame_read, read_frame}
use Rattle.board_text.proofs.Counts.{number_digits, number-framed, count-read, read_count, end_read, read_end}
use Rattle.board_text.proofs.Spots.{spots-read, read_spots}

-- the text of a fair board is judged to be that board
pub read_back : (b : List Spot) → Fair b → verdict (text_of b) ≡ Ok b
read_back b f =
    let n = length b in
    let some = f.some in
    let most = f.most in
    let few = few-moves b f in
    let rest = spot_lines b ++ last_line b in
    let framed = frame_read 1 (number_digits 1 n) rest (number-framed 1 n (omega arith) (omega arith)) in
    let opened : opening (text_of b) ≡ Ok (n, rest) = goes_on _ _ (number_digits 1 n, rest) framed ∙ goes_on _ _ n (count-read 1 n some most) in
    goes_on _ _ (n, rest) opened
    ∙ goes_on _ _ (b, last_line b) (spots-read n 2 b (last_line b) most f.each)
    ∙ goes_on _ _ tt (end_read (length (all_moves b)) (n + 2) (omega arith))

-- n positions, 1 to 512, each fair among n, are a fair board
fair-from : (n : ℕ) (b : List Spot) → length b ≡ n → 1 ≤ n → n ≤ 512 → ((v : ℕ) → v < length b → FairSpot n (spot_at b v)) → Fair b
fair-from n b e some most each =
    record { some = omega arith; most = omega arith; each = λ v lt. subst (λ (m : ℕ). FairSpot m (spot_at b v)) (sym e) (each v lt) }

-- a count that was read stands in the first line, and is from 1 to 512
read_opening : (t : List ℕ) (o : ℕ × List ℕ) → opening t ≡ Ok o → (t ≡ number_digits 1 o.0 ++ 10 ∷ o.1) × (1 ≤ o.0) × (o.0 ≤ 512)
read_opening t o h =
    let first = went_on (next_line 1 t) _ o h in
    let l = first.0 in
    let front = read_frame 1 t l first.1 in
    let second = went_on (count_in 1 l.0) _ o first.2 in
    let count = read_count 1 l.0 second.0 front.1 second.1 in
    let same : (second.0, l.1) ≡ o = cc second.2 in
    subst (λ (q : ℕ × List ℕ). (t ≡ number_digits 1 q.0 ++ 10 ∷ q.1) × (1 ≤ q.0) × (q.0 ≤ 512)) same
    (front.0 ∙ ap (λ (x : List ℕ). x ++ 10 ∷ l.1) count.0, count.1, count.2)

-- a text that is judged to be a board is the text of that board, which is fair
pub only_texts : (t : List ℕ) (b : List Spot) → verdict t ≡ Ok b → Fair b × (t ≡ text_of b)
only_texts t b h =
    let opened = went_on (opening t) _ b h in
    let o = opened.0 in
    let first = read_opening t o opened.1 in
    let n = o.0 in
    let third = went_on (spots_in n n 2 o.1) _ b opened.2 in
    let p = third.0 in
    let spots = read_spots n n 2 o.1 p third.1 in
    let fourth = went_on (end_in (length (all_moves p.0)) (n + 2) p.1) _ b third.2 in
    let ending = read_end (length (all_moves p.0)) (n + 2) p.1 fourth.0 fourth.1 in
    let same : p.0 ≡ b = cc fourth.2 in
    subst (λ (q : List Spot). Fair q × (t ≡ text_of q)) same (
      fair-from n p.0 spots.count first.1 first.2 spots.fair,
      first.0 ∙ same-join (ap (number_digits 1) (sym spots.count))
          (ap (λ (x : List ℕ). 10 ∷ x) (spots.lines ∙ ap (λ (x : List ℕ). spot_lines p.0 ++ x) ending)),
    )

-- the positions that are read are as many as asked for
pub spots-count : (n k line : ℕ) (t : List ℕ) (p : List Spot × List ℕ) → spots_in n k line t ≡ Ok p → length p.0 ≡ k
spots-count n k line t p h = (read_spots n k line t p h).count

-- two fair boards with one text are one board
pub one_text : (a b : List Spot) → Fair a → Fair b → text_of a ≡ text_of b → a ≡ b
one_text a b f g e =
    let same : Ok a ≡ verdict (text_of b) = sym (read_back a f) ∙ ap verdict e in
    let back = read_back b g in
    cc

-- the verdict is a board exactly on that board's text
pub judged_exactly : (t : List ℕ) → JudgedExactly t
judged_exactly t b = (only_texts t b, λ p. ap verdict p.1 ∙ read_back b p.0)
