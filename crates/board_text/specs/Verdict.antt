-- What a text is judged to be: the first fault with its line, or the board.
use Rattle.std.specs.Prelude.{ℕ, zero, suc, ◌+◌, ◌-◌, ◌%◌, Bool, cond, ◌&&◌, List, [], ◌∷◌, length, take, drop, Ok, Err, Result, ◌==◌, nat_le, nat_lt, slice_index}
use Rattle.std.specs.List.{position_or_len}
use Rattle.board.specs.Spot.{Spot, all_moves}
use Rattle.board.specs.Rising.{rising}
use Rattle.board_text.specs.Digits.{two, four, fours, all_digits}
use Rattle.board_text.specs.declared.refusals.TextRefusal.{TextRefusal}
use Rattle.board_text.specs.declared.refusals.TextRefusal.TheVariants.{NoLine, NotDigits, NotDue, BadCount, BadSpot, BadMove, BadTotal}

-- a fault: the refusal, and the line where it stands, counted from 1
abbrev pub Fault : Type 0
Fault = TextRefusal × ℕ

-- go on where nothing was refused
abbrev pub and_then : {A B : Type 0} → Result A Fault → (A → Result B Fault) → Result B Fault
and_then (Ok a) f = f a
and_then (Err e) f = Err e

-- how many bytes stand before the first LF, byte 10; all of them where there is none
abbrev pub line_end : List ℕ → ℕ
line_end t = position_or_len (λ c. c == 10) t

-- a line is a frame: digits, in an even number
abbrev pub is_frame : List ℕ → Bool
is_frame l = all_digits l && length l % 2 == 0

-- the line that stands at the front of a text, without its LF, and the text after it
abbrev pub next_line : ℕ → List ℕ → Result (List ℕ × List ℕ) Fault
next_line line t =
    cond (nat_lt (line_end t) (length t))
    (cond (is_frame (take (line_end t) t)) (Ok (take (line_end t) t, drop (line_end t + 1) t)) (Err (NotDigits, line)))
    (Err (NoLine, line))

-- a line begins with the digits of its kind, 0 and k; the byte of the digit 0 is 48
abbrev pub is_kind : ℕ → List ℕ → Bool
is_kind k l = slice_index l 0 == 48 && slice_index l 1 == 48 + k

-- a line of kind k with one number of four digits
abbrev pub is_number_line : ℕ → List ℕ → Bool
is_number_line k l = is_kind k l && length l == 6

-- that number
abbrev pub number_in : List ℕ → ℕ
number_in l = four (slice_index l 2) (slice_index l 3) (slice_index l 4) (slice_index l 5)

-- a line of kind 2 with a side, a label and at most sixteen moves: 6, 10, 14 .. or 70 digits
abbrev pub is_spot_line : List ℕ → Bool
is_spot_line l = is_kind 2 l && (nat_le 6 (length l) && (nat_le (length l) 70 && (length l - 6) % 4 == 0))

-- the count of positions, 1 to 512
abbrev pub count_in : ℕ → List ℕ → Result ℕ Fault
count_in line l =
    cond (is_number_line 1 l)
    (cond (nat_le 1 (number_in l) && nat_le (number_in l) 512) (Ok (number_in l)) (Err (BadCount, line)))
    (Err (NotDue, line))

-- a position of a board of n: its side and label first, then its moves
abbrev pub spot_by : ℕ → ℕ → Spot → Result Spot Fault
spot_by n line s =
    cond (nat_lt s.side 2 && nat_lt s.label 16)
    (cond (rising n 0 s.moves) (Ok s) (Err (BadMove, line)))
    (Err (BadSpot, line))

-- what a line of kind 2 writes
abbrev pub spot_written : List ℕ → Spot
spot_written l = record {
  side = two (slice_index l 2) (slice_index l 3);
  label = two (slice_index l 4) (slice_index l 5);
  moves = fours (drop 6 l);
}

-- the position of a line
abbrev pub spot_in : ℕ → ℕ → List ℕ → Result Spot Fault
spot_in n line l = cond (is_spot_line l) (spot_by n line (spot_written l)) (Err (NotDue, line))

-- k positions of a board of n from a line on, and the text after them
abbrev pub spots_in : ℕ → ℕ → ℕ → List ℕ → Result (List Spot × List ℕ) Fault
spots_in n zero line t = Ok ([], t)
spots_in n (suc k) line t =
    and_then (next_line line t) (λ l.
    and_then (spot_in n line l.0) (λ s.
    and_then (spots_in n k (line + 1) l.1) (λ p. Ok (s ∷ p.0, p.1))))

-- the last line writes the total of all moves
abbrev pub total_in : ℕ → ℕ → List ℕ → Result (Unit {0}) Fault
total_in total line l =
    cond (is_number_line 3 l)
    (cond (number_in l == total) (Ok tt) (Err (BadTotal, line)))
    (Err (NotDue, line))

-- nothing stands after the last line: a byte there begins a line that is not due
abbrev pub nothing_more : ℕ → List ℕ → Result (Unit {0}) Fault
nothing_more line [] = Ok tt
nothing_more line (c ∷ cs) = and_then (next_line line (c ∷ cs)) (λ _. Err (NotDue, line))

-- the last line and the end of the text
abbrev pub end_in : ℕ → ℕ → List ℕ → Result (Unit {0}) Fault
end_in total line t =
    and_then (next_line line t) (λ l. and_then (total_in total line l.0) (λ _. nothing_more (line + 1) l.1))

-- the first line gives the number of positions; after it stands the text of the rest
abbrev pub opening : List ℕ → Result (ℕ × List ℕ) Fault
opening t = and_then (next_line 1 t) (λ l. and_then (count_in 1 l.0) (λ n. Ok (n, l.1)))

-- the whole text, line by line
abbrev pub verdict : List ℕ → Result (List Spot) Fault
verdict t =
    and_then (opening t) (λ o.
    and_then (spots_in o.0 o.0 2 o.1) (λ p.
    and_then (end_in (length (all_moves p.0)) (o.0 + 2) p.1) (λ _. Ok p.0)))
