-- The first line and the last, which write a number: each is read as it, and what was read as one is its line.
use Rattle.std.proofs.Common.{◌≡◌, ℕ, ◌+◌, ◌<◌, ◌≤◌, true, ◌&&◌, eqb, leb, List, [], ◌∷◌, ◌++◌, length, Ok, sym, refl, ap, ◌∙◌, subst, arith}
use Rattle.std.proofs.lemmas.List.{nil_from_length}
use Rattle.std.proofs.lemmas.Bool.{and_parts, and_from, leb-true, eqb-true, eq-eqb, cond-true}
use Rattle.std.proofs.lemmas.Bool.Decides.{nat_tests}
use Rattle.board_text.specs.Digits.{is_digit, hex4, all_digits}
use Rattle.board_text.specs.Verdict.{is_frame, is_kind, is_number_line, number_in, next_line, count_in, total_in, nothing_more, end_in}
use Rattle.board_text.proofs.Hex.{four-hex4, hex4-four, digits_hex4, same-two, same-join}
use Rattle.board_text.proofs.Framed.{goes_on, went_on, passed, frame_read, read_frame, by_six}

-- a line of kind k that writes n, without its LF
abbrev pub number_digits : ℕ → ℕ → List ℕ
number_digits k n = 48 ∷ (48 + k) ∷ hex4 n

-- it is a frame
pub number-framed : (k n : ℕ) → k < 10 → n < 65536 → is_frame (number_digits k n) ≡ true
number-framed k n one small =
    let kind : is_digit (48 + k) ≡ true = grind (arith, nat_tests) in
    and_from (all_digits (number_digits k n)) _ (and_from (is_digit (48 + k)) _ kind (digits_hex4 n [] small refl)) refl

-- a line of that kind with one number is the line of that number
formed_number : (k : ℕ) (l : List ℕ) → is_frame l ≡ true → is_number_line k l ≡ true → l ≡ number_digits k (number_in l)
formed_number k l framed formed =
    let parts = and_parts (is_kind k l) _ formed in
    let long = eqb-true (length l) 6 parts.1 in
    by_six (λ l. all_digits l ≡ true → is_kind k l ≡ true → length l ≡ 6 → l ≡ number_digits k (number_in l))
    (λ a b c d e f rest digits kind six.
    let p = and_parts (is_digit a) _ digits in
    let q = and_parts (is_digit b) _ p.1 in
    let r = and_parts (is_digit c) _ q.1 in
    let s = and_parts (is_digit d) _ r.1 in
    let t = and_parts (is_digit e) _ s.1 in
    let u = and_parts (is_digit f) _ t.1 in
    let m = and_parts (eqb a 48) (eqb b (48 + k)) kind in
    let none : rest ≡ [] = nil_from_length rest (omega arith) in
    ap (λ (x : List ℕ). a ∷ b ∷ c ∷ d ∷ e ∷ f ∷ x) none
    ∙ same-join (same-two (eqb-true a 48 m.0) (eqb-true b (48 + k) m.1)) (sym (hex4-four c d e f r.0 s.0 t.0 u.0)))
    l (omega arith) (and_parts (all_digits l) _ framed).0 parts.0 long

-- the line of a count from 1 to 512 is read as that count
pub count-read : (line n : ℕ) → 1 ≤ n → n ≤ 512 → count_in line (number_digits 1 n) ≡ Ok n
count-read line n some most =
    rw (four-hex4 n (omega arith)) (grind (arith, nat_tests))

-- what was read as a count is from 1 to 512, and the line is its line
pub read_count : (line : ℕ) (l : List ℕ) (n : ℕ) → is_frame l ≡ true → count_in line l ≡ Ok n → (l ≡ number_digits 1 n) × (1 ≤ n) × (n ≤ 512)
read_count line l n framed h =
    let formed = passed (is_number_line 1 l) _ _ n h in
    let known = passed (leb 1 (number_in l) && leb (number_in l) 512) _ _ n formed.1 in
    let both = and_parts (leb 1 (number_in l)) _ known.0 in
    let same : number_in l ≡ n = cc known.1 in
    subst (λ (m : ℕ). (l ≡ number_digits 1 m) × (1 ≤ m) × (m ≤ 512)) same
    (formed_number 1 l framed formed.0, leb-true 1 _ both.0, leb-true _ 512 both.1)

-- the last line with the total is read as the end
pub end_read : (total line : ℕ) → total < 65536 → end_in total line (number_digits 3 total ++ 10 ∷ []) ≡ Ok tt
end_read total line small =
    goes_on _ _ (number_digits 3 total, []) (frame_read line (number_digits 3 total) [] (number-framed 3 total (omega arith) small))
    ∙ goes_on _ _ tt
    (cond-true (eqb (number_in (number_digits 3 total)) total) _ _ (eq-eqb (number_in (number_digits 3 total)) total (four-hex4 total small)))

-- where nothing more was found, no text is left
nothing_left : (line : ℕ) (t : List ℕ) (u : Unit {0}) → nothing_more line t ≡ Ok u → t ≡ []
nothing_left line [] u h = refl
nothing_left line (c ∷ cs) u h =
    let next = went_on (next_line line (c ∷ cs)) _ u h in
    cc next.2

-- what was read as the end is the last line with the total
pub read_end : (total line : ℕ) (t : List ℕ) (u : Unit {0}) → end_in total line t ≡ Ok u → t ≡ number_digits 3 total ++ 10 ∷ []
read_end total line t u h =
    let first = went_on (next_line line t) _ u h in
    let l = first.0 in
    let at_front = read_frame line t l first.1 in
    let second = went_on (total_in total line l.0) _ u first.2 in
    let formed = passed (is_number_line 3 l.0) _ _ second.0 second.1 in
    let right = passed (eqb (number_in l.0) total) _ _ second.0 formed.1 in
    let line-is : l.0 ≡ number_digits 3 total = formed_number 3 l.0 at_front.1 formed.0 ∙ ap (number_digits 3) (eqb-true (number_in l.0) total right.0) in
    at_front.0 ∙ same-join line-is (ap (λ (x : List ℕ). 10 ∷ x) (nothing_left (line + 1) l.1 u second.2))
