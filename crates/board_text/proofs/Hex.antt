-- Digits and the numbers that they write: each is read back from the other.
use Rattle.std.proofs.Common.{◌≡◌, ℕ, suc, ◌+◌, ◌*◌, ◌/◌, ◌%◌, ◌<◌, true, List, [], ◌∷◌, ◌++◌, length, get_or, refl, ap, ◌∙◌, arith}
use Rattle.std.proofs.lemmas.Bool.{and_parts, and_from}
use Rattle.std.proofs.lemmas.Bool.Decides.{nat_tests}
use Rattle.board_text.specs.Digits.{is_digit, value, digit, two, four, hex2, hex4, all_digits, fours, hex4s}

-- what is written for a number below 16 is a digit
pub digit-is : (n : ℕ) → n < 16 → is_digit (digit n) ≡ true
digit-is n lt = grind (arith, nat_tests)

-- and it counts that number
pub digit-counts : (n : ℕ) → n < 16 → value (digit n) ≡ n
digit-counts n lt = grind (arith, nat_tests)

-- a digit is what is written for the number it counts
pub counted_digit : (c : ℕ) → is_digit c ≡ true → digit (value c) ≡ c
counted_digit c h = grind (arith, nat_tests)

-- no byte counts 16 or more
pub value-small : (c : ℕ) → value c < 16
value-small c = grind (arith, nat_tests)

-- two digits write the number that they are written for
pub two-hex2 : (n : ℕ) → n < 256 → two (digit (n / 16)) (digit (n % 16)) ≡ n
two-hex2 n lt = rw (digit-counts (n / 16) (omega arith), digit-counts (n % 16) (omega arith)) (omega arith)

-- so do four
pub four-hex4 : (n : ℕ) → n < 65536 → four (digit (n / 256 / 16)) (digit (n / 256 % 16)) (digit (n % 256 / 16)) (digit (n % 256 % 16)) ≡ n
four-hex4 n lt = rw (two-hex2 (n / 256) (omega arith), two-hex2 (n % 256) (omega arith)) (omega arith)

-- the high and the low part of a number of two digits
parts_16 : (x y : ℕ) → y < 16 → ((16 * x + y) / 16 ≡ x) × ((16 * x + y) % 16 ≡ y)
parts_16 x y lt = (omega arith, omega arith)

-- and of four
parts_256 : (x y : ℕ) → y < 256 → ((256 * x + y) / 256 ≡ x) × ((256 * x + y) % 256 ≡ y)
parts_256 x y lt = (omega arith, omega arith)

-- equal bytes make equal pairs
pub same-two : {a b x y : ℕ} → x ≡ a → y ≡ b → x ∷ y ∷ [] ≡ a ∷ b ∷ []
same-two p q = cc

-- equal lists make equal joined lists
pub same-join : {a b x y : List ℕ} → x ≡ a → y ≡ b → x ++ y ≡ a ++ b
same-join p q = cc

-- two digits are what is written for their number
pub hex2-two : (a b : ℕ) → is_digit a ≡ true → is_digit b ≡ true → hex2 (two a b) ≡ a ∷ b ∷ []
hex2-two a b p q =
    let split = parts_16 (value a) (value b) (value-small b) in
    same-two (ap digit split.0 ∙ counted_digit a p) (ap digit split.1 ∙ counted_digit b q)

-- two digits count less than 256
two-small : (x y : ℕ) → x < 16 → y < 16 → 16 * x + y < 256
two-small x y p q = omega arith

-- so are four
pub hex4-four : (a b c d : ℕ) → is_digit a ≡ true → is_digit b ≡ true → is_digit c ≡ true → is_digit d ≡ true → hex4 (four a b c d) ≡ a ∷ b ∷ c ∷ d ∷ []
hex4-four a b c d p q r s =
    let split = parts_256 (two a b) (two c d) (two-small (value c) (value d) (value-small c) (value-small d)) in
    same-join (ap hex2 split.0 ∙ hex2-two a b p q) (ap hex2 split.1 ∙ hex2-two c d r s)

-- equal heads and equal tails make equal lists
same_more : {X : Type 0} {x y : X} {xs ys : List X} → x ≡ y → xs ≡ ys → x ∷ xs ≡ y ∷ ys
same_more p q = cc

-- numbers are read back from their digits
pub fours-hex4s : (ns : List ℕ) → ((i : ℕ) → i < length ns → get_or ns i 0 < 65536) → fours (hex4s ns) ≡ ns
fours-hex4s [] small = refl
fours-hex4s (n ∷ ns) small = same_more (four-hex4 n (small 0 (omega arith))) (fours-hex4s ns (λ i lt. small (suc i) (omega arith)))

-- digits in fours are written back from their numbers
pub hex4s-fours : (l : List ℕ) → all_digits l ≡ true → length l % 4 ≡ 0 → hex4s (fours l) ≡ l
hex4s-fours [] h e = refl
hex4s-fours (a ∷ []) h e = absurd (omega arith)
hex4s-fours (a ∷ b ∷ []) h e = absurd (omega arith)
hex4s-fours (a ∷ b ∷ c ∷ []) h e = absurd (omega arith)
hex4s-fours (a ∷ b ∷ c ∷ d ∷ rest) h e =
    let p = and_parts (is_digit a) _ h in
    let q = and_parts (is_digit b) _ p.1 in
    let r = and_parts (is_digit c) _ q.1 in
    let s = and_parts (is_digit d) _ r.1 in
    same-join (hex4-four a b c d p.0 q.0 r.0 s.0) (hex4s-fours rest s.1 (omega arith))

-- what is written in two digits is digits
pub digits_hex2 : (n : ℕ) (l : List ℕ) → n < 256 → all_digits l ≡ true → all_digits (hex2 n ++ l) ≡ true
digits_hex2 n l lt h =
    and_from _ _ (digit-is (n / 16) (omega arith)) (and_from _ _ (digit-is (n % 16) (omega arith)) h)

-- so is what is written in four
pub digits_hex4 : (n : ℕ) (l : List ℕ) → n < 65536 → all_digits l ≡ true → all_digits (hex4 n ++ l) ≡ true
digits_hex4 n l lt h = digits_hex2 (n / 256) (hex2 (n % 256) ++ l) (omega arith) (digits_hex2 (n % 256) l (omega arith) h)

-- and what is written in four digits each
pub digits_hex4s : (ns : List ℕ) → ((i : ℕ) → i < length ns → get_or ns i 0 < 65536) → all_digits (hex4s ns) ≡ true
digits_hex4s [] small = refl
digits_hex4s (n ∷ ns) small = digits_hex4 n (hex4s ns) (small 0 (omega arith)) (digits_hex4s ns (λ i lt. small (suc i) (omega arith)))
