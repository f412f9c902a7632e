-- Digits 0 to 9 and A to F, and the numbers that two or four of them write.
use Rattle.std.specs.Prelude.{ℕ, ◌+◌, ◌-◌, ◌*◌, ◌/◌, ◌%◌, Bool, cond, ◌&&◌, ◌||◌, List, [], ◌∷◌, ◌++◌, nat_le, nat_lt}
use Rattle.std.specs.List.{flat_map, list_all}

-- the byte is one of the digits 0 to 9, which are the bytes 48 to 57
abbrev pub is_decimal : ℕ → Bool
is_decimal c = nat_le 48 c && nat_le c 57

-- the byte is one of the digits A to F, which are the bytes 65 to 70
abbrev pub is_letter : ℕ → Bool
is_letter c = nat_le 65 c && nat_le c 70

-- the byte is a digit
abbrev pub is_digit : ℕ → Bool
is_digit c = is_decimal c || is_letter c

-- what a digit counts; another byte counts 0
abbrev pub value : ℕ → ℕ
value c = cond (is_decimal c) (c - 48) (cond (is_letter c) (c - 55) 0)

-- the digit that counts n, which is below 16
abbrev pub digit : ℕ → ℕ
digit n = cond (nat_lt n 10) (48 + n) (55 + n)

-- the number that two digits write
abbrev pub two : ℕ → ℕ → ℕ
two a b = 16 * value a + value b

-- the number that four digits write
abbrev pub four : ℕ → ℕ → ℕ → ℕ → ℕ
four a b c d = 256 * two a b + two c d

-- a number below 256 in two digits
abbrev pub hex2 : ℕ → List ℕ
hex2 n = digit (n / 16) ∷ digit (n % 16) ∷ []

-- a number below 65,536 in four digits
abbrev pub hex4 : ℕ → List ℕ
hex4 n = hex2 (n / 256) ++ hex2 (n % 256)

-- every byte of the list is a digit
abbrev pub all_digits : List ℕ → Bool
all_digits cs = list_all is_digit cs

-- the numbers that a list of digits writes, four digits each
abbrev pub fours : List ℕ → List ℕ
fours [] = []
fours (a ∷ []) = []
fours (a ∷ b ∷ []) = []
fours (a ∷ b ∷ c ∷ []) = []
fours (a ∷ b ∷ c ∷ d ∷ rest) = four a b c d ∷ fours rest

-- numbers written in four digits each
abbrev pub hex4s : List ℕ → List ℕ
hex4s ns = flat_map hex4 ns
