-- What boardgen prints.
use Rattle.std.specs.Prelude.{◌≡◌, ℕ, ◌<◌, cond, List}
use Rattle.std.specs.Str.Parse.{IsNumeral, digits_value, without_leading_plus}
use Rattle.board.specs.Pool.{pool_size, pool_board}
use Rattle.board_text.specs.Formatting.{refusal_line}
use Rattle.board_text.specs.Text.{text_of}

-- a word that writes a number up to 255 in decimal digits, with a plus sign before them or without
abbrev pub SmallNumber : List ℕ → Type 0
SmallNumber word = IsNumeral 10 (without_leading_plus word) × (digits_value 10 (without_leading_plus word) < 256)

-- the number that the word writes, or 0 where it writes none that small
abbrev pub WrittenOr0 : List ℕ → ℕ → Type 0
WrittenOr0 word n = (SmallNumber word → n ≡ digits_value 10 (without_leading_plus word)) × ((SmallNumber word → ⊥) → n ≡ 0)

-- the text of the pool board with q buffers, or refusal 26 with line 0
abbrev pub pool_printed : ℕ → List ℕ
pool_printed q = cond (pool_size q) (text_of (pool_board q)) (refusal_line 26 0)

-- what is printed for the word in the place of Q
abbrev pub PrintedFor : List ℕ → List ℕ → Type 0
PrintedFor word out = (n : ℕ) × WrittenOr0 word n × (out ≡ pool_printed n)
