-- What writing answers, and what it leaves in the slice.
use Rattle.std.specs.Prelude.{ℕ, cond, List, length, Ok, Err, Result, nat_le}
use Rattle.board_text.specs.Reading.{over}
use Rattle.board_text.specs.declared.refusals.WriteRefusal.{WriteRefusal}
use Rattle.board_text.specs.declared.refusals.WriteRefusal.TheVariants.{TooShort}

-- the length of the text, or refusal 19 where the slice is shorter
abbrev pub written : List ℕ → ℕ → Result ℕ WriteRefusal
written text room = cond (nat_le (length text) room) (Ok (length text)) (Err TooShort)

-- the slice afterwards: the text at its front, or as it was
abbrev pub after_writing : List ℕ → List ℕ → List ℕ
after_writing text out = cond (nat_le (length text) (length out)) (over text out) out
