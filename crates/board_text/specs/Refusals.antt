-- The numbers of the refusals of board text.
use Rattle.std.specs.Prelude.{ℕ}
use Rattle.board_text.specs.declared.refusals.TextRefusal.{TextRefusal}
use Rattle.board_text.specs.declared.refusals.TextRefusal.TheVariants.{NoLine, NotDigits, NotDue, BadCount, BadSpot, BadMove, BadTotal, NoRoom}
use Rattle.board_text.specs.declared.refusals.WriteRefusal.{WriteRefusal}
use Rattle.board_text.specs.declared.refusals.WriteRefusal.TheVariants.{TooShort}

-- the reader's refusals, in the order in which a line is checked; each comes with its line, counted from 1 (0 for `NoRoom`)
abbrev pub number_of : TextRefusal → ℕ
number_of NoLine = 11
number_of NotDigits = 12
number_of NotDue = 13
number_of BadCount = 14
number_of BadSpot = 15
number_of BadMove = 16
number_of BadTotal = 17
number_of NoRoom = 18

-- the writer's one refusal, which carries nothing
abbrev pub write_number_of : WriteRefusal → ℕ
write_number_of TooShort = 19
