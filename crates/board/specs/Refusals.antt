-- Refusals: their numbers, and the answers that bear them.
use Rattle.std.specs.Prelude.{ℕ, Bool, true, false, Ok, Err, Result}
use Rattle.board.specs.declared.refusals.PoolRefusal.{PoolRefusal}
use Rattle.board.specs.declared.refusals.PoolRefusal.TheVariants.{BadBuffers}
use Rattle.board.specs.declared.refusals.TableRefusal.{TableRefusal}
use Rattle.board.specs.declared.refusals.TableRefusal.TheVariants.{Unsound}

-- the number that an answer stands for: 0 where nothing was refused, else that of the refusal
abbrev pub number_answered : {X R : Type 0} → (R → ℕ) → Result X R → ℕ
number_answered number (Ok x) = 0
number_answered number (Err e) = number e

-- the answer that says only whether something is refused: nothing where the test passes, else the refusal
abbrev pub refused_unless : {R : Type 0} → Bool → R → Result (Unit {0}) R
refused_unless true e = Ok tt
refused_unless false e = Err e

-- 20: the two slices are not sound
abbrev pub number_of : TableRefusal → ℕ
number_of Unsound = 20

-- 26: there is no pool board with so many buffers
abbrev pub pool_number_of : PoolRefusal → ℕ
pool_number_of BadBuffers = 26
