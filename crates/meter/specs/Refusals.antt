-- The numbers of the refusals of this crate.
use Rattle.std.specs.Prelude.{ℕ}
use Rattle.meter.specs.declared.refusals.ActionRefusal.{ActionRefusal}
use Rattle.meter.specs.declared.refusals.ActionRefusal.TheVariants.{BadAction}

-- 22: a label above 15, or a number that stands for no action
abbrev pub number_of : ActionRefusal → ℕ
number_of BadAction = 22
