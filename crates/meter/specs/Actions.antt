-- The actions of a deadline meter: their numbers, the one that a label has, and how one is set.
use Rattle.std.specs.Prelude.{ℕ, Bool, cond, ◌&&◌, List, Some, None, Option, Result, ◌==◌, nat_le, slice_index_or, slice_set}
use Rattle.std.specs.Option.{ok_or}
use Rattle.meter.specs.declared.actions.Action.{Action}
use Rattle.meter.specs.declared.actions.Action.TheVariants.{Keep, Add, Back}
use Rattle.meter.specs.declared.refusals.ActionRefusal.{ActionRefusal}
use Rattle.meter.specs.declared.refusals.ActionRefusal.TheVariants.{BadAction}

-- the numbers of the actions, 0 to 2; no other number stands for one
abbrev pub action_numbered : ℕ → Option Action
action_numbered n = cond (n == 0) (Some Keep) (cond (n == 1) (Some Add) (cond (n == 2) (Some Back) None))

-- the action that a number is read as, or the refusal of one that stands for none
abbrev pub action_read : ℕ → Result Action ActionRefusal
action_read n = ok_or (action_numbered n) BadAction

-- the action of a label up to 15; one above 15 keeps
abbrev pub action_at : List Action → ℕ → Action
action_at actions label = cond (nat_le label 15) (slice_index_or actions label Keep) Keep

-- whether the label and the number may be set: a label up to 15, an action up to 2
abbrev pub settable : ℕ → ℕ → Bool
settable label n = nat_le label 15 && nat_le n 2

-- the list with the action at the label, where there is one
abbrev pub with_action : List Action → ℕ → Option Action → List Action
with_action actions label (Some a) = slice_set actions label a
with_action actions label None = actions

-- the actions after setting: what may not be set changes nothing
abbrev pub actions_after : List Action → ℕ → ℕ → List Action
actions_after actions label n = cond (settable label n) (with_action actions label (action_numbered n)) actions
