-- Why the deadline meter keeps the laws: the witness that its `impl` gives. Nothing here has to be read to
-- understand a contract.
use Rattle.std.specs.Prelude.{◌≡◌, ℕ, ◌+◌, ◌≤◌, Bool, true, List, nat_le, refl}
use Rattle.std.proofs.Common.{arith}
use Rattle.std.proofs.lemmas.Bool.{leb-true, le-leb}
use Rattle.std.proofs.lemmas.Bool.Decides.{nat_tests}
use Rattle.meter.specs.Gauge.{Laws, ExactlyWhen}
use Rattle.meter.specs.Marked.{rank_in, gauge_of}
use Rattle.meter.specs.MarkedLaws.{Well, Lawful, seen-well, seen-shown, marked-laws}
use Rattle.meter.specs.Actions.{action_at}
use Rattle.meter.specs.Deadline.{raise_by, lower_by, deadline_scale}
use Rattle.meter.specs.declared.actions.Action.{Action}
use Rattle.meter.specs.declared.actions.Action.TheVariants.{Keep, Add, Back}
use Rattle.meter.specs.declared.seen.Seen.{Seen}

-- the numbers up to the limit fit, and are ranked by themselves
abbrev fits : ℕ → ℕ → Bool
fits limit n = nat_le n limit

abbrev rank : ℕ → Seen ℕ → ℕ
rank limit = rank_in (limit + 1) (λ (n : ℕ). n)

-- up never makes a memory none
raised_by : (limit n : ℕ) (a : Action) → nat_le n limit ≡ true → Well (fits limit) (raise_by limit n a) × (1 ≤ rank limit (raise_by limit n a))
raised_by limit n Keep w = (w, omega arith)
raised_by limit n Add w = grind (arith, nat_tests)
raised_by limit n Back w = grind (arith, nat_tests)

-- down never makes a memory overflow
lowered_by : (limit n : ℕ) (a : Action) → nat_le n limit ≡ true → Well (fits limit) (lower_by limit n a) × (rank limit (lower_by limit n a) ≤ limit + 1)
lowered_by limit n Keep w = grind (arith, nat_tests)
lowered_by limit n Add w = grind (arith, nat_tests)
lowered_by limit n Back w = grind (arith, nat_tests)

-- n taken up is at most m exactly when n is at most m taken down
adjoint-by : (limit n m : ℕ) (a : Action) → n ≤ limit → m ≤ limit → ExactlyWhen (rank limit (raise_by limit n a) ≤ m + 1) (n + 1 ≤ rank limit (lower_by limit m a))
adjoint-by limit n m Keep w v = (λ h. h, λ h. h)
adjoint-by limit n m Add w v = (λ h. grind (arith, nat_tests), λ h. grind (arith, nat_tests))
adjoint-by limit n m Back w v = (λ h. omega arith, λ h. omega arith)

pub deadline_lawful : (limit : ℕ) (actions : List Action) → limit ≤ 65535 → Lawful (deadline_scale limit actions)
deadline_lawful limit actions within = record {
  some = omega arith;
  few = omega arith;
  seen_well = seen-well (λ n. nat_le n limit);
  seen_shown = seen-shown (λ n. nat_le n limit) 0;
  below = λ n w. omega (arith, leb-true n limit w);
  first_fits = le-leb 0 limit (omega arith);
  first_number = refl;
  last_fits = le-leb limit limit (omega arith);
  last_number = refl;
  raised = λ n p lt w. raised_by limit n (action_at actions p) w;
  lowered = λ n p lt w. lowered_by limit n (action_at actions p) w;
  adjoint = λ n m p lt w v. adjoint-by limit n m (action_at actions p) (leb-true n limit w) (leb-true m limit v);
}

-- so it is a meter
pub deadline_laws : (limit : ℕ) (actions : List Action) → limit ≤ 65535 → Laws (gauge_of (deadline_scale limit actions))
deadline_laws limit actions within = marked-laws (deadline_scale limit actions) (deadline_lawful limit actions within)
