-- What `array::from_fn` makes of a closure that its calls do not change.
use Rattle.std.proofs.Common.{◌≡◌, ℕ, zero, suc, ◌+◌, ◌<◌, ◌≤◌, List, map, get_or, sym, ap, subst, ◌∙◌, ⊎_elim, arith}
use Rattle.std.proofs.lemmas.Bool.{cases_lt}
use Rattle.std.proofs.lemmas.List.FromFn.{fill_by_all}
use Rattle.std.specs.Array.{IsFromFnResult, IsFromFnResultFrom}
use Rattle.std.specs.Fn.{Called}
use Rattle.std.specs.List.{range_with_len}
use denote.Param.Members.{Mut}

module _ {F B : Type 0} (g : Mut F (ℕ × Unit {0}) B) (h : ℕ → B) (f : F) (answer : (i : ℕ) (y : B) (q : F) → Called g f (i, tt) y q → (q ≡ f) × (y ≡ h i)) where
  at_each : (ys : List B) (i n : ℕ) → IsFromFnResultFrom g f ys i n → (k : ℕ) (d : B) → i ≤ k → k < i + n → get_or ys k d ≡ h k
  at_each ys i zero r k d ge lt = absurd (omega arith)
  at_each ys i (suc n) r k d ge lt =
      let one = answer i r.1 r.0 r.3 in
      ⊎_elim
      (λ (more : i < k). at_each ys (i + 1) n (subst (λ u. IsFromFnResultFrom g u ys (i + 1) n) one.0 r.4) k d (omega arith) (omega arith))
      (λ (less : k ≤ i).
      let here : k ≡ i = omega arith in
      ap (λ j. get_or ys j d) here ∙ r.2.1 d ∙ one.1 ∙ ap h (sym here))
      (cases_lt i k)

  pub map-from_fn : (ys : List B) (n : ℕ) (d : B) → IsFromFnResult g f ys n → ys ≡ map h (range_with_len 0 n)
  map-from_fn ys n d r = fill_by_all h ys n d r.long (λ k lt. at_each ys 0 n r.each k d (omega arith) (omega arith))
