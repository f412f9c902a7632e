-- Moves that are tested one after another by a `try_fold`: what it answers is what `rising` says of them.
use Rattle.std.proofs.Common.{◌≡◌, ℕ, ◌+◌, Bool, true, false, cond, ◌&&◌, leb, ltb, List, [], ◌∷◌, Option, Some, None, sym, ap, ◌∙◌, subst}
use Rattle.std.specs.Fn.{Called}
use Rattle.std.specs.Iterator.{AlwaysYields, YieldsThen}
use Rattle.std.specs.List.{FoldsTo}
use Rattle.std.specs.Option.{MatchOption, is_some}
use Rattle.std.proofs.lemmas.Iterator.{YieldsList}
use Rattle.board.specs.Rising.{rising}
use denote.Param.Members.{Mut}

-- the lowest move that may come next, where this one may stand
abbrev pub next_low : ℕ → ℕ → ℕ → Option ℕ
next_low n low m = cond (leb low m && ltb m n) (Some (m + 1)) None

next_low-some : (n m a : ℕ) (ms : List ℕ) (above below : Bool) → Some a ≡ cond (above && below) (Some (m + 1)) None → (above && (below && rising n (m + 1) ms)) ≡ rising n a ms
next_low-some n m a ms true true e = cc
next_low-some n m a ms true false e = cc
next_low-some n m a ms false below e = cc

next_low-none : (m : ℕ) (above below more : Bool) → None ≡ cond (above && below) (Some (m + 1)) None → (above && (below && more)) ≡ false
next_low-none m true true more e = cc
next_low-none m true false more e = search
next_low-none m false below more e = search

module _ {S A F : Type 0} (E : Type 0) (steps : S → Option A → S → Type 0) (v : A → ℕ) (g : Mut F (ℕ × (A × Unit {0})) (Option ℕ)) (n : ℕ) (u : S) (f : F)
    (step : (low : ℕ) (x : A) (r : Option ℕ) (q : F) → Called g f (low, (x, tt)) r q → (q ≡ f) × (r ≡ next_low n low (v x))) where
  folded : (all : List ℕ) (s : S) (low : ℕ) → AlwaysYields steps v s all → (xs : List A) (o : Option A) (q : F × ℕ) (r : Option ℕ)
      → YieldsThen steps s xs o u → FoldsTo {P = F × ℕ} (λ p x q. (w : Option ℕ) × Called g p.0 (p.1, (x, tt)) w q.0 × (w ≡ Some q.1)) (f, low) xs q
      → MatchOption o (r ≡ Some q.1) (λ x. (w : Option ℕ) × (h : F) × (e : E) × Called g q.0 (q.1, (x, tt)) w h × (w ≡ None) × (r ≡ None))
      → is_some r ≡ rising n low all
  folded [] s low e [] None q r y c d = ap is_some d
  folded [] s low e [] (Some x) q r y c d = absurd (e x u (subst (λ t. steps t (Some x) u) (sym y.1) y.2))
  folded [] s low e (x ∷ xs) o q r y c d = absurd (e x y.1.0 y.1.1)
  folded (m ∷ ms) s low e [] None q r y c d = absurd (e.0 u (subst (λ t. steps t None u) (sym y.1) y.2))
  folded (m ∷ ms) s low e [] (Some x) q r y c d =
      let item = (e.1 x u (subst (λ t. steps t (Some x) u) (sym y.1) y.2)).0 in
      let called = step low x d.0 d.1 (subst (λ (p : F × ℕ). Called g p.0 (p.1, (x, tt)) d.0 d.1) (sym c) d.3) in
      let none : None ≡ next_low n low m = sym d.4 ∙ called.1 ∙ ap (next_low n low) item in
      ap is_some d.5 ∙ sym (next_low-none m (leb low m) (ltb m n) _ none)
  folded (m ∷ ms) s low e (x ∷ xs) o q r y c d =
      let item = e.1 x y.1.0 y.1.1 in
      let p = c.0 in
      let called = step low x c.1.0 p.0 c.1.1 in
      let some : Some p.1 ≡ next_low n low m = sym c.1.2 ∙ called.1 ∙ ap (next_low n low) item.0 in
      let after = subst (λ (k : F). FoldsTo {P = F × ℕ} (λ p x q. (w : Option ℕ) × Called g p.0 (p.1, (x, tt)) w q.0 × (w ≡ Some q.1)) (k, p.1) xs q) called.0 c.2 in
      folded ms y.1.0 p.1 item.1 xs o q r (y.0, y.1.2, y.2) after d
      ∙ sym (next_low-some n m p.1 ms (leb low m) (ltb m n) some)

module _ {S A F E : Type 0} {steps : S → Option A → S → Type 0} {v : A → ℕ} {g : Mut F (ℕ × (A × Unit {0})) (Option ℕ)} (n : ℕ) (u : S) (f : F)
    (step : (low : ℕ) (x : A) (r : Option ℕ) (q : F) → Called g f (low, (x, tt)) r q → (q ≡ f) × (r ≡ next_low n low (v x))) where
  pub rising_from_try_fold : {s : S} {all : List ℕ} (low : ℕ) (r : Option ℕ)
      → (xs : List A) × (o : Option A) × (f' : F) × (a : ℕ) × YieldsThen steps s xs o u
      × FoldsTo {P = F × ℕ} (λ p x q. (w : Option ℕ) × Called g p.0 (p.1, (x, tt)) w q.0 × (w ≡ Some q.1)) (f, low) xs (f', a)
      × MatchOption o (r ≡ Some a) (λ x. (w : Option ℕ) × (h : F) × (e : E) × Called g f' (a, (x, tt)) w h × (w ≡ None) × (r ≡ None))
      → YieldsList steps v s all → is_some r ≡ rising n low all
  rising_from_try_fold {s} {all} low r ran gives = folded E steps v g n u f step all s low gives.runs ran.0 ran.1 (ran.2, ran.3) r ran.4 ran.5 ran.6
