-- What the adjoint law gives.
use Rattle.std.proofs.Common.{◌≡◌, ℕ, ◌≤◌, sym, subst, arith}
use Rattle.meter.specs.Gauge.{Gauge, Laws, ExactlyWhen, AdjointAt, GreatestBefore}

module _ {X : Type 0} (g : Gauge X) (l : Laws g) where
  -- what up answers is at most a reading exactly when x is at most that reading taken down
  pub adjoint-at : (z x : X) (p : ℕ) → z ≡ g.up x p → AdjointAt g z x p
  adjoint-at z x p e y =
      subst (λ (u : X). ExactlyWhen (g.rank u ≤ g.rank y) (g.rank x ≤ g.rank (g.down y p))) (sym e) (l.adjoint x y p)

  -- what down answers is the greatest reading that the label takes up to y or below
  pub greatest-before : (z y : X) (p : ℕ) → z ≡ g.down y p → GreatestBefore g z y p
  greatest-before z y p e = subst (λ (x : X). GreatestBefore g x y p) (sym e) record {
    within = (l.adjoint (g.down y p) y p).1 (omega arith);
    greatest = λ x h. (l.adjoint x y p).0 h;
  }
