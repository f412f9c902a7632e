-- What a meter means: readings, which are told apart by their rank, and how a label takes one up or down.
use Rattle.std.specs.Prelude.{◌≡◌, ℕ, ◌+◌, ◌^◌, ◌≤◌}

-- a meter (the domain of a progress measure) over readings X; `most` is the rank of the greatest memory
pub record Gauge (X : Type 0) : Type 0 where
  pub rank : X → ℕ
  pub most : ℕ
  pub none : X
  pub least : X
  pub greatest : X
  pub overflow : X
  pub up : X → ℕ → X
  pub down : X → ℕ → X

-- a reading is a memory (a measure below top) if it is neither none nor overflow
abbrev pub Memory : {X : Type 0} → Gauge X → X → Type 0
Memory g x = (1 ≤ g.rank x) × (g.rank x ≤ g.most)

-- each of two statements gives the other
abbrev pub ExactlyWhen : Type 0 → Type 0 → Type 0
ExactlyWhen P Q = (P → Q) × (Q → P)

-- what every meter keeps to: ranks run from none, 0, over the memories, 1 to `most`, to overflow; on the way up none and
-- overflow stay what they are and a memory does not become none; down is the adjoint of up; labels above 15 change nothing
pub record Laws {X : Type 0} (g : Gauge X) : Type 0 where
  pub some : 1 ≤ g.most
  pub few : g.most ≤ 2 ^ 49
  pub bounded : (x : X) → g.rank x ≤ g.most + 1
  pub none_rank : g.rank g.none ≡ 0
  pub least_rank : g.rank g.least ≡ 1
  pub greatest_rank : g.rank g.greatest ≡ g.most
  pub overflow_rank : g.rank g.overflow ≡ g.most + 1
  pub up_none : (x : X) (p : ℕ) → g.rank x ≡ 0 → g.rank (g.up x p) ≡ 0
  pub up_overflow : (x : X) (p : ℕ) → g.rank x ≡ g.most + 1 → g.rank (g.up x p) ≡ g.most + 1
  pub up_some : (x : X) (p : ℕ) → 1 ≤ g.rank x → 1 ≤ g.rank (g.up x p)
  pub adjoint : (x y : X) (p : ℕ) → ExactlyWhen (g.rank (g.up x p) ≤ g.rank y) (g.rank x ≤ g.rank (g.down y p))
  pub up_kept : (x : X) (p : ℕ) → 16 ≤ p → g.up x p ≡ x
  pub down_kept : (y : X) (p : ℕ) → 16 ≤ p → g.down y p ≡ y

-- z, which x is taken up to by the label p, is at most a reading exactly when x is at most what p takes that reading down to
abbrev pub AdjointAt : {X : Type 0} → Gauge X → X → X → ℕ → Type 0
AdjointAt g z x p = (y : _) → ExactlyWhen (g.rank z ≤ g.rank y) (g.rank x ≤ g.rank (g.down y p))

-- z is the greatest reading that a label p takes up to y or below
pub record GreatestBefore {X : Type 0} (g : Gauge X) (z y : X) (p : ℕ) : Type 0 where
  pub within : g.rank (g.up z p) ≤ g.rank y
  pub greatest : (x : X) → g.rank (g.up x p) ≤ g.rank y → g.rank x ≤ g.rank z
