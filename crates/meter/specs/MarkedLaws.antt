-- Why a meter over a mark with a content keeps the laws, from what its steps do to a memory. Nothing here has to
-- be read to understand a contract.
use Rattle.std.specs.Prelude.{◌≡◌, ℕ, ◌+◌, ◌^◌, ◌<◌, ◌≤◌, Bool, true, false, cond, ◌&&◌, ◌==◌, nat_lt}
use Rattle.std.proofs.Math.Path.{refl, subst}
use Rattle.std.proofs.Common.{sym, ap, ◌∙◌}
use Rattle.std.proofs.Math.Logic.{⊎_elim}
use native.Mathlib.Omega.{arith}
use Rattle.std.proofs.lemmas.Bool.{cases_lt, cond-true, cond-false, lt-ltb, le-ltb}
use Rattle.meter.specs.Gauge.{Laws, ExactlyWhen}
use Rattle.meter.specs.Marked.{seen_where, shown_over, Scale, rank_in, stepped, gauge_of}
use Rattle.meter.specs.declared.reading.Reading.{Reading}
use Rattle.meter.specs.declared.seen.Seen.{Seen}
use Rattle.meter.specs.declared.seen.Seen.TheVariants.{None, Memory, Overflow}

-- the content of a memory fits
abbrev pub Well : {C : Type 0} → (C → Bool) → Seen C → Type 0
Well fits None = Unit {0}
Well fits (Memory c) = fits c ≡ true
Well fits Overflow = Unit {0}

-- what a reading counts as is well
pub seen-well : {C : Type 0} (fits : C → Bool) (x : Reading C) → Well fits (seen_where fits x)
seen-well fits x = go (x.mark == 1) (x.mark == 2) (fits x.content) refl
  where
    go : (one two b : Bool) → fits x.content ≡ b → Well fits (cond (one && b) (Memory x.content) (cond two Overflow None))
    go true two true e = e
    go true true false e = tt
    go true false false e = tt
    go false true b e = tt
    go false false b e = tt

-- none, a memory and overflow are read as they are written
pub seen-shown : {C : Type 0} (fits : C → Bool) (blank : C) (t : Seen C) → Well fits t → seen_where fits (shown_over blank t) ≡ t
seen-shown fits blank None w = refl
seen-shown fits blank (Memory c) w = rw w refl
seen-shown fits blank Overflow w = refl

-- what is to be known of a scale
pub record Lawful {X C : Type 0} (s : Scale X C) : Type 0 where
  pub some : 1 ≤ s.size
  pub few : s.size ≤ 2 ^ 49
  pub seen_well : (x : X) → Well s.fits (s.seen x)
  pub seen_shown : (t : Seen C) → Well s.fits t → s.seen (s.shown t) ≡ t
  pub below : (c : C) → s.fits c ≡ true → s.number c < s.size
  pub first_fits : s.fits s.first ≡ true
  pub first_number : s.number s.first ≡ 0
  pub last_fits : s.fits s.last ≡ true
  pub last_number : s.number s.last + 1 ≡ s.size
  pub raised : (c : C) (p : ℕ) → p < 16 → s.fits c ≡ true → Well s.fits (s.raise c p) × (1 ≤ rank_in s.size s.number (s.raise c p))
  pub lowered : (c : C) (p : ℕ) → p < 16 → s.fits c ≡ true → Well s.fits (s.lower c p) × (rank_in s.size s.number (s.lower c p) ≤ s.size)
  pub adjoint : (c d : C) (p : ℕ) → p < 16 → s.fits c ≡ true → s.fits d ≡ true → ExactlyWhen (rank_in s.size s.number (s.raise c p) ≤ s.number d + 1) (s.number c + 1 ≤ rank_in s.size s.number (s.lower d p))

module _ {X C : Type 0} (s : Scale X C) (l : Lawful s) where
  rank : Seen C → ℕ
  rank = rank_in s.size s.number

  rank_most : (t : Seen C) → Well s.fits t → rank t ≤ s.size + 1
  unfolding rank
  rank_most None w = omega arith
  rank_most (Memory c) w = omega (arith, l.below c w)
  rank_most Overflow w = omega arith

  up-well : (t : Seen C) (p : ℕ) → p < 16 → Well s.fits t → Well s.fits (stepped s.raise p t)
  up-well None p lt w = tt
  up-well (Memory c) p lt w = (l.raised c p lt w).0
  up-well Overflow p lt w = tt

  down-well : (t : Seen C) (p : ℕ) → p < 16 → Well s.fits t → Well s.fits (stepped s.lower p t)
  down-well None p lt w = tt
  down-well (Memory c) p lt w = (l.lowered c p lt w).0
  down-well Overflow p lt w = tt

  shown-rank : (t : Seen C) → Well s.fits t → rank (s.seen (s.shown t)) ≡ rank t
  shown-rank t w = ap rank (l.seen_shown t w)

  -- the ranks of the steps
  up-rank : (x : X) (p : ℕ) → p < 16 → rank (s.seen ((gauge_of s).up x p)) ≡ rank (stepped s.raise p (s.seen x))
  up-rank x p lt =
      ap (λ (y : X). rank (s.seen y)) (cond-true (nat_lt p 16) _ x (lt-ltb p 16 lt))
      ∙ shown-rank (stepped s.raise p (s.seen x)) (up-well (s.seen x) p lt (l.seen_well x))

  down-rank : (y : X) (p : ℕ) → p < 16 → rank (s.seen ((gauge_of s).down y p)) ≡ rank (stepped s.lower p (s.seen y))
  down-rank y p lt =
      ap (λ (x : X). rank (s.seen x)) (cond-true (nat_lt p 16) _ y (lt-ltb p 16 lt))
      ∙ shown-rank (stepped s.lower p (s.seen y)) (down-well (s.seen y) p lt (l.seen_well y))

  up-past : (x : X) (p : ℕ) → 16 ≤ p → (gauge_of s).up x p ≡ x
  up-past x p ge = cond-false (nat_lt p 16) _ x (le-ltb p 16 ge)

  down-past : (y : X) (p : ℕ) → 16 ≤ p → (gauge_of s).down y p ≡ y
  down-past y p ge = cond-false (nat_lt p 16) _ y (le-ltb p 16 ge)

  -- the laws over what readings count as
  none_stays : (t : Seen C) (p : ℕ) → Well s.fits t → rank t ≡ 0 → rank (stepped s.raise p t) ≡ 0
  unfolding rank
  none_stays None p w e = refl
  none_stays (Memory c) p w e = absurd (omega arith)
  none_stays Overflow p w e = absurd (omega arith)

  overflow-stays : (t : Seen C) (p : ℕ) → Well s.fits t → rank t ≡ s.size + 1 → rank (stepped s.raise p t) ≡ s.size + 1
  unfolding rank
  overflow-stays None p w e = absurd (omega arith)
  overflow-stays (Memory c) p w e = absurd (omega (arith, l.below c w))
  overflow-stays Overflow p w e = refl

  some-stays : (t : Seen C) (p : ℕ) → p < 16 → Well s.fits t → 1 ≤ rank t → 1 ≤ rank (stepped s.raise p t)
  unfolding rank
  some-stays None p lt w h = h
  some-stays (Memory c) p lt w h = (l.raised c p lt w).1
  some-stays Overflow p lt w h = h

  adjoint-in : (t u : Seen C) (p : ℕ) → p < 16 → Well s.fits t → Well s.fits u → ExactlyWhen (rank (stepped s.raise p t) ≤ rank u) (rank t ≤ rank (stepped s.lower p u))
  unfolding rank
  adjoint-in None u p lt w v = (λ _. omega arith, λ _. omega arith)
  adjoint-in (Memory c) None p lt w v = (λ h. let k = (l.raised c p lt w).1 in absurd (omega arith), λ h. absurd (omega arith))
  adjoint-in (Memory c) (Memory d) p lt w v = l.adjoint c d p lt w v
  adjoint-in (Memory c) Overflow p lt w v =
      (λ h. omega (arith, l.below c w), λ h. rank_most (s.raise c p) (l.raised c p lt w).0)
  adjoint-in Overflow None p lt w v = (λ h. absurd (omega arith), λ h. absurd (omega arith))
  adjoint-in Overflow (Memory d) p lt w v =
      (λ h. absurd (omega (arith, l.below d v)), λ h. let k = (l.lowered d p lt v).1 in absurd (omega arith))
  adjoint-in Overflow Overflow p lt w v = (λ h. h, λ h. h)

  adjoint-at : (x y : X) (p : ℕ) → p < 16 → ExactlyWhen (rank (s.seen ((gauge_of s).up x p)) ≤ rank (s.seen y)) (rank (s.seen x) ≤ rank (s.seen ((gauge_of s).down y p)))
  adjoint-at x y p lt =
      let a = adjoint-in (s.seen x) (s.seen y) p lt (l.seen_well x) (l.seen_well y) in (
        λ h. subst (λ (n : ℕ). rank (s.seen x) ≤ n) (sym (down-rank y p lt)) (a.0 (subst (λ (n : ℕ). n ≤ rank (s.seen y)) (up-rank x p lt) h)),
        λ h. subst (λ (n : ℕ). n ≤ rank (s.seen y)) (sym (up-rank x p lt)) (a.1 (subst (λ (n : ℕ). rank (s.seen x) ≤ n) (down-rank y p lt) h)),
      )

  adjoint-past : (x y : X) (p : ℕ) → 16 ≤ p → ExactlyWhen (rank (s.seen ((gauge_of s).up x p)) ≤ rank (s.seen y)) (rank (s.seen x) ≤ rank (s.seen ((gauge_of s).down y p)))
  adjoint-past x y p ge = (
    λ h. subst (λ (z : X). rank (s.seen x) ≤ rank (s.seen z)) (sym (down-past y p ge)) (subst (λ (z : X). rank (s.seen z) ≤ rank (s.seen y)) (up-past x p ge) h),
    λ h. subst (λ (z : X). rank (s.seen z) ≤ rank (s.seen y)) (sym (up-past x p ge)) (subst (λ (z : X). rank (s.seen x) ≤ rank (s.seen z)) (down-past y p ge) h),
  )

  up-kept-rank : (x : X) (p : ℕ) → 16 ≤ p → rank (s.seen ((gauge_of s).up x p)) ≡ rank (s.seen x)
  up-kept-rank x p ge = ap (λ (z : X). rank (s.seen z)) (up-past x p ge)

  -- so the meter keeps the laws
  pub marked-laws : Laws (gauge_of s)
  unfolding rank
  marked-laws = record {
    some = l.some;
    few = l.few;
    bounded = λ x. rank_most (s.seen x) (l.seen_well x);
    none_rank = shown-rank None tt;
    least_rank = shown-rank (Memory s.first) l.first_fits ∙ omega (arith, l.first_number);
    greatest_rank = shown-rank (Memory s.last) l.last_fits ∙ l.last_number;
    overflow_rank = shown-rank Overflow tt;
    up_none = λ x p e. ⊎_elim
        (λ (lt : p < 16). up-rank x p lt ∙ none_stays (s.seen x) p (l.seen_well x) e)
        (λ (ge : 16 ≤ p). up-kept-rank x p ge ∙ e)
        (cases_lt p 16);
    up_overflow = λ x p e. ⊎_elim
        (λ (lt : p < 16). up-rank x p lt ∙ overflow-stays (s.seen x) p (l.seen_well x) e)
        (λ (ge : 16 ≤ p). up-kept-rank x p ge ∙ e)
        (cases_lt p 16);
    up_some = λ x p h. ⊎_elim
        (λ (lt : p < 16). subst (λ (n : ℕ). 1 ≤ n) (sym (up-rank x p lt)) (some-stays (s.seen x) p lt (l.seen_well x) h))
        (λ (ge : 16 ≤ p). subst (λ (n : ℕ). 1 ≤ n) (sym (up-kept-rank x p ge)) h)
        (cases_lt p 16);
    adjoint = λ x y p. ⊎_elim (adjoint-at x y p) (adjoint-past x y p) (cases_lt p 16);
    up_kept = up-past;
    down_kept = down-past;
  }
