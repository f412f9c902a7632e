-- Meters whose reading is a mark with a content: what a reading counts as, and how its steps make a meter.
use Rattle.std.specs.Prelude.{◌≡◌, ℕ, ◌+◌, Bool, cond, ◌&&◌, ◌==◌, nat_lt}
use Rattle.meter.specs.Gauge.{Gauge}
use Rattle.meter.specs.declared.reading.Reading.{Reading}
use Rattle.meter.specs.declared.seen.Seen.{Seen}
use Rattle.meter.specs.declared.seen.Seen.TheVariants.{None, Memory, Overflow}

-- by its mark: 1 is a memory where the content fits, 2 is overflow; everything else counts as none
abbrev pub by_mark : {C : Type 0} → ℕ → Bool → C → Seen C
by_mark mark fits c = cond (mark == 1 && fits) (Memory c) (cond (mark == 2) Overflow None)

-- what a reading counts as, by which contents fit
abbrev pub seen_where : {C : Type 0} → (C → Bool) → Reading C → Seen C
seen_where fits x = by_mark x.mark (fits x.content) x.content

-- how it is written: a memory has mark 1; none and overflow, marks 0 and 2, have the blank content
abbrev pub shown_over : {C : Type 0} → C → Seen C → Reading C
shown_over blank None = record { mark = 0; content = blank }
shown_over blank (Memory c) = record { mark = 1; content = c }
shown_over blank Overflow = record { mark = 2; content = blank }

-- the same, where a fact tells which contents are blank
abbrev pub IsShown : {C : Type 0} → (C → Type 0) → Seen C → Reading C → Type 0
IsShown IsBlank None x = (x.mark ≡ 0) × IsBlank x.content
IsShown IsBlank (Memory c) x = x ≡ record { mark = 1; content = c }
IsShown IsBlank Overflow x = (x.mark ≡ 2) × IsBlank x.content

-- a fact for each that a reading may count as
abbrev pub MatchSeen : {C : Type 0} → Seen C → Type 0 → (C → Type 0) → Type 0 → Type 0
MatchSeen None P Q R = P
MatchSeen (Memory c) P Q R = Q c
MatchSeen Overflow P Q R = R

-- readings X with contents C: what a reading counts as and how it is written, which contents fit, how many memories there are, the place of each among them from 0, and where a label up to 15 leads one
pub record Scale (X C : Type 0) : Type 0 where
  pub seen : X → Seen C
  pub shown : Seen C → X
  pub fits : C → Bool
  pub size : ℕ
  pub number : C → ℕ
  pub first : C
  pub last : C
  pub raise : C → ℕ → Seen C
  pub lower : C → ℕ → Seen C

-- none has rank 0, a memory one more than its place, overflow one more than all of them
abbrev pub rank_in : {C : Type 0} → ℕ → (C → ℕ) → Seen C → ℕ
rank_in size number None = 0
rank_in size number (Memory c) = number c + 1
rank_in size number Overflow = size + 1

-- none and overflow stay, a memory goes where the step leads it
abbrev pub stepped : {C : Type 0} → (C → ℕ → Seen C) → ℕ → Seen C → Seen C
stepped step p None = None
stepped step p (Memory c) = step c p
stepped step p Overflow = Overflow

-- the meter: a label up to 15 steps what the reading counts as, and one above 15 keeps the reading
abbrev pub gauge_of : {X C : Type 0} → Scale X C → Gauge X
gauge_of s = record {
  rank = λ x. rank_in s.size s.number (s.seen x);
  most = s.size;
  none = s.shown None;
  least = s.shown (Memory s.first);
  greatest = s.shown (Memory s.last);
  overflow = s.shown Overflow;
  up = λ x p. cond (nat_lt p 16) (s.shown (stepped s.raise p (s.seen x))) x;
  down = λ y p. cond (nat_lt p 16) (s.shown (stepped s.lower p (s.seen y))) y;
}
