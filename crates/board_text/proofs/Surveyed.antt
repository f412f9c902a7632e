-- The positions of a text, surveyed line by line.
use Rattle.std.proofs.Common.{◌≡◌, ℕ, suc, ◌+◌, ◌-◌, ◌*◌, ◌<◌, ◌≤◌, List, ◌∷◌, ◌++◌, length, Ok, Err, Result, sym, refl, ap, ◌∙◌, subst, arith}
use Rattle.std.proofs.lemmas.List.{length-append}
use Rattle.std.specs.Result.{result_map_both}
use Rattle.board.specs.Spot.{Spot, all_moves}
use Rattle.board_text.specs.Passes.{tallied}
use Rattle.board_text.specs.Verdict.{Fault, and_then, next_line, spot_in, spots_in}
use Rattle.board_text.proofs.Framed.{goes_on, stops}

-- how many moves a line gives
abbrev pub moves_given : Result Spot Fault → Result ℕ Fault
moves_given r = result_map_both (λ s. length s.moves) (λ e. e) r

-- a line that gives its moves gives a position
pub spot_given : (r : Result Spot Fault) (m : ℕ) → Ok m ≡ moves_given r → (s : Spot) × (r ≡ Ok s) × (m ≡ length s.moves)
spot_given (Ok s) m e = (s, refl, cc)
spot_given (Err e') m e = cc

-- a line that is refused gives none
pub spot_refused : (r : Result Spot Fault) (f : Fault) → Err f ≡ moves_given r → r ≡ Err f
spot_refused (Ok s) f e = cc
spot_refused (Err e') f e = cc

-- a position in front adds its moves
tallied-more : (total : ℕ) (s : Spot) (r : Result (List Spot × List ℕ) Fault) → tallied total (and_then r (λ p. Ok (s ∷ p.0, p.1))) ≡ tallied (total + length s.moves) r
tallied-more total s (Ok p) =
    let long = length-append s.moves (all_moves p.0) in
    let e : total + length (s.moves ++ all_moves p.0) ≡ total + length s.moves + length (all_moves p.0) = omega arith in
    let f : ℕ → Result (ℕ × List ℕ) Fault = λ n. Ok (n, p.1) in
    ap f e
tallied-more total s (Err e) = refl

module _ (n k line total : ℕ) (t : List ℕ) where
  -- a line that is good leaves one position fewer
  pub tally-step : (l r : List ℕ) (m : ℕ) → next_line line t ≡ Ok (l, r) → Ok m ≡ moves_given (spot_in n line l) → tallied total (spots_in n (suc k) line t) ≡ tallied (total + m) (spots_in n k (line + 1) r)
  tally-step l r m h g =
      let s = spot_given (spot_in n line l) m g in
      let left = spots_in n k (line + 1) r in
      ap (tallied total) (goes_on (next_line line t) _ (l, r) h ∙ goes_on (spot_in n line l) _ s.0 s.1)
      ∙ tallied-more total s.0 left
      ∙ ap (λ (x : ℕ). tallied (total + x) left) (sym s.2)

  -- a line that gives no position ends it
  pub tally-no-spot : (l r : List ℕ) (f : Fault) → next_line line t ≡ Ok (l, r) → Err f ≡ moves_given (spot_in n line l) → tallied total (spots_in n (suc k) line t) ≡ Err f
  tally-no-spot l r f h g =
      ap (tallied total) (goes_on (next_line line t) _ (l, r) h ∙ stops (spot_in n line l) _ f (spot_refused (spot_in n line l) f g))

-- after i of n positions: what is left, tallied on, gives the whole
pub record Sofar (n i total taken : ℕ) (left : List ℕ) (whole : Result (ℕ × List ℕ) Fault) : Type 0 where
  pub rest : tallied total (spots_in n (n - i) (i + 2) left) ≡ whole
  pub line : taken ≡ i + 1
  pub few : total ≤ 16 * i

module _ {n i total taken : ℕ} {left : List ℕ} {whole : Result (ℕ × List ℕ) Fault} (lt : i < n) (so : Sofar n i total taken left whole) where
  -- one position is next, on the line after those taken
  at_next : tallied total (spots_in n (suc (n - (i + 1))) (taken + 1) left) ≡ whole
  at_next =
      let line = so.line in
      let one : suc (n - (i + 1)) ≡ n - i = omega arith in
      let two : taken + 1 ≡ i + 2 = omega arith in
      ap (λ (k : ℕ). tallied total (spots_in n k (taken + 1) left)) one ∙ ap (λ (k : ℕ). tallied total (spots_in n (n - i) k left)) two ∙ so.rest

  -- a good line leads one position on
  pub sofar-more : {l r : List ℕ} {number m after : ℕ} → next_line (taken + 1) left ≡ Ok (l, r) → number ≡ taken + 1 → Ok m ≡ moves_given (spot_in n number l) → m ≤ 16 → after ≡ taken + 1 → Sofar n (i + 1) (total + m) after r whole
  sofar-more {l} {r} {number} {m} {after} h is g small next =
      let given = subst (λ (k : ℕ). Ok m ≡ moves_given (spot_in n k l)) is g in
      let line = so.line in
      let few = so.few in
      let two : i + 1 + 2 ≡ taken + 1 + 1 = omega arith in
      record {
        rest = ap (λ (k : ℕ). tallied (total + m) (spots_in n (n - (i + 1)) k r)) two ∙ sym (tally-step n (n - (i + 1)) (taken + 1) total left l r m h given) ∙ at_next;
        line = omega arith;
        few = omega arith;
      }

  -- a line that gives no position is the fault of the whole
  pub sofar-no-spot : {l r : List ℕ} {number : ℕ} {f : Fault} → next_line (taken + 1) left ≡ Ok (l, r) → number ≡ taken + 1 → Err f ≡ moves_given (spot_in n number l) → whole ≡ Err f
  sofar-no-spot {l} {r} {number} {f} h is g =
      let given = subst (λ (k : ℕ). Err f ≡ moves_given (spot_in n k l)) is g in
      sym at_next ∙ tally-no-spot n (n - (i + 1)) (taken + 1) total left l r f h given
