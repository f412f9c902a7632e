-- The two slices, filled position by position.
use Rattle.std.proofs.Common.{◌≡◌, ℕ, suc, ◌+◌, ◌-◌, ◌*◌, ◌<◌, ◌≤◌, true, ◌&&◌, ltb, List, [], ◌∷◌, length, set, is_ok, Ok, Err, Result, MatchResult, sym, refl, ap, ◌∙◌, subst, arith}
use Rattle.std.specs.Result.{IsOk}
use Rattle.std.proofs.lemmas.List.{length-append}
use Rattle.board.specs.Rising.{rising}
use Rattle.board.specs.Spot.{Spot, all_moves}
use Rattle.board.specs.declared.records.Record.{Record}
use Rattle.board_text.specs.Put.{put}
use Rattle.board_text.specs.Passes.{after_opening, board_in}
use Rattle.board_text.specs.Reading.{record_of, records_of}
use Rattle.board_text.specs.Verdict.{Fault, is_spot_line, next_line, spot_written, spot_in, spots_in}
use Rattle.board_text.proofs.Fitted.{good_spots}
use Rattle.board_text.proofs.Framed.{went_on, passed}
use Rattle.board_text.proofs.Puts.{length-put, put-append}

-- after i of n positions: those left, with `m` moves before them, fill what is still to be filled
pub record Filling (n i m taken : ℕ) (t : List ℕ) (rs : List Record) (ms : List ℕ) (rs-end : List Record) (ms-end : List ℕ) : Type 0 where
  pub left : List Spot
  pub after : List ℕ
  pub spots : spots_in n (n - i) (i + 2) t ≡ Ok (left, after)
  pub records : put i (records_of m left) rs ≡ rs-end
  pub moves : put m (all_moves left) ms ≡ ms-end
  pub room : m + length (all_moves left) ≤ length ms
  pub line : taken ≡ i + 1
  pub few : m ≤ 16 * i

-- a line that gives a position has the form of one, and gives what it writes
spot_is_written : (n line : ℕ) (l : List ℕ) (s : Spot) → spot_in n line l ≡ Ok s → (is_spot_line l ≡ true) × (s ≡ spot_written l)
spot_is_written n line l s h =
    let formed = passed (is_spot_line l) _ _ s h in
    let w = spot_written l in
    let known = passed (ltb w.side 2 && ltb w.label 16) _ _ s formed.1 in
    let rises = passed (rising n 0 w.moves) _ _ s known.1 in
    (formed.0, cc rises.1)

module _ {n i m taken : ℕ} {t : List ℕ} {rs : List Record} {ms : List ℕ} {rs-end : List Record} {ms-end : List ℕ} (lt : i < n) (so : Filling n i m taken t rs ms rs-end ms-end) where
  at_next : spots_in n (suc (n - (i + 1))) (taken + 1) t ≡ Ok (so.left, so.after)
  at_next =
      let line = so.line in
      let one : suc (n - (i + 1)) ≡ n - i = omega arith in
      let two : taken + 1 ≡ i + 2 = omega arith in
      ap (λ (k : ℕ). spots_in n k (taken + 1) t) one ∙ ap (λ (k : ℕ). spots_in n (n - i) k t) two ∙ so.spots

  -- a line is there
  pub filling-has-line : {L : Type 0} (P : L → Type 0) (r : Result L Fault) → MatchResult r P (λ e. next_line (taken + 1) t ≡ Err e) → IsOk r
  filling-has-line P (Ok l) h = refl
  filling-has-line P (Err f) h =
      let first = went_on (next_line (taken + 1) t) _ (so.left, so.after) at_next in
      cc (h, first.1)

  module _ {l r : List ℕ} (taken-off : next_line (taken + 1) t ≡ Ok (l, r)) where
    -- and it gives the first of the positions left
    found-next : (is_spot_line l ≡ true) × (b : List Spot) × (so.left ≡ spot_written l ∷ b) × (spots_in n (n - (i + 1)) (taken + 1 + 1) r ≡ Ok (b, so.after))
    found-next =
        let first = went_on (next_line (taken + 1) t) _ (so.left, so.after) at_next in
        let same : first.0 ≡ (l, r) = cc (taken-off, first.1) in
        let second = went_on (spot_in n (taken + 1) first.0.0) _ (so.left, so.after) first.2 in
        let given : spot_in n (taken + 1) l ≡ Ok second.0 = subst (λ (q : List ℕ × List ℕ). spot_in n (taken + 1) q.0 ≡ Ok second.0) same second.1 in
        let spot = spot_is_written n (taken + 1) l second.0 given in
        let third = went_on (spots_in n (n - (i + 1)) (taken + 1 + 1) first.0.1) _ (so.left, so.after) second.2 in
        let b = third.0.0 in
        let parts : ◌≡◌ {A = List Spot × List ℕ} (second.0 ∷ b, third.0.1) (so.left, so.after) = cc third.2 in
        let heads : so.left ≡ second.0 ∷ b = sym (ap (λ (q : List Spot × List ℕ). q.0) parts) in
        let tails : third.0.1 ≡ so.after = ap (λ (q : List Spot × List ℕ). q.1) parts in
        let later : spots_in n (n - (i + 1)) (taken + 1 + 1) r ≡ Ok (b, third.0.1) = subst (λ (q : List ℕ × List ℕ). spots_in n (n - (i + 1)) (taken + 1 + 1) q.1 ≡ Ok third.0) same third.1 in (
          spot.0,
          b,
          heads ∙ ap (λ (s : Spot). s ∷ b) spot.1,
          later ∙ ap (λ (x : List ℕ). Ok (b, x)) tails,
        )

    pub filling-form : is_spot_line l ≡ true
    filling-form = found-next.0

    -- its moves have room
    pub filling-room : m + length (spot_written l).moves ≤ length ms
    filling-room =
        let room = so.room in
        let all = ap (λ (b : List Spot). length (all_moves b)) found-next.2 in
        let both = length-append (spot_written l).moves (all_moves found-next.1) in
        omega arith

    -- once it is filled in, one position fewer is left
    pub filling-more : {m' taken' : ℕ} {rs' : List Record} {ms' : List ℕ} {s : Spot} → s ≡ spot_written l → m' ≡ m + length s.moves → length s.moves ≤ 16 → taken' ≡ taken + 1 → rs' ≡ set rs i (record_of m s) → ms' ≡ put m s.moves ms → Filling n (i + 1) m' taken' r rs' ms' rs-end ms-end
    filling-more {m'} {taken'} {rs'} {ms'} {s} is size small line records moves =
        let b = found-next.1 in
        let left : so.left ≡ s ∷ b = found-next.2 ∙ ap (λ (x : Spot). x ∷ b) (sym is) in
        let before = so.line in
        let lines : taken + 1 + 1 ≡ i + 1 + 2 = omega arith in
        let few = so.few in
        let room = so.room in
        let all = ap (λ (x : List Spot). length (all_moves x)) left in
        let both = length-append s.moves (all_moves b) in
        let long = ap length moves ∙ length-put m s.moves ms in
        record {
          left = b;
          after = so.after;
          spots = sym (ap (λ (k : ℕ). spots_in n (n - (i + 1)) k r) lines) ∙ found-next.3;
          records = ap (put (i + 1) (records_of m' b)) records
              ∙ ap (λ (k : ℕ). put (i + 1) (records_of k b) (set rs i (record_of m s))) size
              ∙ sym (ap (λ (x : List Spot). put i (records_of m x) rs) left)
              ∙ so.records;
          moves = ap (put m' (all_moves b)) moves
              ∙ ap (λ (k : ℕ). put k (all_moves b) (put m s.moves ms)) size
              ∙ sym (put-append m s.moves (all_moves b) ms)
              ∙ sym (ap (λ (x : List Spot). put m (all_moves x) ms) left)
              ∙ so.moves;
          room = omega arith;
          line = omega arith;
          few = omega arith;
        }

-- the positions that were read
abbrev found : Result (List Spot × List ℕ) Fault → List Spot
found (Ok p) = p.0
found (Err e) = []

-- after the last position
pub filling_all : {n i m taken : ℕ} {t : List ℕ} {rs : List Record} {ms : List ℕ} {rs-end : List Record} {ms-end : List ℕ} → i ≡ n → Filling n i m taken t rs ms rs-end ms-end → (rs ≡ rs-end) × (ms ≡ ms-end)
filling_all {n} {i} {m} {taken} {t} {rs} {ms} end so =
    let none : n - i ≡ 0 = omega arith in
    let spots = sym (ap (λ (k : ℕ). spots_in n k (i + 2) t) none) ∙ so.spots in
    let left : [] ≡ so.left = ap found spots in (
      ap (λ (x : List Spot). put i (records_of m x) rs) left ∙ so.records,
      ap (λ (x : List Spot). put m (all_moves x) ms) left ∙ so.moves,
    )

-- before the first position
pub filling_none : (n taken : ℕ) (t : List ℕ) (rs : List Record) (ms : List ℕ) → is_ok (after_opening n t) ≡ true → length (all_moves (board_in (after_opening n t))) ≤ length ms → taken ≡ 1 → Filling n 0 0 taken t rs ms (put 0 (records_of 0 (board_in (after_opening n t))) rs) (put 0 (all_moves (board_in (after_opening n t))) ms)
filling_none n taken t rs ms good room first =
    let is = good_spots n t good in
    let whole : n - 0 ≡ n = omega arith in
    record {
      left = board_in (after_opening n t);
      after = is.0;
      spots = ap (λ (k : ℕ). spots_in n k 2 t) whole ∙ is.1;
      records = refl;
      moves = refl;
      room = omega arith;
      line = first;
      few = omega arith;
    }
