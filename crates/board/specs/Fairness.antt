-- Why the table board is fair: the witness that its `impl` gives. Nothing here has to be read to
-- understand a contract.
use Rattle.std.specs.Prelude.{◌≡◌, ℕ, zero, suc, ◌+◌, ◌<◌, ◌≤◌, true, ◌&&◌, ◌||◌, List, [], ◌∷◌, map, length, ◌==◌, nat_le, nat_lt, slice_index, slice_index_or}
use Rattle.std.proofs.Common.{add-one, arith, lit<, lit≤, length-take, length-drop, ⊎_elim}
use Rattle.std.proofs.lemmas.Bool.{and_parts, or_cases, leb-true, ltb-true, eqb-true, cases_Bool, cases_lt, cond-true, cond-false}
use Rattle.std.proofs.lemmas.List.{get_or-map, length-map}
use Rattle.std.proofs.lemmas.List.Sums.{AllPass-from_list_all}
use Rattle.board.specs.Spot.{blank}
use Rattle.board.specs.Fair.{Fair, FairSpot}
use Rattle.board.specs.Rising.{rising}
use Rattle.board.specs.Table.{blank_record, bare_record, spot_of, sound_record, sound_records, sound_table, board_of}
use Rattle.board.specs.declared.records.Record.{Record}

rising-head : (n low m : ℕ) (ms : List ℕ) → rising n low (m ∷ ms) ≡ true → (low ≤ m) × (m < n) × (rising n (m + 1) ms ≡ true)
rising-head n low m ms h =
    let p = and_parts (nat_le low m) (nat_lt m n && rising n (m + 1) ms) h in
    let q = and_parts (nat_lt m n) (rising n (m + 1) ms) p.1 in
    (leb-true low m p.0, ltb-true m n q.0, q.1)

-- each move of a rising list lies between the bounds
pub rising-within : (n low : ℕ) (ms : List ℕ) → rising n low ms ≡ true → (i : ℕ) → i < length ms → (low ≤ slice_index ms i) × (slice_index ms i < n)
rising-within n low [] h i lt = absurd (omega arith)
rising-within n low (m ∷ ms) h zero lt = let p = rising-head n low m ms h in (p.0, p.1)
rising-within n low (m ∷ ms) h (suc i) lt =
    let p = rising-head n low m ms h in
    let q = rising-within n (m + 1) ms p.2 i (omega arith) in
    (omega arith, q.1)

-- and each is below the next
pub rising-ascends : (n low : ℕ) (ms : List ℕ) → rising n low ms ≡ true → (i : ℕ) → i + 1 < length ms → slice_index ms i < slice_index ms (i + 1)
rising-ascends n low [] h i lt = absurd (omega arith)
rising-ascends n low (m ∷ ms) h zero lt =
    let p = rising-head n low m ms h in
    let q = rising-within n (m + 1) ms p.2 0 (omega arith) in
    omega arith
rising-ascends n low (m ∷ ms) h (suc i) lt =
    let p = rising-head n low m ms h in
    rw add-one (rw add-one at (rising-ascends n (m + 1) ms p.2 i (omega arith)))

-- what the test on a record says
pub record Tested (n : ℕ) (ms : List ℕ) (r : Record) : Type 0 where
  pub side_known : r.side < 2
  pub label_known : r.label < 16
  pub few : r.count ≤ 16
  pub inside : 0 < r.count → r.first + r.count ≤ length ms
  pub rises : rising n 0 (spot_of ms r).moves ≡ true

inside-from : (a b c : ℕ) → (a == 0 || nat_le b c) ≡ true → 0 < a → b ≤ c
inside-from a b c h lt =
    ⊎_elim (λ e. let z = eqb-true a 0 e in absurd (omega arith)) (λ e. leb-true b c e) (or_cases (a == 0) (nat_le b c) h)

pub tested : (n : ℕ) (ms : List ℕ) (r : Record) → sound_record n ms r ≡ true → Tested n ms r
tested n ms r h =
    let p = and_parts _ _ h in
    let q = and_parts _ _ p.1 in
    let s = and_parts _ _ q.1 in
    let t = and_parts _ _ s.1 in
    record {
      side_known = ltb-true r.side 2 p.0;
      label_known = ltb-true r.label 16 q.0;
      few = leb-true r.count 16 s.0;
      inside = inside-from r.count (r.first + r.count) (length ms) t.0;
      rises = t.1;
    }

-- a record of a sound table shows as many moves as it says
pub as_many : (ms : List ℕ) (r : Record) → (0 < r.count → r.first + r.count ≤ length ms) → length (spot_of ms r).moves ≡ r.count
as_many ms r h =
    ⊎_elim
    (λ (e : 0 < r.count). let i = h e in simp (length-take, length-drop) (omega arith))
    (λ (e : r.count ≤ 0). simp (length-take, length-drop) (omega arith))
    (cases_lt 0 r.count)

fair-spot : (n : ℕ) (ms : List ℕ) (r : Record) → Tested n ms r → FairSpot n (spot_of ms r)
fair-spot n ms r t = record {
  side_known = t.side_known;
  label_known = t.label_known;
  few = let e = as_many ms r t.inside in let f = t.few in omega arith;
  within = λ i lt. (rising-within n 0 (spot_of ms r).moves t.rises i lt).1;
  ascending = rising-ascends n 0 (spot_of ms r).moves t.rises;
}

-- each record of a tested list is tested
pub tested_at : (n : ℕ) (ms : List ℕ) (rs : List Record) → sound_records n ms rs ≡ true → (v : ℕ) → v < length rs → Tested n ms (slice_index_or rs v blank_record)
tested_at n ms rs h v lt = tested n ms (slice_index_or rs v blank_record) (AllPass-from_list_all (sound_record n ms) rs h v blank_record lt)

-- the parts of the test on a table
pub sound_parts : (rs : List Record) (ms : List ℕ) → sound_table rs ms ≡ true → (1 ≤ length rs) × (length rs ≤ 512) × (sound_records (length rs) ms rs ≡ true)
sound_parts rs ms h =
    let p = and_parts _ _ h in
    let q = and_parts _ _ p.1 in
    (leb-true 1 (length rs) p.0, leb-true (length rs) 512 q.0, q.1)

pub shown-fair : (rs : List Record) (ms : List ℕ) → sound_table rs ms ≡ true → Fair (map (spot_of ms) rs)
shown-fair rs ms h =
    let p = sound_parts rs ms h in
    record {
      some = rw length-map p.0;
      most = rw length-map p.1;
      each = λ v lt.
          let below : v < length rs = rw length-map at lt in
          rw (length-map, get_or-map (spot_of ms) rs v blank_record blank below)
          (fair-spot (length rs) ms (slice_index_or rs v blank_record) (tested_at (length rs) ms rs p.2 v below));
    }

bare_fair : (ms : List ℕ) → Fair (map (spot_of ms) (bare_record ∷ []))
bare_fair ms = record {
  some = lit≤ tt;
  most = lit≤ tt;
  each = elim [
    | zero ↦ λ lt. record { side_known = lit< tt; label_known = lit< tt; few = lit≤ tt; within = λ i l. absurd (omega arith); ascending = λ i l. absurd (omega arith) }
    | suc v ↦ λ lt. absurd (omega arith)
  ];
}

-- whatever the slices hold, the board that they mean is fair
pub board_of-fair : (rs : List Record) (ms : List ℕ) → Fair (board_of rs ms)
board_of-fair rs ms =
    ⊎_elim
    (λ h. rw (cond-true (sound_table rs ms) rs (bare_record ∷ []) h) (shown-fair rs ms h))
    (λ h. rw (cond-false (sound_table rs ms) rs (bare_record ∷ []) h) (bare_fair ms))
    (cases_Bool (sound_table rs ms))
