-- The tests on moves and on tables decide what they are meant to.
use Rattle.std.proofs.Common.{◌≡◌, ℕ, suc, ◌+◌, ◌<◌, ◌≤◌, true, ◌&&◌, eqb, ltb, leb, List, [], ◌∷◌, map, length, get_or, Decides, refl, subst, ⊎_elim, add-one, arith}
use Rattle.std.proofs.lemmas.List.{get_or-map, length-map}
use Rattle.std.proofs.lemmas.List.Elements.{All-from_get_or}
use Rattle.std.proofs.lemmas.List.Sums.{list_all-from_AllPass}
use Rattle.std.proofs.lemmas.Bool.{and_from, or_left, or_right, lt-ltb, le-leb, eq-eqb, cases_lt}
use Rattle.board.specs.Spot.{Spot, blank}
use Rattle.board.specs.Fair.{FairSpot}
use Rattle.board.specs.Fairness.{tested_at, sound_parts, shown-fair, as_many}
use Rattle.board.specs.Rising.{rising}
use Rattle.board.specs.Table.{Sound, blank_record, spot_of, sound_record, sound_table}
use Rattle.board.specs.declared.records.Record.{Record}

-- a list that stays below n and ascends passes the test
pub rising-from : (n low : ℕ) (ms : List ℕ) → (0 < length ms → low ≤ get_or ms 0 0) → ((i : ℕ) → i < length ms → get_or ms i 0 < n) → ((i : ℕ) → i + 1 < length ms → get_or ms i 0 < get_or ms (i + 1) 0) → rising n low ms ≡ true
rising-from n low [] first within up = refl
rising-from n low (m ∷ ms) first within up =
    and_from (leb low m) (ltb m n && rising n (m + 1) ms) (le-leb low m (first (omega arith)))
    (and_from (ltb m n) (rising n (m + 1) ms) (lt-ltb m n (within 0 (omega arith)))
    (rising-from n (m + 1) ms
    (λ some. let next = up 0 (omega arith) in omega arith)
    (λ i lt. within (suc i) (omega arith))
    (λ i lt. rw add-one (rw add-one at (up (suc i) (omega arith))))))

-- a fair position's moves pass it
pub fair-rises : (n : ℕ) (s : Spot) → FairSpot n s → rising n 0 s.moves ≡ true
fair-rises n s f = rising-from n 0 s.moves (λ _. omega arith) f.within f.ascending

record_passes : (n : ℕ) (ms : List ℕ) (r : Record) → FairSpot n (spot_of ms r) → (0 < r.count → r.first + r.count ≤ length ms) → sound_record n ms r ≡ true
record_passes n ms r f inside =
    let many = as_many ms r inside in
    let few = f.few in
    and_from _ _ (lt-ltb r.side 2 f.side_known)
    (and_from _ _ (lt-ltb r.label 16 f.label_known)
    (and_from _ _ (le-leb r.count 16 (omega arith))
    (and_from _ _
    (⊎_elim
    (λ (some : 0 < r.count). or_right (eqb r.count 0) (leb (r.first + r.count) (length ms)) (le-leb (r.first + r.count) (length ms) (inside some)))
    (λ (none : r.count ≤ 0). or_left (eqb r.count 0) (leb (r.first + r.count) (length ms)) (eq-eqb r.count 0 (omega arith)))
    (cases_lt 0 r.count))
    (fair-rises n (spot_of ms r) f))))

sound_passes : (rs : List Record) (ms : List ℕ) → Sound rs ms → sound_table rs ms ≡ true
sound_passes rs ms s =
    let long : length (map (spot_of ms) rs) ≡ length rs = length-map rs (spot_of ms) in
    let some = s.fair.some in
    let most = s.fair.most in
    and_from (leb 1 (length rs)) _ (le-leb 1 (length rs) (omega arith))
    (and_from (leb (length rs) 512) _ (le-leb (length rs) 512 (omega arith))
    (list_all-from_AllPass (sound_record (length rs) ms) rs (All-from_get_or (λ r. sound_record (length rs) ms r ≡ true) rs blank_record (λ v lt.
    record_passes (length rs) ms (get_or rs v blank_record)
    (subst (λ (n : ℕ). FairSpot n (spot_of ms (get_or rs v blank_record))) long
    (subst (FairSpot (length (map (spot_of ms) rs))) (get_or-map (spot_of ms) rs v blank_record blank lt) (s.fair.each v (omega arith))))
    (s.inside v lt)))))

-- the test on a table decides whether it is sound
pub decides_sound : (rs : List Record) (ms : List ℕ) → Decides (sound_table rs ms) (Sound rs ms)
decides_sound rs ms = (
  λ h. record {
    fair = shown-fair rs ms h;
    inside = λ v lt. (tested_at (length rs) ms rs (sound_parts rs ms h).2 v lt).inside;
  },
  sound_passes rs ms,
)
