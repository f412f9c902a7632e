-- Nothing here has to be believed, nor read to understand a contract: why the watched board is fair,
-- the witness that its `impl` gives.
use Rattle.std.specs.Prelude.{◌≡◌, ℕ, ◌+◌, ◌-◌, ◌*◌, ◌/◌, ◌%◌, ◌<◌, ◌≤◌, min, true, false, cond, ◌&&◌, List, length, nat_lt, slice_index, slice_index_or}
use Rattle.std.proofs.Common.{arith}
use Rattle.std.proofs.lemmas.Nat.{mul-add-lt, mul-le, div_below}
use Rattle.std.proofs.lemmas.List.FromFn.{length-map-range_with_len, get_or-map-range_with_len}
use Rattle.std.proofs.lemmas.List.{get_or-map, length-map}
use Rattle.std.proofs.lemmas.Bool.{leb-true, cond_both}
use Rattle.board.specs.Spot.{Spot, blank, spot_at, label_of}
use Rattle.board.specs.Fair.{Fair, FairSpot}
use Rattle.watch.specs.Watcher.{blank_state, states_of, watch_label, watch_next}
use Rattle.watch.specs.Watched.{small_enough, states_on, next_on, watched_spot, watched_board}
use Rattle.watch.specs.declared.watcher.Watcher.{Watcher}

-- at least one state counts, and at most sixteen
pub states_some : (b : List Spot) (w : Watcher) → 1 ≤ states_on b w
states_some b w = cond_both (small_enough b w) (states_of w) 1 (λ s. 1 ≤ s) (λ _. omega arith) (λ _. omega arith)

pub states_few : (b : List Spot) (w : Watcher) → states_on b w ≤ 16
states_few b w = cond_both (small_enough b w) (states_of w) 1 (λ s. s ≤ 16) (λ _. omega arith) (λ _. omega arith)

-- the positions are never too many
pub positions_most : (b : List Spot) (w : Watcher) → length b ≤ 512 → length b * states_on b w ≤ 512
positions_most b w most =
    cond_both (small_enough b w) (states_of w) 1 (λ s. length b * s ≤ 512) (λ h. leb-true (length b * states_of w) 512 h) (λ _. omega arith)

label_known : (w : Watcher) (q : ℕ) → watch_label w q < 16
label_known w q = cond_both (nat_lt q (states_of w)) _ 0 (λ n. n < 16) (λ _. omega arith) (λ _. omega arith)

next_below : (w : Watcher) (q p : ℕ) → watch_next w q p < states_of w
next_below w q p =
    cond_both (nat_lt q (states_of w) && nat_lt p 16) (min (slice_index (slice_index_or w.table q blank_state).next p) (states_of w - 1)) 0 (λ n. n < states_of w) (λ _. omega arith) (λ _. omega arith)

-- the next state is one of those that count
pub next_known : (b : List Spot) (w : Watcher) (q p : ℕ) → next_on b w q p < states_on b w
next_known b w q p =
    elim (small_enough b w) as (λ t. cond t (watch_next w q p) 0 < cond t (states_of w) 1) [ true ↦ next_below w q p | false ↦ omega arith ]

pub positions_many : (b : List Spot) (w : Watcher) → length (watched_board b w) ≡ length b * states_on b w
positions_many b w = length-map-range_with_len _ 0 (length b * states_on b w)

-- where a move leads
leads : (b : List Spot) (w : Watcher) (v q i : ℕ) → i < length (spot_at b v).moves → slice_index (watched_spot b w v q).moves i ≡ slice_index (spot_at b v).moves i * states_on b w + next_on b w q (label_of b v)
leads b w v q i lt = get_or-map (λ m. m * states_on b w + next_on b w q (label_of b v)) (spot_at b v).moves i 0 0 lt

-- a move to a later position of the board below leads further
further : (s k m n : ℕ) → 1 ≤ s → m < n → m * s + k < n * s + k
further s k m n some lt = let p = mul-add-lt m s 0 n lt some in omega arith

spot_fair : (b : List Spot) (w : Watcher) (v q : ℕ) → FairSpot (length b) (spot_at b v) → FairSpot (length b * states_on b w) (watched_spot b w v q)
spot_fair b w v q f =
    let s = states_on b w in
    let k = next_on b w q (label_of b v) in
    let many : length (watched_spot b w v q).moves ≡ length (spot_at b v).moves = length-map (spot_at b v).moves _ in
    record {
      side_known = f.side_known;
      label_known = label_known w q;
      few = let few = f.few in omega arith;
      within = λ i lt.
          let there : i < length (spot_at b v).moves = omega arith in
          rw (leads b w v q i there) (let p = mul-add-lt (slice_index (spot_at b v).moves i) s k (length b) (f.within i there) (next_known b w q (label_of b v)) in omega arith);
      ascending = λ i lt.
          let there : i + 1 < length (spot_at b v).moves = omega arith in
          rw (leads b w v q i (omega arith), leads b w v q (i + 1) there) (further s k _ _ (states_some b w) (f.ascending i there));
    }

-- position n of the watched board
pub watched_at : (b : List Spot) (w : Watcher) (n : ℕ) → n < length b * states_on b w → spot_at (watched_board b w) n ≡ watched_spot b w (n / states_on b w) (n % states_on b w)
watched_at b w n lt = get_or-map-range_with_len _ 0 (length b * states_on b w) n n blank lt (omega arith)

-- whatever numbers stand in the watcher, the board under it is fair
pub watched_fair : (b : List Spot) (w : Watcher) → Fair b → Fair (watched_board b w)
watched_fair b w f =
    let many = positions_many b w in
    record {
      some = let p = mul-le 1 1 (length b) (states_on b w) f.some (states_some b w) in omega arith;
      most = let p = positions_most b w f.most in omega arith;
      each = λ v lt.
          let below : v < length b * states_on b w = omega arith in
          rw (many, watched_at b w v below)
          (spot_fair b w (v / states_on b w) (v % states_on b w) (f.each (v / states_on b w) (div_below v (states_on b w) (length b) (states_some b w) below)));
    }
