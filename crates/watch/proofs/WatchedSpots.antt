-- What the watched board answers, in what the board below answers.
use Rattle.std.proofs.Common.{◌≡◌, ℕ, ◌+◌, ◌*◌, ◌/◌, ◌%◌, ◌<◌, ◌≤◌, List, map, length, get_or, sym, ap, ◌∙◌, subst, ⊎_elim, arith}
use Rattle.std.proofs.lemmas.Nat.{mul-add-lt, mul-le, div-mul-add, mod-mul-add, le-div}
use Rattle.std.proofs.lemmas.List.{get_or_past, get_or-map, length-map}
use Rattle.std.proofs.lemmas.Bool.{cases_lt}
use Rattle.board.specs.Spot.{Spot, blank, spot_at, side_of, label_of, moves_of, move_of}
use Rattle.board.specs.Fair.{Fair}
use Rattle.watch.specs.Watcher.{states_of, watch_label}
use Rattle.watch.specs.Watched.{Watches, states_on, next_on, watched_spot, watched_board}
use Rattle.watch.specs.WatchedFair.{states_some, positions_most, positions_many, next_known, watched_at}
use Rattle.watch.specs.declared.watcher.Watcher.{Watcher}

-- the number of positions in all states fits into sixteen bits
pub product_fits : (b : List Spot) (w : Watcher) → Fair b → length b * states_of w ≤ 8192
product_fits b w f = mul-le (length b) (states_of w) 512 16 f.most (omega arith)

-- a position that is not there, and the one below it
watched_past : (b : List Spot) (w : Watcher) (n : ℕ) → length b * states_on b w ≤ n → spot_at (watched_board b w) n ≡ blank
watched_past b w n past = let many = positions_many b w in get_or_past (watched_board b w) n blank (omega arith)

below-past : (b : List Spot) (w : Watcher) (n : ℕ) → length b * states_on b w ≤ n → spot_at b (n / states_on b w) ≡ blank
below-past b w n past = get_or_past b (n / states_on b w) blank (le-div (length b) n (states_on b w) (states_some b w) past)

pub side-shown : (b : List Spot) (w : Watcher) (n : ℕ) → side_of b (n / states_on b w) ≡ side_of (watched_board b w) n
side-shown b w n =
    ⊎_elim
    (λ lt. sym (ap (λ (s : Spot). s.side) (watched_at b w n lt)))
    (λ past. ap (λ (s : Spot). s.side) (below-past b w n past ∙ sym (watched_past b w n past)))
    (cases_lt n (length b * states_on b w))

pub label-shown : (b : List Spot) (w : Watcher) (n : ℕ) → n < length b * states_on b w → watch_label w (n % states_on b w) ≡ label_of (watched_board b w) n
label-shown b w n lt = sym (ap (λ (s : Spot). s.label) (watched_at b w n lt))

moves-shown : (b : List Spot) (w : Watcher) (n : ℕ) → (spot_at (watched_board b w) n).moves ≡ (watched_spot b w (n / states_on b w) (n % states_on b w)).moves
moves-shown b w n =
    ⊎_elim
    (λ lt. ap (λ (s : Spot). s.moves) (watched_at b w n lt))
    (λ past.
    ap (λ (s : Spot). s.moves) (watched_past b w n past)
    ∙ sym (ap (λ (s : Spot). map (λ m. m * states_on b w + next_on b w (n % states_on b w) (label_of b (n / states_on b w))) s.moves) (below-past b w n past)))
    (cases_lt n (length b * states_on b w))

pub as_many_moves : (b : List Spot) (w : Watcher) (n : ℕ) → moves_of b (n / states_on b w) ≡ moves_of (watched_board b w) n
as_many_moves b w n = sym (ap length (moves-shown b w n) ∙ length-map (spot_at b (n / states_on b w)).moves _)

pub move_shown : (b : List Spot) (w : Watcher) (n i : ℕ) → i < moves_of b (n / states_on b w) → move_of b (n / states_on b w) i * states_on b w + next_on b w (n % states_on b w) (label_of b (n / states_on b w)) ≡ move_of (watched_board b w) n i
move_shown b w n i lt =
    sym (ap (λ (ms : List ℕ). get_or ms i 0) (moves-shown b w n) ∙ get_or-map (λ m. m * states_on b w + next_on b w (n % states_on b w) (label_of b (n / states_on b w))) (spot_at b (n / states_on b w)).moves i 0 0 lt)

pub move_absent : (b : List Spot) (w : Watcher) (n i : ℕ) → moves_of b (n / states_on b w) ≤ i → 0 ≡ move_of (watched_board b w) n i
move_absent b w n i past = let many = as_many_moves b w n in sym (get_or_past (spot_at (watched_board b w) n).moves i 0 (omega arith))

-- the same in the numbers that the code has: s states, a move to m, label l, next state k
pub move_answered : (b : List Spot) (w : Watcher) (n i s m l k : ℕ) → s ≡ states_on b w → i < moves_of b (n / s) → m ≡ move_of b (n / s) i → l ≡ label_of b (n / s) → k ≡ next_on b w (n % s) l → m * s + k ≡ move_of (watched_board b w) n i
move_answered b w n i s m l k states there move label next =
    let shown = move_shown b w n i (subst (λ (t : ℕ). i < moves_of b (n / t)) states there) in
    cc

-- a move leads to a position of the board
move_within : (b : List Spot) → Fair b → (v i : ℕ) → i < moves_of b v → move_of b v i < length b
move_within b f v i lt =
    ⊎_elim
    (λ there. (f.each v there).within i lt)
    (λ past. let none = ap (λ (s : Spot). length s.moves) (get_or_past b v blank past) in absurd (omega arith))
    (cases_lt v (length b))

-- and on the watched board to one below 512
pub move_lands : (b : List Spot) (w : Watcher) → Fair b → (v i q p s m k : ℕ) → s ≡ states_on b w → i < moves_of b v → m ≡ move_of b v i → k ≡ next_on b w q p → m * s + k < 512
move_lands b w f v i q p s m k states there move next =
    let inside = mul-add-lt (move_of b v i) (states_on b w) (next_on b w q p) (length b) (move_within b f v i there) (next_known b w q p) in
    let most = positions_most b w f.most in
    let same : m * s ≡ move_of b v i * states_on b w = cc in
    omega arith

-- position v in state q stands where it should
pub watches : (b : List Spot) (w : Watcher) → Watches b w (watched_board b w)
watches b w = record {
  count = positions_many b w;
  each = λ v q inside there.
      let s = states_on b w in
      let p = mul-add-lt v s q (length b) inside there in
      let at = watched_at b w (v * s + q) (omega arith) in
      simp (div-mul-add v s q there, mod-mul-add v s q there) at at;
}
