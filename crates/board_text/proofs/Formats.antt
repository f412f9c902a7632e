-- Reading into slices that every board fits into.
use Rattle.std.proofs.Common.{◌≡◌, ℕ, ◌≤◌, List, length, take, Ok, Err, Result, sym, refl, ap, ◌∙◌, subst, arith}
use Rattle.board.specs.Spot.{Spot}
use Rattle.board.specs.Table.{board_of}
use Rattle.board.specs.declared.records.Record.{Record}
use Rattle.board.proofs.Tallies.{few-moves}
use Rattle.board_text.specs.Laws.{GivesBack}
use Rattle.board_text.specs.Passes.{board_in}
use Rattle.board_text.specs.Reading.{fitted, reading, counts, records_after, moves_after}
use Rattle.board_text.specs.Verdict.{Fault, verdict}
use Rattle.board_text.proofs.Fitted.{board_is, counted, faulted, fitted-well}
use Rattle.board_text.proofs.Tables.{gives_back}
use Rattle.board_text.proofs.Texts.{only_texts}

-- what is read there is the verdict
pub room-for_all : (t : List ℕ) (records moves : ℕ) → records ≡ 512 → moves ≡ 8192 → reading t records moves ≡ verdict t
room-for_all t records moves many plenty = go (verdict t) refl
  where
    go : (v : Result (List Spot) Fault) → verdict t ≡ v → reading t records moves ≡ verdict t
    go (Ok b) e =
        let fair = (only_texts t b e).0 in
        let most = fair.most in
        let few = few-moves b fair in
        ap (λ (v : Result (List Spot) Fault). fitted v records moves) e ∙ fitted-well (Ok b) refl records moves (omega arith) (omega arith) ∙ sym e
    go (Err f) e = ap (λ (v : Result (List Spot) Fault). fitted v records moves) e ∙ sym e

module _ (t : List ℕ) (rs : List Record) (ms : List ℕ) (many : length rs ≡ 512) (plenty : length ms ≡ 8192) where
  -- a fault that reading answers is the verdict
  pub fault-is : (f : Fault) → Err f ≡ counts (reading t (length rs) (length ms)) → verdict t ≡ Err f
  fault-is f h = sym (room-for_all t (length rs) (length ms) many plenty) ∙ faulted (reading t (length rs) (length ms)) f h

  -- and where it answers counts, the table over what was read means the verdict's board
  pub record Read (n : ℕ) : Type 0 where
    pub board : List Spot
    pub judged : verdict t ≡ Ok board
    pub within : n ≤ length rs
    pub means : board_of (take n (records_after (reading t (length rs) (length ms)) rs)) (moves_after (reading t (length rs) (length ms)) ms) ≡ board

  pub read-means : (n m : ℕ) → Ok (n, m) ≡ counts (reading t (length rs) (length ms)) → Read n
  read-means n m h =
      let got = counted (reading t (length rs) (length ms)) n m h in
      let b = board_in (reading t (length rs) (length ms)) in
      let judged : verdict t ≡ Ok b = sym (room-for_all t (length rs) (length ms) many plenty) ∙ board_is (reading t (length rs) (length ms)) got.good in
      let text = only_texts t b judged in
      let fair = text.0 in
      let most = fair.most in
      let few = few-moves b fair in
      let count = got.count in
      let back = subst (λ (x : List ℕ). GivesBack x b) (sym text.1) (gives_back b fair) rs ms (omega arith) (omega arith) in
      record {
        board = b;
        judged = judged;
        within = omega arith;
        means = ap (λ (k : ℕ). board_of (take k (records_after (reading t (length rs) (length ms)) rs)) (moves_after (reading t (length rs) (length ms)) ms)) (sym count) ∙ back.1;
      }
