-- What writing answers and leaves behind, where the text fits and where it does not.
use Rattle.std.proofs.Common.{◌≡◌, ℕ, ◌<◌, ◌≤◌, List, length, take, drop, Ok, Err, ap, sym, ◌∙◌, arith}
use Rattle.std.proofs.lemmas.List.{take_at}
use Rattle.std.proofs.lemmas.Bool.Decides.{nat_tests}
use Rattle.board_text.specs.Put.{put}
use Rattle.board_text.specs.Reading.{over}
use Rattle.board_text.specs.Writing.{written, after_writing}
use Rattle.board_text.specs.declared.refusals.WriteRefusal.TheVariants.{TooShort}
use Rattle.board_text.proofs.Puts.{put-over}

module _ (text out : List ℕ) where
  pub refused : length out < length text → Err TooShort ≡ written text (length out)
  refused short = grind (arith, nat_tests)

  pub untouched : length out < length text → out ≡ after_writing text out
  untouched short = grind (arith, nat_tests)

  pub answered : length text ≤ length out → Ok (length text) ≡ written text (length out)
  answered fits = grind (arith, nat_tests)

  overwritten : length text ≤ length out → over text out ≡ after_writing text out
  overwritten fits = grind (arith, nat_tests)

  pub filled : length text ≤ length out → put 0 text out ≡ after_writing text out
  filled fits = put-over text out fits ∙ overwritten fits

  -- the front of the slice is then the text
  pub front-written : (n : ℕ) → n ≡ length text → length text ≤ length out → take n (after_writing text out) ≡ text
  front-written n long fits = sym (ap (take n) (overwritten fits)) ∙ take_at text (drop (length text) out) n (sym long)
