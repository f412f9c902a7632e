use Rattle.std.proofs.Common.{◌≡◌, ℕ, ◌≤◌, length, take, Result, refl, sym, ap, ◌∙◌, subst, arith}
use Rattle.std.specs.Result.{IsOk}
use Rattle.std.proofs.lemmas.List.{with_items_is}
use Rattle.board_text.specs.Text.{text_of}
use Rattle.board_text.specs.declared.refusals.WriteRefusal.{WriteRefusal}
use Rattle.board_text.proofs.Outcomes.{answered, front-written}
use Rattle.board_text.proofs.format.text_of.Goals as goal

pub unwrap-length-requires : goal.unwrap-length-requires
unwrap-length-requires g c =
    let text = text_of (g.B.Board.meaning c.args.board.now) in
    let room = c.in_ok-text.ensures.len in
    let long = c.as_mut_slice.ensures.len in
    let most = c.write.ensures.longest in
    subst (λ (r : Result ℕ WriteRefusal). IsOk r) (answered text c.as_mut_slice.result.now (omega arith) ∙ sym c.write.ensures.answer) refl

pub returns : goal.returns
returns g c =
    let text = text_of (g.B.Board.meaning c.args.board.now) in
    let out = c.as_mut_slice.result.now in
    let room = c.in_ok-text.ensures.len in
    let long = c.as_mut_slice.ensures.len in
    let most = c.write.ensures.longest in
    let fits : length text ≤ length out = omega arith in
    let size : c.unwrap-length.result ≡ length text = cc (answered text out fits) in
    c.truncate.ensures.items
    ∙ ap (take c.unwrap-length.result) (with_items_is c.in_ok-text.text c.write.new.out (c.write.auto.out ∙ long) ∙ c.write.ensures.after)
    ∙ front-written text out c.unwrap-length.result size fits
