use Rattle.std.proofs.Common.{◌≡◌, ◌≤◌, List, length, take, Ok, Result, sym, ap, ◌∙◌, arith, rules}
use Rattle.std.proofs.lemmas.List.{with_items_is}
use Rattle.std.proofs.lemmas.Result.{IfOk-weaker}
use Rattle.board.specs.Spot.{Spot}
use Rattle.board.specs.Summary.{summary_of}
use Rattle.board.specs.Table.{board_of}
use Rattle.board.specs.declared.summary.Summary.{Summary}
use Rattle.board_text.specs.Formatting.{formatted, told}
use Rattle.board_text.specs.Text.{text_of}
use Rattle.board_text.specs.Verdict.{Fault}
use Rattle.board_text.proofs.Formats.{fault-is, read-means}
use Rattle.board_text.proofs.format.reformat.Goals as goal

pub slice_bounds-new-end : goal.slice_bounds-new-end
slice_bounds-new-end c =
    let many = c.in_ok-records.ensures.len in
    let plenty = c.in_ok-moves.ensures.len in
    let rs = c.deref_mut.result.now in
    let ms = c.deref_mut-2.result.now in
    let got = read-means c.args.input.now rs ms (omega arith) (omega arith) c.in-Ok.count c.in-Ok.field-0-1 c.in-Ok.ensures.answer in
    let read = c.deref.ensures.value ∙ with_items_is c.in_ok-records.records c.read.new.records (c.read.auto.records ∙ c.deref_mut.ensures.len) in
    let within : c.in-Ok.count ≤ length c.deref.result.now = rw read (omega (arith, got.within, c.read.auto.records)) in
    search rules

pub returns-in-Ok : goal.returns-in-Ok
returns-in-Ok c =
    let many = c.in_ok-records.ensures.len in
    let plenty = c.in_ok-moves.ensures.len in
    let rs = c.deref_mut.result.now in
    let ms = c.deref_mut-2.result.now in
    let got = read-means c.args.input.now rs ms (omega arith) (omega arith) c.in-Ok.count c.in-Ok.field-0-1 c.in-Ok.ensures.answer in
    let read = c.deref.ensures.value ∙ with_items_is c.in_ok-records.records c.read.new.records (c.read.auto.records ∙ c.deref_mut.ensures.len) ∙ c.read.ensures.records in
    let records = c.new.ensures.records ∙ ap (take c.in-Ok.count) read in
    let moves = c.new.ensures.moves ∙ c.deref-in-Ok.ensures.value ∙ with_items_is c.in_ok-moves.moves c.read.new.moves (c.read.auto.moves ∙ c.deref_mut-2.ensures.len) ∙ c.read.ensures.moves in
    let same : board_of c.new.result.records.now c.new.result.moves.now ≡ got.board = (λ i. board_of (records i) (moves i)) ∙ got.means in
    let tell : List Spot → Result Summary Fault = λ b. Ok (summary_of b) in
    IfOk-weaker c.of_board.result _ _
    (λ f p. (p.0 ∙ ap text_of same ∙ sym (ap formatted got.judged), p.1 ∙ ap tell same ∙ sym (ap told got.judged)))
    c.of_board.ensures

pub returns : goal.returns
returns c =
    let many = c.in_ok-records.ensures.len in
    let plenty = c.in_ok-moves.ensures.len in
    let judged = fault-is c.args.input.now c.deref_mut.result.now c.deref_mut-2.result.now (omega arith) (omega arith) (c.in-Err.refusal, c.in-Err.line) c.in-Err.ensures.answer in
    IfOk-weaker c.of_refusal.result _ _
    (λ f p. (p.0 ∙ sym (ap formatted judged), p.1 ∙ sym (ap told judged)))
    c.of_refusal.ensures
