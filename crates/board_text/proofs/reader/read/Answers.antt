use Rattle.std.proofs.Common.{◌<◌, ◌⊎◌, List, length, Result, sym, ap, ◌∙◌, arith}
use Rattle.board.specs.Spot.{Spot, all_moves}
use Rattle.board_text.specs.Passes.{after_opening, board_in}
use Rattle.board_text.specs.Reading.{counts, records_of, records_after, moves_after}
use Rattle.board_text.specs.Verdict.{Fault}
use Rattle.board_text.proofs.Fitted.{surveyed, reading_well, reading_short, length_records}
use Rattle.board_text.proofs.Puts.{put-over}
use Rattle.board_text.proofs.Texts.{judged_exactly}
use Rattle.board_text.proofs.reader.read.Goals as goal

pub returns-in_err-opened-clause-exact : goal.returns-in_err-opened-clause-exact
returns-in_err-opened-clause-exact c = judged_exactly c.args.text.now

pub returns-in_err-survey-clause-exact : goal.returns-in_err-survey-clause-exact
returns-in_err-survey-clause-exact c = judged_exactly c.args.text.now

pub returns-then-records-count : goal.returns-then-records-count
returns-then-records-count c =
    let opened = c.in_ok-opened.opened in
    let short : (length c.args.records.now < opened.count) ⊎ (length c.args.moves.now < c.in_ok-survey.field-0) = grind arith in
    let got = reading_short c.args.text.now c.in_ok-opened.ensures c.in_ok-survey.ensures (length c.args.records.now) (length c.args.moves.now) short in
    record {
      answer = sym (ap counts got);
      records = sym (ap (λ (x : Result (List Spot) Fault). records_after x c.args.records.now) got);
      moves = sym (ap (λ (x : Result (List Spot) Fault). moves_after x c.args.moves.now) got);
      exact = judged_exactly c.args.text.now;
    }

pub returns : goal.returns
returns c =
    let opened = c.in_ok-opened.opened in
    let board = board_in (after_opening opened.count opened.lines.rest.now) in
    let found = surveyed opened.count c.in_ok-survey.field-0 opened.lines.rest.now c.in_ok-survey.ensures in
    let count = found.count in
    let total = found.total in
    let many = length_records 0 board in
    let got = reading_well c.args.text.now c.in_ok-opened.ensures c.in_ok-survey.ensures (length c.args.records.now) (length c.args.moves.now) (omega arith) (omega arith) in
    record {
      answer = cc (ap counts got);
      records = c.fill.ensures.records ∙ put-over (records_of 0 board) c.args.records.now (omega arith) ∙ sym (ap (λ (x : Result (List Spot) Fault). records_after x c.args.records.now) got);
      moves = c.fill.ensures.moves ∙ put-over (all_moves board) c.args.moves.now (omega arith) ∙ sym (ap (λ (x : Result (List Spot) Fault). moves_after x c.args.moves.now) got);
      exact = judged_exactly c.args.text.now;
    }
