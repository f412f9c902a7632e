use Rattle.std.proofs.Common.{◌<◌, List, ◌++◌, drop, length, ap, ◌∙◌, arith}
use Rattle.std.proofs.lemmas.List.{length-take}
use Rattle.board.specs.declared.records.Record.{Record}
use Rattle.board_text.specs.Passes.{after_opening, board_in}
use Rattle.board_text.specs.Reading.{records_of}
use Rattle.board_text.proofs.Fitted.{good_count, length_records}
use Rattle.board_text.proofs.Puts.{put-front}
use Rattle.board.specs.Spot.{Spot}
use Rattle.board_text.specs.SpotLines.{position_of}
use Rattle.board_text.proofs.Filled.{filling_none, filling_all, filling-has-line, filling-form, filling-room, filling-more}
use Rattle.board_text.proofs.opened.Opened.fill.Goals as goal

pub loop-record-init : goal.loop-record-init
loop-record-init c =
    let opened = c.args.self.now in
    filling_none opened.count opened.lines.taken opened.lines.rest.now _ c.args.moves.now c.requires.good c.requires.moves opened.first

pub unwrap-requires : goal.unwrap-requires
unwrap-requires c =
    let below : c.loop-record.record-index < c.args.self.now.count = omega (arith, length-take {A = Record}) in
    filling-has-line below c.loop-record.invariant _ c.next.result c.next.ensures.line

pub unwrap-spot-requires : goal.unwrap-spot-requires
unwrap-spot-requires c =
    let below : c.loop-record.record-index < c.args.self.now.count = omega (arith, length-take {A = Record}) in
    let next = rw c.unwrap.ensures at c.next.ensures.line in
    c.spot.ensures.form ∙ filling-form below c.loop-record.invariant next

pub fill-requires : goal.fill-requires
fill-requires c =
    let below : c.loop-record.record-index < c.args.self.now.count = omega (arith, length-take {A = Record}) in
    let next = rw c.unwrap.ensures at c.next.ensures.line in
    let spot = rw c.unwrap-spot.ensures at c.spot.ensures.spot in
    let room = filling-room below c.loop-record.invariant next in
    let size = ap (λ (s : Spot). length s.moves) spot in
    omega arith

pub loop-record-preserved : goal.loop-record-preserved
loop-record-preserved c =
    let below : c.loop-record.record-index < c.args.self.now.count = omega (arith, length-take {A = Record}) in
    let next = rw c.unwrap.ensures at c.next.ensures.line in
    let taken = rw c.unwrap.ensures at c.next.ensures.taken in
    let spot = rw c.unwrap-spot.ensures at c.spot.ensures.spot in
    let count = c.count-first.ensures in
    filling-more below c.loop-record.invariant next {s = position_of c.unwrap-spot.result} spot (omega arith) (omega arith) taken.1 (cc) c.fill.ensures

pub returns : goal.returns
returns c =
    let opened = c.args.self.now in
    let board = board_in (after_opening opened.count opened.lines.rest.now) in
    let many = length_records 0 board in
    let count = good_count opened.count opened.lines.rest.now c.requires.good in
    let all = filling_all (omega (arith, length-take {A = Record})) c.loop-record.invariant in
    record {
      records = ap (λ (front : List Record). front ++ drop c.from.result c.args.records.now) all.0 ∙ put-front c.from.result (records_of 0 board) c.args.records.now (omega arith) (omega arith);
      moves = all.1;
    }
