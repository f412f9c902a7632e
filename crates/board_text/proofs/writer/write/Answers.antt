use Rattle.std.proofs.Common.{◌≡◌, ℕ, ◌+◌, ◌*◌, ◌≤◌, List, length, take, Ok, sym, ap, ◌∙◌, subst, arith, rules}
use Rattle.board_text.specs.Laws.{GivesBack}
use Rattle.board_text.specs.Text.{text_of}
use Rattle.board_text.proofs.Lengths.{spot_lines-length, text_length, longest_text}
use Rattle.board_text.proofs.Outcomes.{refused, untouched, answered, filled, front-written}
use Rattle.board_text.proofs.Pens.{Writes-then, Writes-as, Writes-leaves}
use Rattle.board_text.proofs.Tables.{gives_back}
use Rattle.board_text.proofs.Texts.{one_text}
use Rattle.board_text.proofs.writer.write.Goals as goal

pub returns-then-out-needed : goal.returns-then-out-needed
returns-then-out-needed g c =
    let board = g.B.Board.meaning c.args.board.now in
    let fair = g.B.Board.fair c.args.board.now in
    let long = text_length board in
    record {
      answer = refused (text_of board) c.args.out.now (omega arith);
      after = untouched (text_of board) c.args.out.now (omega arith);
      longest = longest_text board fair;
      back = tt;
      known = λ a other same. one_text a board other fair same;
    }

pub spots-requires : goal.spots-requires
spots-requires g c =
    let long = spot_lines-length (g.B.Board.meaning c.args.board.now) in
    let first = c.number_line.ensures in
    omega arith

pub number_line-requires-2 : goal.number_line-requires-2
number_line-requires-2 g c =
    let long = spot_lines-length (g.B.Board.meaning c.args.board.now) in
    let first = c.number_line.ensures in
    let spots = c.spots.ensures in
    omega arith

pub returns : goal.returns
returns g c =
    let board = g.B.Board.meaning c.args.board.now in
    let fair = g.B.Board.fair c.args.board.now in
    let long = text_length board in
    let as_long : 7 * (c.from-lines.result + 2) + 4 * c.from.result ≡ length (text_of board) = omega arith in
    let count = c.count-count.ensures in
    let total = c.count_moves-total.ensures in
    let all = Writes-as {ys = text_of board} (Writes-then c.number_line.ensures (Writes-then c.spots.ensures c.number_line-2.ensures)) cc in
    let fits : length (text_of board) ≤ length c.args.out.now = omega arith in
    record {
      answer = ap Ok as_long ∙ answered (text_of board) c.args.out.now fits;
      after = Writes-leaves all (search rules) ∙ filled (text_of board) c.args.out.now fits;
      longest = longest_text board fair;
      back = subst (λ (t : List ℕ). GivesBack t board) (sym (ap (take _) (Writes-leaves all (search rules) ∙ filled (text_of board) c.args.out.now fits) ∙ front-written (text_of board) c.args.out.now _ as_long fits)) (gives_back board fair);
      known = λ a other same. one_text a board other fair same;
    }
