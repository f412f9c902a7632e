use Rattle.std.proofs.Common.{ap, List, ℕ, length, arith}
use Rattle.board.specs.Fairness.{board_of-fair}
use Rattle.board.specs.Table.{board_of}
use Rattle.board.proofs.Tallies.{few-at}
use Rattle.board.proofs.table.TableBoard.moves.Goals as goal

pub overflow_cast-result : goal.overflow_cast-result
overflow_cast-result c =
    let records = c.args.self.now.records.now in
    let moves = c.args.self.now.moves.now in
    let few = few-at (board_of records moves) (board_of-fair records moves) c.args.position in
    let many = ap (λ (ms : List ℕ). length ms) c.moves_at.ensures in
    omega arith
