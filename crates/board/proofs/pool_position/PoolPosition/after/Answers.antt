use Rattle.std.proofs.Common.{refl, sym}
use Rattle.std.proofs.lemmas.Bool.{cond-true}
use Rattle.board.proofs.PoolMoves.{lands}
use Rattle.board.proofs.pool_position.PoolPosition.after.Goals as goal

pub returns-then-clashes : goal.returns-then-clashes
returns-then-clashes c =
    let p = c.args.self in
    record { pool = refl; number = (lands p.pool.buffers p.state p.pool.known.1 p.inside c.args.place c.requires p.state (cond-true _ _ _ (sym c.if-clashes.ensures))).number }
