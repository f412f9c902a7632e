use Rattle.std.proofs.Common.{rules, refl}
use Rattle.std.proofs.lemmas.Bool.Decides.{nat_tests}
use Rattle.board.specs.declared.side.Side.TheVariants.{Controller}
use Rattle.board.proofs.PoolMoves.{lands-giving}
use Rattle.board.proofs.pool_position.PoolPosition.given_back.Goals as goal

pub returns : goal.returns
returns c =
    let p = c.args.self in
    record { pool = refl; number = (lands-giving p.pool.buffers p.state p.pool.known.1 p.inside c.args.place c.requires.there c.requires.apart c.requires.turn (record { first = c.if-place-eq0.first; second = c.if-place-next.second; side = Controller }) (search (rules, nat_tests)) (search (rules, nat_tests)) refl).number }
