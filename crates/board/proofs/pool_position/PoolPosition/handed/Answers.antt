use Rattle.std.proofs.Common.{rules, refl}
use Rattle.std.proofs.lemmas.Bool.Decides.{nat_tests}
use Rattle.board.specs.declared.side.Side.TheVariants.{Kiln}
use Rattle.board.proofs.PoolMoves.{lands-handing}
use Rattle.board.proofs.pool_position.PoolPosition.handed.Goals as goal

pub invariant_of-result : goal.invariant_of-result
invariant_of-result c =
    let p = c.args.self in
    record { inside = (lands-handing p.pool.buffers p.state p.pool.known.1 p.inside c.args.place c.requires.there c.requires.apart c.requires.turn (record { first = c.match-self.first.0; second = c.match-self.first.1; side = Kiln }) (search (rules, nat_tests)) (search (rules, nat_tests)) refl).inside }

pub returns : goal.returns
returns c =
    let p = c.args.self in
    record { pool = refl; number = (lands-handing p.pool.buffers p.state p.pool.known.1 p.inside c.args.place c.requires.there c.requires.apart c.requires.turn (record { first = c.match-self.first.0; second = c.match-self.first.1; side = Kiln }) (search (rules, nat_tests)) (search (rules, nat_tests)) refl).number }
