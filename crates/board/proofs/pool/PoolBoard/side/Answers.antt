use Rattle.std.proofs.Common.{rules, ◌≡◌, ◌∙◌}
use Rattle.std.specs.Option.{option_map_or}
use Rattle.board.specs.Side.{side_number}
use Rattle.board.proofs.PoolAnswers.{read-off}
use Rattle.board.proofs.pool.PoolBoard.side.Goals as goal

pub returns : goal.returns
returns c =
    let told : side_number c.map_or.result ≡ option_map_or (λ p. side_number p.state.side) c.position.result 0 = search rules in
    told ∙ read-off c.args.self.now.buffers c.args.position (λ s. s.side) c.position.result c.position.ensures.buffers c.position.ensures.state
