use Rattle.std.proofs.Common.{rules}
use Rattle.std.proofs.lemmas.List.FromFn.{length-map-range_with_len}
use Rattle.board.proofs.pool.PoolBoard.count.Goals as goal

pub returns : goal.returns
returns c = simp length-map-range_with_len (search rules)
