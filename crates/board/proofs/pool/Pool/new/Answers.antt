use Rattle.std.proofs.Common.{refl, arith}
use Rattle.std.proofs.lemmas.Bool.Decides.{nat_tests}
use Rattle.board.proofs.PoolShown.{shows}
use Rattle.board.proofs.pool.Pool.new.Goals as goal

pub returns : goal.returns
returns c = record {
  answer = refl;
  number = grind (arith, nat_tests);
  means = (λ _. (omega arith, omega arith), λ _. refl);
  shows = shows c.args.buffers;
}
