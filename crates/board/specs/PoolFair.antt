-- Why the pool board is fair: the witness that its `impl` gives. Nothing here has to be read to
-- understand a contract.
use Rattle.std.specs.Prelude.{◌≡◌, ℕ, ◌≤◌, true, refl}
use Rattle.std.proofs.Common.{arith}
use Rattle.board.specs.Fair.{Fair}
use Rattle.board.specs.FairTest.{all_below, passes_below, fair_test, fair-from}
use Rattle.board.specs.Pool.{pool_board}

-- all of them are computed and tested
all_fair : all_below 8 (λ q. fair_test (pool_board q)) ≡ true
all_fair = refl

-- a board of up to seven buffers is fair
pub pool_fair : (q : ℕ) → q ≤ 7 → Fair (pool_board q)
pool_fair q most = fair-from (pool_board q) (passes_below 8 (λ k. fair_test (pool_board k)) all_fair q (omega arith))
