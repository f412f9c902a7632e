-- What a pool board has under a number, by the position that bears it.
use Rattle.std.proofs.Common.{◌≡◌, ℕ, Some, None, Option, ap, ◌∙◌, get_or, slice_get, unwrap_or, option_and_then, IfSome}
use Rattle.std.specs.Option.{option_map, option_map_or}
use Rattle.std.proofs.lemmas.Option.{unwrap_or-slice_get}
use Rattle.board.specs.Spot.{Spot, blank, spot_at, move_of}
use Rattle.board.specs.Pool.{pool_moves, pool_board}
use Rattle.board.specs.declared.pool_position.PoolPosition.{PoolPosition}
use Rattle.board.proofs.PoolNumbers.{position_of, spot_for, spot_borne, spot_missing}

module _ (q v : ℕ) where
  -- whatever is read off the spot of the position, or off the blank one, is read off the board
  pub read-off : {A : Type 0} (f : Spot → A) (o : Option PoolPosition) → IfSome o (λ p. p.pool.buffers ≡ q) → option_map (λ p. p.state) o ≡ position_of q v → option_map_or (λ p. f (spot_for p.pool.buffers p.state)) o (f blank) ≡ f (spot_at (pool_board q) v)
  read-off f None b e = ap f (spot_missing q v e)
  read-off f (Some p) b e = ap f (ap (λ (n : ℕ). spot_for n p.state) b ∙ spot_borne q v p.state e)

  pub move-off : (i : ℕ) (o : Option PoolPosition) → IfSome o (λ p. p.pool.buffers ≡ q) → option_map (λ p. p.state) o ≡ position_of q v → unwrap_or (option_and_then (λ p. slice_get (pool_moves p.pool.buffers p.state) i) o) 0 ≡ move_of (pool_board q) v i
  move-off i None b e = read-off (λ s. get_or s.moves i 0) None b e
  move-off i (Some p) b e = unwrap_or-slice_get (pool_moves p.pool.buffers p.state) i 0 ∙ read-off (λ s. get_or s.moves i 0) (Some p) b e
