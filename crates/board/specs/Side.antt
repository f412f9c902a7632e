-- The two sides and their numbers.
use Rattle.std.specs.Prelude.{◌≡◌, ℕ, ◌<◌, cond, ◌==◌, Result, MatchResult}
use Rattle.board.specs.declared.side.Side.{Side}
use Rattle.board.specs.declared.side.Side.TheVariants.{Controller, Kiln}
use Rattle.board.specs.declared.side.UnknownSide.{UnknownSide}

-- 0 stands for the controller, 1 for the kiln
abbrev pub side_number : Side → ℕ
side_number Controller = 0
side_number Kiln = 1

-- the side that a number stands for: 0 the controller, any other the kiln
abbrev pub side_numbered : ℕ → Side
side_numbered n = cond (n == 0) Controller Kiln

-- the side with this number, or the number back where it is above 1
abbrev pub StandsForSide : ℕ → Result Side UnknownSide → Type 0
StandsForSide n r = MatchResult r (λ s. side_number s ≡ n) (λ e. (e.0 ≡ n) × (1 < n))
