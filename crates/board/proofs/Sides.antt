-- Sides and their numbers.
use Rattle.std.proofs.Common.{◌≡◌, ◌<◌, refl, lit<}
use Rattle.board.specs.Side.{side_number, side_numbered}
use Rattle.board.specs.declared.side.Side.{Side}
use Rattle.board.specs.declared.side.Side.TheVariants.{Controller, Kiln}

pub side-below : (s : Side) → side_number s < 2
side-below Controller = lit< tt
side-below Kiln = lit< tt

-- the number of a side stands for it
pub side-back : (s : Side) → side_numbered (side_number s) ≡ s
side-back Controller = refl
side-back Kiln = refl
