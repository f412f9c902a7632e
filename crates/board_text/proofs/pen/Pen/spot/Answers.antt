use Rattle.std.proofs.Common.{◌≡◌, refl}
use denote.Enum.Declared.{tag_of}
use Rattle.board.specs.Side.{side_number}
use Rattle.board.specs.contracts.side.Side.{the_type}
use Rattle.board.specs.declared.side.Side.{Side}
use Rattle.board.specs.declared.side.Side.TheVariants.{Controller, Kiln}
use Rattle.board_text.proofs.Pens.{Writes-then, Writes-as}
use Rattle.board_text.proofs.pen.Pen.spot.Goals as goal

-- what a side is as a number
tag-side : (s : Side) → tag_of the_type s ≡ side_number s
tag-side Controller = refl
tag-side Kiln = refl

pub returns : goal.returns
returns g c =
    let label = c.label.ensures in
    Writes-as (Writes-then c.two.ensures (Writes-then c.two-2.ensures (Writes-then c.two-3.ensures (Writes-then c.moves.ensures c.put.ensures))))
    (cc (tag-side c.side.result, c.side.ensures))
