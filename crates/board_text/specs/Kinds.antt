-- The numbers of the kinds of line; only private functions cite it.
use Rattle.std.specs.Prelude.{ℕ}
use Rattle.board_text.specs.declared.kinds.LineKind.{LineKind}
use Rattle.board_text.specs.declared.kinds.LineKind.TheVariants.{Count, Spot, Total}

abbrev pub kind_number : LineKind → ℕ
kind_number Count = 1
kind_number Spot = 2
kind_number Total = 3
