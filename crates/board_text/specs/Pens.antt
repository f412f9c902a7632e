-- What a pen writes; only private functions cite it.
use Rattle.std.specs.Prelude.{◌≡◌, ℕ, ◌+◌, ◌≤◌, List, length}
use Rattle.board_text.specs.Put.{put}
use Rattle.board_text.specs.declared.pen.Pen.{Pen}

-- so many bytes more can be written
abbrev pub HasRoom : Pen → ℕ → Type 0
HasRoom p n = p.at + n ≤ length p.out.now

-- the bytes were written, and the pen stands behind them
pub record Writes (before : Pen) (bytes : List ℕ) (after : Pen) : Type 0 where
  pub same_slice : after.out.ghost_name ≡ before.out.ghost_name
  pub same_length : length after.out.now ≡ length before.out.now
  pub written : after.out.now ≡ put before.at bytes before.out.now
  pub next : after.at ≡ before.at + length bytes
