-- A list written into another, place by place.
use Rattle.std.specs.Prelude.{ℕ, ◌+◌, List, [], ◌∷◌, slice_set}

-- ys with xs written over it from place i on
abbrev pub put : {X : Type 0} → ℕ → List X → List X → List X
put i [] ys = ys
put i (x ∷ xs) ys = put (i + 1) xs (slice_set ys i x)
