-- Counters and limits in pairs, as a `zip` gives them.
use Rattle.std.proofs.Common.{◌≡◌, ℕ, leb, ◌&&◌, List, [], ◌∷◌, length, zip, refl, ap, arith}
use Rattle.std.proofs.lemmas.Fn.{fronts}
use Rattle.std.proofs.lemmas.Iterator.{YieldsList, YieldsList-from_zip, YieldsList-from_slice, zips}
use Rattle.std.specs.Iterator.Adapters.{zip_first, zip_second}
use Rattle.std.specs.List.{list_all}
use Rattle.std.specs.Slice.Iter.{iter_rest}
use denote.Ref.{Bor}
use Rattle.meter.specs.Counters.{within}

-- what a pair of references points to
abbrev pub pair : Bor ℕ × Bor ℕ → ℕ × ℕ
pair p = (p.0.now, p.1.now)

pub pairs-given : {s : _} (cs ns : List ℕ) → iter_rest (zip_first s) ≡ cs → iter_rest (zip_second s) ≡ ns → YieldsList (zips fronts fronts) pair s (zip cs ns)
pairs-given cs ns e f = YieldsList-from_zip (YieldsList-from_slice cs e) (YieldsList-from_slice ns f)

-- counters and limits of one length, place by place
pub within-zip : (ns cs : List ℕ) → length ns ≡ length cs → list_all (λ p. leb p.0 p.1) (zip cs ns) ≡ within ns cs
within-zip [] [] e = refl
within-zip [] (c ∷ cs) e = absurd (omega arith)
within-zip (n ∷ ns) [] e = absurd (omega arith)
within-zip (n ∷ ns) (c ∷ cs) e = ap (λ b. leb c n && b) (within-zip ns cs (omega arith))
