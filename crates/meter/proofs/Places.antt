-- The search for a place, and the counters from a place on.
use Rattle.std.proofs.Common.{◌≡◌, ℕ, zero, suc, ◌-◌, ◌<◌, Bool, true, false, List, ◌++◌, length, take, drop, replicate, Some, None, sym, refl, ap, ◌∙◌, arith}
use Rattle.std.proofs.lemmas.List.{drop-replicate}
use Rattle.meter.specs.Counters.{cleared, last_place}

-- the last place that passes, and that none passes
pub last_place-some : (test : ℕ → Bool) (k p : ℕ) → p < k → test p ≡ true → ((j : ℕ) → p < j → j < k → test j ≡ false) → Some p ≡ last_place test k
last_place-some test zero p lt hit miss = absurd (omega arith)
last_place-some test (suc k) p lt hit miss =
    let before = λ (less : p < k). last_place-some test k p less hit (λ j gt lt. miss j gt (omega arith)) in let here = miss k in grind arith

pub last_place-none : (test : ℕ → Bool) (k : ℕ) → ((j : ℕ) → j < k → test j ≡ false) → None ≡ last_place test k
last_place-none test zero miss = refl
last_place-none test (suc k) miss = let before = last_place-none test k (λ j lt. miss j (omega arith)) in let here = miss k (omega arith) in grind arith

-- eight counters with a tail of 0
pub tail-zeros : (cs : List ℕ) (k : ℕ) → length cs ≡ 8 → take k cs ++ drop k (replicate 8 0) ≡ cleared k cs
tail-zeros cs k e = ap (λ ds. take k cs ++ ds) (drop-replicate k 8 0 ∙ ap (λ n. replicate (n - k) 0) (sym e))
