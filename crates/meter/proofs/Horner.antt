-- Counters read into one number, place by place.
use Rattle.std.proofs.Common.{◌≡◌, ℕ, zero, suc, ◌+◌, ◌*◌, ◌<◌, true, List, [], ◌∷◌, ◌++◌, length, min, take, drop, zip, sym, refl, ap, ◌∙◌, mul_assoc, add-mul, mul-le-mul_left, mul-one, arith}
use Rattle.std.proofs.lemmas.List.{length-take}
use Rattle.std.proofs.lemmas.List.Sums.{fold-append}
use Rattle.std.specs.List.{fold}
use Rattle.meter.specs.Counters.{within, spread, number}
use Rattle.meter.specs.Radix.{within-length, number-below, number-split, spread-some}

-- counters with their limits, read from a number on
abbrev pub horner : ℕ → List (ℕ × ℕ) → ℕ
horner t ps = fold (λ (a : ℕ) (p : ℕ × ℕ). a * (p.1 + 1) + p.0) t ps

-- one place more
pub horner-push : (ps : List (ℕ × ℕ)) (a : ℕ) (p : ℕ × ℕ) → a ≡ horner 0 ps → a * (p.1 + 1) + p.0 ≡ horner 0 (ps ++ p ∷ [])
horner-push ps a p e = ap (λ (n : ℕ). n * (p.1 + 1) + p.0) e ∙ sym (fold-append _ 0 ps (p ∷ []))

horner-zip : (t : ℕ) (ns cs : List ℕ) → length ns ≡ length cs → horner t (zip cs ns) ≡ t * spread ns + number ns cs
horner-zip t [] [] e = omega arith
horner-zip t [] (c ∷ cs) e = absurd (omega arith)
horner-zip t (n ∷ ns) [] e = absurd (omega arith)
horner-zip t (n ∷ ns) (c ∷ cs) e =
    let rest = horner-zip (t * (n + 1) + c) ns cs (omega arith) in
    let apart = add-mul (t * (n + 1)) c (spread ns) in
    let group = mul_assoc t (n + 1) (spread ns) in
    omega arith

take_zip : (k : ℕ) (cs ns : List ℕ) → take k (zip cs ns) ≡ zip (take k cs) (take k ns)
take_zip zero cs ns = refl
take_zip (suc k) [] ns = refl
take_zip (suc k) (c ∷ cs) [] = refl
take_zip (suc k) (c ∷ cs) (n ∷ ns) = ap (λ ps. (c, n) ∷ ps) (take_zip k cs ns)

module _ (ns cs : List ℕ) (w : within ns cs ≡ true) where
  pub horner-all : horner 0 (zip cs ns) ≡ number ns cs
  horner-all = horner-zip 0 ns cs (within-length ns cs w) ∙ omega arith

  -- on the way the number never passes that of all counters
  pub horner-few : (k : ℕ) → horner 0 (take k (zip cs ns)) < spread ns
  horner-few k =
      let same = within-length ns cs w in
      let front = horner-zip 0 (take k ns) (take k cs) (length-take k ns ∙ ap (λ n. min k n) same ∙ sym (length-take k cs)) in
      let cut = ap (horner 0) (take_zip k cs ns) in
      let whole = number-split ns cs k same in
      let below = number-below ns cs w in
      let some = mul-le-mul_left (number (take k ns) (take k cs)) (spread-some (drop k ns)) in
      let one = mul-one (number (take k ns) (take k cs)) in
      omega arith
