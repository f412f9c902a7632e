-- Counters as a number in mixed radix, over any list of limits. Nothing here has to be read to understand a contract.
use Rattle.std.specs.Prelude.{◌≡◌, ℕ, zero, suc, ◌+◌, ◌-◌, ◌*◌, ◌<◌, ◌≤◌, true, List, [], ◌∷◌, ◌++◌, length, take, drop, replicate, nat_le, slice_index, slice_set, refl}
use Rattle.std.proofs.Common.{sym, ap, subst, ◌∙◌, add-mul, mul_assoc, mul-le-mul_right, arith}
use Rattle.std.proofs.lemmas.Bool.{false≢true, and_parts, and_from, leb-true, le-leb}
use Rattle.meter.specs.Counters.{within, spread, number, cleared, filled}

-- what fits the limits, part by part
pub within-head : (n c : ℕ) (ns cs : List ℕ) → within (n ∷ ns) (c ∷ cs) ≡ true → (c ≤ n) × (within ns cs ≡ true)
within-head n c ns cs h = let p = and_parts (nat_le c n) (within ns cs) h in (leb-true c n p.0, p.1)

pub within-cons : (n c : ℕ) (ns cs : List ℕ) → c ≤ n → within ns cs ≡ true → within (n ∷ ns) (c ∷ cs) ≡ true
within-cons n c ns cs le w = and_from (nat_le c n) (within ns cs) (le-leb c n le) w

pub within-length : (ns cs : List ℕ) → within ns cs ≡ true → length ns ≡ length cs
within-length [] [] h = refl
within-length [] (c ∷ cs) h = absurd (false≢true h)
within-length (n ∷ ns) [] h = absurd (false≢true h)
within-length (n ∷ ns) (c ∷ cs) h = ap suc (within-length ns cs (within-head n c ns cs h).1)

pub within-at : (ns cs : List ℕ) → within ns cs ≡ true → (k : ℕ) → slice_index cs k ≤ slice_index ns k
within-at [] [] h k = omega arith
within-at [] (c ∷ cs) h k = absurd (false≢true h)
within-at (n ∷ ns) [] h k = omega arith
within-at (n ∷ ns) (c ∷ cs) h zero = (within-head n c ns cs h).0
within-at (n ∷ ns) (c ∷ cs) h (suc k) = within-at ns cs (within-head n c ns cs h).1 k

pub within-drop : (ns cs : List ℕ) (k : ℕ) → within ns cs ≡ true → within (drop k ns) (drop k cs) ≡ true
within-drop ns cs zero h = h
within-drop [] [] (suc k) h = refl
within-drop [] (c ∷ cs) (suc k) h = absurd (false≢true h)
within-drop (n ∷ ns) [] (suc k) h = absurd (false≢true h)
within-drop (n ∷ ns) (c ∷ cs) (suc k) h = within-drop ns cs k (within-head n c ns cs h).1

pub within-set : (ns cs : List ℕ) (k v : ℕ) → within ns cs ≡ true → v ≤ slice_index ns k → within ns (slice_set cs k v) ≡ true
within-set [] [] k v h le = refl
within-set [] (c ∷ cs) k v h le = absurd (false≢true h)
within-set (n ∷ ns) [] k v h le = absurd (false≢true h)
within-set (n ∷ ns) (c ∷ cs) zero v h le = within-cons n v ns cs le (within-head n c ns cs h).1
within-set (n ∷ ns) (c ∷ cs) (suc k) v h le =
    let p = within-head n c ns cs h in within-cons n c ns (slice_set cs k v) p.0 (within-set ns cs k v p.1 le)

pub within-zeros : (ns : List ℕ) → within ns (replicate (length ns) 0) ≡ true
within-zeros [] = refl
within-zeros (n ∷ ns) = within-cons n 0 ns (replicate (length ns) 0) (omega arith) (within-zeros ns)

pub within-full : (ns : List ℕ) → within ns ns ≡ true
within-full [] = refl
within-full (n ∷ ns) = within-cons n n ns ns (omega arith) (within-full ns)

within-clear : (ns cs : List ℕ) (k m : ℕ) → m ≡ length cs - k → within ns cs ≡ true → within ns (take k cs ++ replicate m 0) ≡ true
within-clear ns cs zero m e h =
    let same = within-length ns cs h in
    let long : length ns ≡ m = omega arith in
    subst (λ (i : ℕ). within ns (replicate i 0) ≡ true) long (within-zeros ns)
within-clear [] [] (suc k) m e h =
    let gone : 0 ≡ m = omega arith in subst (λ (i : ℕ). within [] (replicate i 0) ≡ true) gone (within-zeros [])
within-clear [] (c ∷ cs) (suc k) m e h = absurd (false≢true h)
within-clear (n ∷ ns) [] (suc k) m e h = absurd (false≢true h)
within-clear (n ∷ ns) (c ∷ cs) (suc k) m e h =
    let p = within-head n c ns cs h in
    within-cons n c ns (take k cs ++ replicate m 0) p.0 (within-clear ns cs k m (omega arith) p.1)

pub within-cleared : (ns cs : List ℕ) (k : ℕ) → within ns cs ≡ true → within ns (cleared k cs) ≡ true
within-cleared ns cs k h = within-clear ns cs k (length cs - k) refl h

pub within-filled : (ns cs : List ℕ) (k : ℕ) → within ns cs ≡ true → within ns (filled k ns cs) ≡ true
within-filled ns cs zero h = within-full ns
within-filled [] [] (suc k) h = refl
within-filled [] (c ∷ cs) (suc k) h = absurd (false≢true h)
within-filled (n ∷ ns) [] (suc k) h = absurd (false≢true h)
within-filled (n ∷ ns) (c ∷ cs) (suc k) h =
    let p = within-head n c ns cs h in within-cons n c ns (filled k ns cs) p.0 (within-filled ns cs k p.1)

-- the numbers of lists of counters
pub spread-some : (ns : List ℕ) → 1 ≤ spread ns
spread-some [] = omega arith
spread-some (n ∷ ns) = let s = spread-some ns in let m = mul-le-mul_right {m = 1} {n = n + 1} (spread ns) (omega arith) in omega arith

pub number-below : (ns cs : List ℕ) → within ns cs ≡ true → number ns cs < spread ns
number-below [] cs h = omega arith
number-below (n ∷ ns) [] h = absurd (false≢true h)
number-below (n ∷ ns) (c ∷ cs) h =
    let p = within-head n c ns cs h in
    let rest = number-below ns cs p.1 in
    let most = mul-le-mul_right {m = c + 1} {n = n + 1} (spread ns) (omega arith) in
    let one = add-mul c 1 (spread ns) in
    omega arith

pub number-zeros : (ns : List ℕ) (m : ℕ) → number ns (replicate m 0) ≡ 0
number-zeros [] m = refl
number-zeros (n ∷ ns) zero = refl
number-zeros (n ∷ ns) (suc m) = let r = number-zeros ns m in omega arith

pub number-full : (ns : List ℕ) → number ns ns + 1 ≡ spread ns
number-full [] = refl
number-full (n ∷ ns) = let r = number-full ns in let one = add-mul n 1 (spread ns) in omega arith

pub spread-split : (ns : List ℕ) (k : ℕ) → spread ns ≡ spread (take k ns) * spread (drop k ns)
spread-split ns zero = omega arith
spread-split [] (suc k) = refl
spread-split (n ∷ ns) (suc k) = ap (λ (m : ℕ). (n + 1) * m) (spread-split ns k) ∙ sym (mul_assoc (n + 1) (spread (take k ns)) (spread (drop k ns)))

-- the first k counters as a number, and what stands after them
pub number-split : (ns cs : List ℕ) (k : ℕ) → length ns ≡ length cs → number ns cs ≡ number (take k ns) (take k cs) * spread (drop k ns) + number (drop k ns) (drop k cs)
number-split ns cs zero e = omega arith
number-split [] [] (suc k) e = refl
number-split [] (c ∷ cs) (suc k) e = absurd (omega arith)
number-split (n ∷ ns) [] (suc k) e = absurd (omega arith)
number-split (n ∷ ns) (c ∷ cs) (suc k) e =
    let rest = number-split ns cs k (omega arith) in
    let split = ap (λ (m : ℕ). c * m) (spread-split ns k) in
    let group = mul_assoc c (spread (take k ns)) (spread (drop k ns)) in
    let apart = add-mul (c * spread (take k ns)) (number (take k ns) (take k cs)) (spread (drop k ns)) in
    omega arith

-- one more at place k weighs as much as all that stands after it can hold
pub number-set : (ns cs : List ℕ) (k : ℕ) → k < length ns → length ns ≡ length cs → (v : ℕ) → number ns (slice_set cs k v) + slice_index cs k * spread (drop (suc k) ns) ≡ number ns cs + v * spread (drop (suc k) ns)
number-set [] cs k lt e v = absurd (omega arith)
number-set (n ∷ ns) [] k lt e v = absurd (omega arith)
number-set (n ∷ ns) (c ∷ cs) zero lt e v = omega arith
number-set (n ∷ ns) (c ∷ cs) (suc k) lt e v = let r = number-set ns cs k (omega arith) (omega arith) v in omega arith

-- place k splits off what the places before it leave
pub spread_at : (ns : List ℕ) (k : ℕ) → k < length ns → spread (drop k ns) ≡ (slice_index ns k + 1) * spread (drop (suc k) ns)
spread_at [] k lt = absurd (omega arith)
spread_at (n ∷ ns) zero lt = refl
spread_at (n ∷ ns) (suc k) lt = spread_at ns k (omega arith)

pub number_at : (ns cs : List ℕ) (k : ℕ) → k < length ns → length ns ≡ length cs → number (take (suc k) ns) (take (suc k) cs) ≡ number (take k ns) (take k cs) * (slice_index ns k + 1) + slice_index cs k
number_at [] cs k lt e = absurd (omega arith)
number_at (n ∷ ns) [] k lt e = absurd (omega arith)
number_at (n ∷ ns) (c ∷ cs) zero lt e = omega arith
number_at (n ∷ ns) (c ∷ cs) (suc k) lt e =
    let r = number_at ns cs k (omega arith) (omega arith) in
    let s = spread-take ns k (omega arith) in
    let m = ap (λ (x : ℕ). c * x) s in
    let g = mul_assoc c (spread (take k ns)) (slice_index ns k + 1) in
    let a = add-mul (c * spread (take k ns)) (number (take k ns) (take k cs)) (slice_index ns k + 1) in
    omega arith
  where
    spread-take : (ns : List ℕ) (k : ℕ) → k < length ns → spread (take (suc k) ns) ≡ spread (take k ns) * (slice_index ns k + 1)
    spread-take [] k lt = absurd (omega arith)
    spread-take (n ∷ ns) zero lt = omega arith
    spread-take (n ∷ ns) (suc k) lt = ap (λ (m : ℕ). (n + 1) * m) (spread-take ns k (omega arith)) ∙ sym (mul_assoc (n + 1) (spread (take k ns)) (slice_index ns k + 1))
