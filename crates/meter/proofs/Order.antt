-- The order of counters: by their number, by the first that differs, and as arrays are compared.
use Rattle.std.proofs.Common.{◌≡◌, ℕ, zero, suc, ◌+◌, ◌*◌, ◌<◌, ◌≤◌, Bool, true, leb, ◌⊎◌, List, [], ◌∷◌, get_or, take, Decides, sym, refl, ap, ◌∙◌, inl, inr, ⊎_elim, mul-le-mul_right, add-mul, arith}
use Rattle.std.proofs.lemmas.Bool.{false≢true, cases_order, le-leb, leb-true}
use Rattle.std.proofs.lemmas.Bool.Decides.{Decides-at, nat_tests}
use Rattle.std.specs.Cmp.Lexicographic.{slice_partial_cmp}
use Rattle.std.specs.Ordering.{is_some_and, is_le, nat_cmp, as_partial_cmp}
use Rattle.meter.specs.Counters.{within, spread, number, Smaller}
use Rattle.meter.specs.Marked.{rank_in}
use Rattle.meter.specs.Radix.{within-head, number-below}
use Rattle.meter.specs.Return.{CountsAsMemory, counts_as}
use Rattle.meter.specs.declared.reading.Reading.{Reading}

-- a smaller first counter outweighs all that come after it
first-less : (n c d : ℕ) (ns cs ds : List ℕ) → within (n ∷ ns) (c ∷ cs) ≡ true → c < d → number (n ∷ ns) (c ∷ cs) < number (n ∷ ns) (d ∷ ds)
first-less n c d ns cs ds w lt =
    let below = number-below ns cs (within-head n c ns cs w).1 in
    let more = mul-le-mul_right {m = c + 1} {n = d} (spread ns) (omega arith) in
    let one = add-mul c 1 (spread ns) in
    omega arith

smaller_number : (ns cs ds : List ℕ) (k : ℕ) → within ns cs ≡ true → within ns ds ≡ true → take k cs ≡ take k ds → get_or cs k 0 < get_or ds k 0 → number ns cs < number ns ds
smaller_number [] [] [] k w v same lt = absurd (omega arith)
smaller_number [] [] (d ∷ ds) k w v same lt = absurd (false≢true v)
smaller_number [] (c ∷ cs) ds k w v same lt = absurd (false≢true w)
smaller_number (n ∷ ns) [] ds k w v same lt = absurd (false≢true w)
smaller_number (n ∷ ns) (c ∷ cs) [] k w v same lt = absurd (false≢true v)
smaller_number (n ∷ ns) (c ∷ cs) (d ∷ ds) zero w v same lt = first-less n c d ns cs ds w lt
smaller_number (n ∷ ns) (c ∷ cs) (d ∷ ds) (suc k) w v same lt =
    let head : c ≡ d = cc in
    let tail : take k cs ≡ take k ds = cc in
    let rest = smaller_number ns cs ds k (within-head n c ns cs w).1 (within-head n d ns ds v).1 tail lt in
    let front = ap (λ (x : ℕ). x * spread ns) head in
    omega arith

-- of two lists of counters, the number of one is at most that of the other, if they are equal or the first that differs is smaller
ordered_number : (ns cs ds : List ℕ) → within ns cs ≡ true → within ns ds ≡ true → (cs ≡ ds) ⊎ Smaller cs ds → number ns cs ≤ number ns ds
ordered_number ns cs ds w v (inl e) = let same = ap (number ns) e in omega arith
ordered_number ns cs ds w v (inr s) = let less = smaller_number ns cs ds s.place w v s.same s.less in omega arith

further : (c d : ℕ) (cs ds : List ℕ) → c ≡ d → (cs ≡ ds) ⊎ Smaller cs ds → (c ∷ cs ≡ d ∷ ds) ⊎ Smaller (c ∷ cs) (d ∷ ds)
further c d cs ds e (inl t) = inl (cc)
further c d cs ds e (inr s) = inr (record { place = suc s.place; same = let t = s.same in cc; less = s.less })

-- and only then
number-ordered : (ns cs ds : List ℕ) → within ns cs ≡ true → within ns ds ≡ true → number ns cs ≤ number ns ds → (cs ≡ ds) ⊎ Smaller cs ds
number-ordered [] [] [] w v le = inl refl
number-ordered [] [] (d ∷ ds) w v le = absurd (false≢true v)
number-ordered [] (c ∷ cs) ds w v le = absurd (false≢true w)
number-ordered (n ∷ ns) [] ds w v le = absurd (false≢true w)
number-ordered (n ∷ ns) (c ∷ cs) [] w v le = absurd (false≢true v)
number-ordered (n ∷ ns) (c ∷ cs) (d ∷ ds) w v le = go (number-ordered ns cs ds (within-head n c ns cs w).1 (within-head n d ns ds v).1)
  where
    go : (number ns cs ≤ number ns ds → (cs ≡ ds) ⊎ Smaller cs ds) → (c ∷ cs ≡ d ∷ ds) ⊎ Smaller (c ∷ cs) (d ∷ ds)
    go rest = ⊎_elim
        (λ (e : c ≡ d). let front = ap (λ (x : ℕ). x * spread ns) e in further c d cs ds e (rest (omega arith)))
        (⊎_elim
        (λ (lt : c < d). inr (record { place = 0; same = refl; less = lt }))
        (λ (gt : d < c). let more = first-less n d c ns ds cs v gt in absurd (omega arith)))
        (cases_order c d)

-- the test on the numbers decides it
pub order_decides : (ns cs ds : List ℕ) → within ns cs ≡ true → within ns ds ≡ true → Decides (leb (number ns cs) (number ns ds)) ((cs ≡ ds) ⊎ Smaller cs ds)
order_decides ns cs ds w v = (
  λ h. number-ordered ns cs ds w v (leb-true (number ns cs) (number ns ds) h),
  λ h. le-leb (number ns cs) (number ns ds) (ordered_number ns cs ds w v h),
)

-- comparing two arrays of counters, as `<=` does, compares their numbers
pub compared_number : (ns cs ds : List ℕ) → within ns cs ≡ true → within ns ds ≡ true → is_some_and is_le (slice_partial_cmp (as_partial_cmp nat_cmp) cs ds) ≡ leb (number ns cs) (number ns ds)
compared_number [] [] [] w v = refl
compared_number [] [] (d ∷ ds) w v = absurd (false≢true v)
compared_number [] (c ∷ cs) ds w v = absurd (false≢true w)
compared_number (n ∷ ns) [] ds w v = absurd (false≢true w)
compared_number (n ∷ ns) (c ∷ cs) [] w v = absurd (false≢true v)
compared_number (n ∷ ns) (c ∷ cs) (d ∷ ds) w v =
    let rest = compared_number ns cs ds (within-head n c ns cs w).1 (within-head n d ns ds v).1 in
    let less = first-less n c d ns cs ds w in
    let more = first-less n d c ns ds cs v in
    grind (arith, nat_tests)

one_more : (m n : ℕ) → leb m n ≡ leb (m + 1) (n + 1)
one_more m n = grind (arith, nat_tests)

-- and so their ranks
pub compared_rank : (ns cs ds : List ℕ) → within ns cs ≡ true → within ns ds ≡ true → is_some_and is_le (slice_partial_cmp (as_partial_cmp nat_cmp) cs ds) ≡ leb (number ns cs + 1) (number ns ds + 1)
compared_rank ns cs ds w v = compared_number ns cs ds w v ∙ one_more (number ns cs) (number ns ds)

-- the rank of a memory is one more than its number
pub memory-rank : (ns : List ℕ) (x : Reading (List ℕ)) → CountsAsMemory ns x → rank_in (spread ns) (number ns) (counts_as ns x) ≡ number ns x.content + 1
memory-rank ns x m = rw (m.0, m.1) refl

-- two memories are ordered by the first counter that differs
pub ordered_by_first : (ns : List ℕ) (x y : Reading (List ℕ)) (r : Bool) → r ≡ leb (rank_in (spread ns) (number ns) (counts_as ns x)) (rank_in (spread ns) (number ns) (counts_as ns y)) → CountsAsMemory ns x → CountsAsMemory ns y → Decides r ((x.content ≡ y.content) ⊎ Smaller x.content y.content)
ordered_by_first ns x y r e m k =
    let a = memory-rank ns x m in
    let b = memory-rank ns y k in
    Decides-at r (leb (number ns x.content) (number ns y.content)) (e ∙ (λ i. leb (a i) (b i)) ∙ sym (one_more (number ns x.content) (number ns y.content))) (order_decides ns x.content y.content m.1 k.1)
