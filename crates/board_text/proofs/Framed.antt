-- Lines: what a frame with its LF is read as, and what was read as a frame.
use Rattle.std.proofs.Common.{◌≡◌, ℕ, zero, suc, ◌+◌, ◌<◌, ◌≤◌, Bool, true, false, not, cond, eqb, ltb, List, [], ◌∷◌, ◌++◌, length, take, drop, Ok, Err, Result, sym, refl, ap, ◌∙◌, subst, add-one, arith}
use Rattle.std.proofs.lemmas.List.{length-append, take_at, drop_at, drop-drop}
use Rattle.std.proofs.lemmas.Bool.{and_parts, cond-true, ltb-true, lt-ltb}
use Rattle.std.proofs.lemmas.Bool.Decides.{nat_tests}
use Rattle.board_text.specs.Digits.{is_digit, all_digits}
use Rattle.board_text.specs.Verdict.{Fault, and_then, line_end, is_frame, next_line}

-- where nothing was refused, what comes next decides
pub goes_on : {A B : Type 0} (r : Result A Fault) (f : A → Result B Fault) (a : A) → r ≡ Ok a → and_then r f ≡ f a
goes_on r f a e = ap (λ (x : Result _ Fault). and_then x f) e

-- and where something was refused, that is the end
pub stops : {A B : Type 0} (r : Result A Fault) (f : A → Result B Fault) (e : Fault) → r ≡ Err e → and_then r f ≡ Err e
stops r f e h = ap (λ (x : Result _ Fault). and_then x f) h

-- where all was well, the first step was and so was what came next
pub went_on : {A B : Type 0} (r : Result A Fault) (f : A → Result B Fault) (b : B) → and_then r f ≡ Ok b → (a : A) × (r ≡ Ok a) × (f a ≡ Ok b)
went_on (Ok a) f b h = (a, refl, h)
went_on (Err e) f b h = cc

-- where a test with a fault was passed, it holds
pub passed : {A : Type 0} (t : Bool) (r : Result A Fault) (e : Fault) (a : A) → cond t r (Err e) ≡ Ok a → (t ≡ true) × (r ≡ Ok a)
passed true r e a h = (refl, h)
passed false r e a h = cc

-- a digit is no LF
not_lf : (c : ℕ) → is_digit c ≡ true → eqb c 10 ≡ false
not_lf c h = grind (arith, nat_tests)

-- a line of digits ends at its LF
line_end-at : (l r : List ℕ) → all_digits l ≡ true → line_end (l ++ 10 ∷ r) ≡ length l
line_end-at [] r h = refl
line_end-at (c ∷ cs) r h =
    let p = and_parts (is_digit c) (all_digits cs) h in
    let more = line_end-at cs r p.1 in
    cond-true (not (eqb c 10)) (1 + line_end (cs ++ 10 ∷ r)) 0 (ap not (not_lf c p.0)) ∙ omega arith

-- a frame with its LF is read as that frame
pub frame_read : (line : ℕ) (l r : List ℕ) → is_frame l ≡ true → next_line line (l ++ 10 ∷ r) ≡ Ok (l, r)
frame_read line l r h =
    let rest : drop (length l + 1) (l ++ 10 ∷ r) ≡ r = sym (drop-drop 1 (length l) (l ++ 10 ∷ r)) ∙ ap (drop 1) (drop_at l (10 ∷ r) (length l) refl) in
    rw (line_end-at l r (and_parts (all_digits l) _ h).0, take_at l (10 ∷ r) (length l) refl, rest)
    (cond-true _ _ _ (lt-ltb (length l) (length (l ++ 10 ∷ r)) (simp length-append (omega arith))) ∙ cond-true _ _ _ h)

-- a text with an LF is what stands before its first LF, that LF and what stands after it
line-split : (e : ℕ) (t : List ℕ) → e ≡ line_end t → e < length t → t ≡ take e t ++ 10 ∷ drop (suc e) t
line-split e [] p lt = absurd (omega arith)
line-split zero (c ∷ cs) p lt = let lf : c ≡ 10 = grind (arith, nat_tests) in ap (λ (x : ℕ). x ∷ cs) lf
line-split (suc e) (c ∷ cs) p lt =
    let q : e ≡ line_end cs = grind (arith, nat_tests) in ap (λ (l : List ℕ). c ∷ l) (line-split e cs q (omega arith))

-- what was read as a frame is one, and stands there with its LF
pub read_frame : (line : ℕ) (t : List ℕ) (p : List ℕ × List ℕ) → next_line line t ≡ Ok p → (t ≡ p.0 ++ 10 ∷ p.1) × (is_frame p.0 ≡ true)
read_frame line t p h =
    let ends = passed (ltb (line_end t) (length t)) _ _ p h in
    let framed = passed (is_frame (take (line_end t) t)) _ _ p ends.1 in
    let same : (take (line_end t) t, drop (line_end t + 1) t) ≡ p = cc framed.1 in
    subst (λ (q : List ℕ × List ℕ). (t ≡ q.0 ++ 10 ∷ q.1) × (is_frame q.0 ≡ true)) same
    (rw add-one (line-split (line_end t) t refl (ltb-true _ _ ends.0)), framed.0)

-- a line of at least six bytes, byte by byte
pub by_six : (P : List ℕ → Type 0) → ((a b c d e f : ℕ) (rest : List ℕ) → P (a ∷ b ∷ c ∷ d ∷ e ∷ f ∷ rest)) → (l : List ℕ) → 6 ≤ length l → P l
by_six P all [] long = absurd (omega arith)
by_six P all (a ∷ []) long = absurd (omega arith)
by_six P all (a ∷ b ∷ []) long = absurd (omega arith)
by_six P all (a ∷ b ∷ c ∷ []) long = absurd (omega arith)
by_six P all (a ∷ b ∷ c ∷ d ∷ []) long = absurd (omega arith)
by_six P all (a ∷ b ∷ c ∷ d ∷ e ∷ []) long = absurd (omega arith)
by_six P all (a ∷ b ∷ c ∷ d ∷ e ∷ f ∷ rest) long = all a b c d e f rest
