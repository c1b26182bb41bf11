-- What stands between bytes of a kind, byte by byte.
use Rattle.std.proofs.Common.{◌≡◌, ◌+◌, ◌-◌, ◌<◌, ◌≤◌, ◌∙◌, ℕ, List, Bool, true, false, [], ◌∷◌, ◌++◌, length, take, drop, get_or, cond, refl, ap, sym, arith, tests, append_assoc}
use Rattle.std.specs.List.{slice_split, slice_range, onto_first, filter}
use Rattle.std.specs.Prelude.{◌==◌, not}
use Rattle.std.proofs.lemmas.List.{append-nil, drop_more, take_more, get_or-drop, length-drop, length-take-le}
use Rattle.std.proofs.lemmas.List.Splits.{length-slice_split}

-- the parts of what is left, behind the first bytes of a part
abbrev pub parts_from : (ℕ → Bool) → List ℕ → List ℕ → List (List ℕ)
parts_from p part [] = part ∷ []
parts_from p part (b ∷ bs) = cond (p b) (part ∷ parts_from p [] bs) (parts_from p (part ++ b ∷ []) bs)

-- parts with bytes before the first
abbrev onto : List ℕ → List (List ℕ) → List (List ℕ)
onto part [] = part ∷ []
onto part (q ∷ qs) = (part ++ q) ∷ qs

onto-nil : (ps : List (List ℕ)) → 0 < length ps → onto [] ps ≡ ps
onto-nil [] some = absurd (omega arith)
onto-nil (q ∷ qs) some = refl

onto-first : (part : List ℕ) (b : ℕ) (ps : List (List ℕ)) → onto part (onto_first b ps) ≡ onto (part ++ b ∷ []) ps
onto-first part b [] = refl
onto-first part b (q ∷ qs) = ap (λ x. x ∷ qs) (sym (append_assoc part (b ∷ []) q))

parts_by : (p : ℕ → Bool) (part bs : List ℕ) (b : ℕ) (t : Bool) → parts_from p [] bs ≡ slice_split p bs → parts_from p (part ++ b ∷ []) bs ≡ onto (part ++ b ∷ []) (slice_split p bs)
    → cond t (part ∷ parts_from p [] bs) (parts_from p (part ++ b ∷ []) bs) ≡ onto part (cond t ([] ∷ slice_split p bs) (onto_first b (slice_split p bs)))
parts_by p part bs b true alone more = ap (λ ps. part ∷ ps) alone ∙ ap (λ x. x ∷ slice_split p bs) (sym (append-nil part))
parts_by p part bs b false alone more = more ∙ sym (onto-first part b (slice_split p bs))

parts_onto : (p : ℕ → Bool) (part bs : List ℕ) → parts_from p part bs ≡ onto part (slice_split p bs)
parts_onto p part [] = ap (λ x. x ∷ []) (sym (append-nil part))
parts_onto p part (b ∷ bs) =
    parts_by p part bs b (p b) (parts_onto p [] bs ∙ onto-nil (slice_split p bs) (omega (arith, length-slice_split p bs))) (parts_onto p (part ++ b ∷ []) bs)

-- from the first byte on, these are all parts
pub parts_from-start : (p : ℕ → Bool) (bs : List ℕ) → parts_from p [] bs ≡ slice_split p bs
parts_from-start p bs = parts_onto p [] bs ∙ onto-nil (slice_split p bs) (omega (arith, length-slice_split p bs))

-- what stands from one place to another, one byte on
pub range_more : (xs : List ℕ) (from i : ℕ) → from ≤ i → i < length xs → slice_range xs from (i + 1) ≡ slice_range xs from i ++ get_or xs i 0 ∷ []
range_more xs from i order inside =
    let room : i - from < length (drop from xs) = omega (arith, length-drop from xs) in
    let one : i + 1 - from ≡ i - from + 1 = omega arith in
    let at : from + (i - from) ≡ i = omega arith in
    ap (λ n. take n (drop from xs)) one
    ∙ take_more (drop from xs) (i - from) 0 room
    ∙ ap (λ b. slice_range xs from i ++ b ∷ []) (get_or-drop from xs (i - from) 0 ∙ ap (λ n. get_or xs n 0) at)

-- a byte that parts nothing belongs to the part
pub parts_from-same : (p : ℕ → Bool) (xs : List ℕ) (from i : ℕ) → from ≤ i → i < length xs → p (get_or xs i 0) ≡ false
    → parts_from p (slice_range xs from i) (drop i xs) ≡ parts_from p (slice_range xs from (i + 1)) (drop (i + 1) xs)
parts_from-same p xs from i order inside same =
    let part = slice_range xs from i in
    let rest = drop (i + 1) xs in
    let b = get_or xs i 0 in
    ap (parts_from p part) (drop_more xs i 0 inside)
    ∙ ap (λ t. cond t (part ∷ parts_from p [] rest) (parts_from p (part ++ b ∷ []) rest)) same
    ∙ ap (λ x. parts_from p x rest) (sym (range_more xs from i order inside))

-- a byte that parts ends it
pub parts_from-next : (p : ℕ → Bool) (xs : List ℕ) (from i : ℕ) → i < length xs → p (get_or xs i 0) ≡ true
    → parts_from p (slice_range xs from i) (drop i xs) ≡ slice_range xs from i ∷ parts_from p (slice_range xs (i + 1) (i + 1)) (drop (i + 1) xs)
parts_from-next p xs from i inside parts =
    let part = slice_range xs from i in
    let rest = drop (i + 1) xs in
    let b = get_or xs i 0 in
    let none : i + 1 - (i + 1) ≡ 0 = omega arith in
    ap (parts_from p part) (drop_more xs i 0 inside)
    ∙ ap (λ t. cond t (part ∷ parts_from p [] rest) (parts_from p (part ++ b ∷ []) rest)) parts
    ∙ ap (λ n. part ∷ parts_from p (take n (drop (i + 1) xs)) rest) (sym none)

-- how long it is
pub length-range : (xs : List ℕ) (from i : ℕ) → from ≤ i → i ≤ length xs → length (slice_range xs from i) ≡ i - from
length-range xs from i order inside = length-take-le (i - from) (drop from xs) (omega (arith, length-drop from xs))

-- a part with bytes is a word, and one without is none
not_none : (n : ℕ) → 0 < n → (n == 0) ≡ false
not_none n some = grind (arith, tests)

pub word_kept : (before rest : List (List ℕ)) (part : List ℕ) → 0 < length part
    → (before ++ part ∷ []) ++ filter (λ word. not (length word == 0)) rest ≡ before ++ filter (λ word. not (length word == 0)) (part ∷ rest)
word_kept before rest [] some = absurd (omega arith)
word_kept before rest (b ∷ bs) some =
    let part = b ∷ bs in
    let words = filter (λ word. not (length word == 0)) rest in
    append_assoc before (part ∷ []) words ∙ ap (λ t. before ++ cond (not t) (part ∷ words) words) (sym (not_none (length part) some))

pub word_dropped : (before rest : List (List ℕ)) (part : List ℕ) → length part ≡ 0
    → before ++ filter (λ word. not (length word == 0)) rest ≡ before ++ filter (λ word. not (length word == 0)) (part ∷ rest)
word_dropped before rest [] none = refl
word_dropped before rest (b ∷ bs) none = absurd (omega (arith, none))
