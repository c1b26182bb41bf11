-- A panel that is asked and taught, seat by seat.
use Rattle.std.proofs.Common.{◌≡◌, ℕ, ◌+◌, ◌-◌, ◌<◌, ◌^◌, min, refl, sym, ap, ◌∙◌, subst, arith, List, [], ◌∷◌, ◌++◌, length, get_or, take, drop, set, map, count_by, not, Bool, true, false, cond}
use Prim.Native.Nat.{zero, suc}
use Rattle.std.proofs.lemmas.List.{take_more, take-set, drop-set-lt, map-append, take_more_set, length-take-le}
use Rattle.std.proofs.lemmas.Grind.{common_steps}
use Rattle.std.proofs.lemmas.List.Sums.{sum_by-append}
use Rattle.tetri_strl.specs.declared.grants.Grant.{Grant}
use Rattle.tetri_advice.specs.declared.seated.Verdict.TheVariants.{Missed, Given, Struck, Out}
use Rattle.tetri_advice.specs.Verdict.{Judged}
use Rattle.tetri_space.specs.Space.{Space}
use Rattle.tetri_advice.specs.Seat.{Seat}
use Rattle.std.proofs.Math.Seq.{drop-cons}
use Rattle.tetri_advice.specs.Asked.{Asked, gave, struck, left, missed, Learned, Taught}

-- the rests of two lists are one list: then so are their first elements, and the rests after those
first_of_rests : {S : Type 0} → (old now : List S) (k p : ℕ) (d : S) → drop p now ≡ drop k old → k < length old → p < length now → (get_or now p d ≡ get_or old k d) × (drop (p + 1) now ≡ drop (k + 1) old)
first_of_rests old now k p d e h l =
    let a = drop-cons old k d h in
    let b = drop-cons now p d l in
    let s : suc k ≡ k + 1 = omega arith in
    let t : suc p ≡ p + 1 = omega arith in
    (cc, cc)

-- one advisor more was asked, and stays or has left
old_more : {S : Type 0} → (f : S → Seat) (old now : List S) (k p : ℕ) (x : S) → drop p now ≡ drop k old → k < length old → p < length now → x ≡ get_or now p x →
    map f (take (k + 1) old) ≡ map f (take k old) ++ f x ∷ []
old_more f old now k p x r kl pl xe =
    let q = first_of_rests old now k p x r kl pl in
    ap (map f) (take_more old k x kl ∙ ap (λ z. take k old ++ z ∷ []) (sym q.0 ∙ sym xe)) ∙ map-append f (take k old) (x ∷ [])

now_more : {S : Type 0} → (f : S → Seat) (now now' : List S) (p : ℕ) (y : S) → p < length now → now' ≡ set now p y → map f (take (p + 1) now') ≡ map f (take p now) ++ f y ∷ []
now_more f now now' p y pl e = ap (λ z. map f (take (p + 1) z)) e ∙ ap (map f) (take_more_set now p y pl) ∙ map-append f (take p now) (y ∷ [])

now_less : {S : Type 0} → (f : S → Seat) (now now' : List S) (p : ℕ) (y : S) → p < length now → now' ≡ take p (set now p y) ++ drop (p + 1) (set now p y) →
    map f (take p now') ≡ map f (take p now)
now_less f now now' p y pl e =
    let fe : now' ≡ take p now ++ drop (p + 1) now = e ∙ ap (λ z. z ++ drop (p + 1) (set now p y)) (take-set now p y) ∙ ap (λ z. take p now ++ z) (drop-set-lt (p + 1) now p y (omega arith)) in
    ap (map f) (ap (λ z. take p z) fe ∙ take_front (take p now) (drop (p + 1) now) p (length-take-le p now (omega arith)))
  where
    take_front : {S : Type 0} → (a b : List S) (p : ℕ) → length a ≡ p → take p (a ++ b) ≡ a
    take_front a b p e = grind (arith, common_steps)

pub asked_given : {S : Type 0} → (f : S → Seat) (n : Space) (old now now' : List S) (k p : ℕ) (hs hs' : List Bool) (gs gs' : List (List Grant)) (x y : S) (said : List Grant) →
    Asked n (map f (take k old)) hs gs (map f (take p now)) → drop p now ≡ drop k old → k < length old → p < length now →
    x ≡ get_or now p x → now' ≡ set now p y → hs' ≡ hs ++ true ∷ [] → gs' ≡ gs ++ said ∷ [] → Judged n (f x) (Given said) (f y) →
    Asked n (map f (take (k + 1) old)) hs' gs' (map f (take (p + 1) now'))
asked_given f n old now now' k p hs hs' gs gs' x y said q r kl pl xe e he ge j =
    let one_more : gs' ≡ gs ++ (f x).says n ∷ [] = ge ∙ ap (λ z. gs ++ z ∷ []) j.verdict.0 in
    rw (old_more f old now k p x r kl pl xe, now_more f now now' p y pl e, he, one_more) (gave _ _ _ _ (f x) (f y) q j.stays j.verdict.1 j.verdict.2)

pub asked_struck : {S : Type 0} → (f : S → Seat) (n : Space) (old now now' : List S) (k p : ℕ) (hs hs' : List Bool) (gs : List (List Grant)) (x y : S) →
    Asked n (map f (take k old)) hs gs (map f (take p now)) → drop p now ≡ drop k old → k < length old → p < length now →
    x ≡ get_or now p x → now' ≡ set now p y → hs' ≡ hs ++ true ∷ [] → Judged n (f x) Struck (f y) → Asked n (map f (take (k + 1) old)) hs' gs (map f (take (p + 1) now'))
asked_struck f n old now now' k p hs hs' gs x y q r kl pl xe e he j =
    rw (old_more f old now k p x r kl pl xe, now_more f now now' p y pl e, he) (struck _ _ _ _ (f x) (f y) q j.stays j.verdict.0 j.verdict.1 j.verdict.2)

pub asked_missed : {S : Type 0} → (f : S → Seat) (n : Space) (old now now' : List S) (k p : ℕ) (hs hs' : List Bool) (gs : List (List Grant)) (x y : S) →
    Asked n (map f (take k old)) hs gs (map f (take p now)) → drop p now ≡ drop k old → k < length old → p < length now →
    x ≡ get_or now p x → now' ≡ set now p y → hs' ≡ hs ++ false ∷ [] → Judged n (f x) Missed (f y) → Asked n (map f (take (k + 1) old)) hs' gs (map f (take (p + 1) now'))
asked_missed f n old now now' k p hs hs' gs x y q r kl pl xe e he j =
    rw (old_more f old now k p x r kl pl xe, now_more f now now' p y pl e, he) (missed _ _ _ _ (f x) (f y) q j.stays j.verdict.0 j.verdict.1)

pub asked_out : {S : Type 0} → (f : S → Seat) (n : Space) (old now now' : List S) (k p : ℕ) (hs hs' : List Bool) (gs : List (List Grant)) (x y : S) →
    Asked n (map f (take k old)) hs gs (map f (take p now)) → drop p now ≡ drop k old → k < length old → p < length now →
    x ≡ get_or now p x → now' ≡ take p (set now p y) ++ drop (p + 1) (set now p y) → hs' ≡ hs ++ true ∷ [] → Judged n (f x) Out (f y) →
    Asked n (map f (take (k + 1) old)) hs' gs (map f (take p now'))
asked_out f n old now now' k p hs hs' gs x y q r kl pl xe e he j =
    rw (old_more f old now k p x r kl pl xe, now_less f now now' p y pl e, he) (left _ _ _ _ (f x) q j.stays.told j.verdict.0 j.verdict.1)

pub rest_stays : {S : Type 0} → (old now now' : List S) (k p : ℕ) (x y : S) →
    drop p now ≡ drop k old → k < length old → p < length now → now' ≡ set now p y → drop (p + 1) now' ≡ drop (k + 1) old
rest_stays old now now' k p x y r kl pl e =
    let q = first_of_rests old now k p x r kl pl in
    ap (λ z. drop (p + 1) z) e ∙ drop-set-lt (p + 1) now p y (omega arith) ∙ q.1

pub rest_leaves : {S : Type 0} → (old now now' : List S) (k p : ℕ) (x y : S) →
    drop p now ≡ drop k old → k < length old → p < length now → now' ≡ take p (set now p y) ++ drop (p + 1) (set now p y) → drop p now' ≡ drop (k + 1) old
rest_leaves old now now' k p x y r kl pl e =
    let q = first_of_rests old now k p x r kl pl in
    let l : length (take p (set now p y)) ≡ p = ap length (take-set now p y) ∙ length-take-le p now (omega arith) in
    ap (λ z. drop p z) e ∙ drop_front (take p (set now p y)) (drop (p + 1) (set now p y)) p l ∙ drop-set-lt (p + 1) now p y (omega arith) ∙ q.1
  where
    drop_front : {S : Type 0} → (a b : List S) (p : ℕ) → length a ≡ p → drop p (a ++ b) ≡ b
    drop_front a b p e = grind (arith, common_steps)

pub count_by-push : (p : Bool → Bool) (hs : List Bool) (h : Bool) → count_by p (hs ++ h ∷ []) ≡ count_by p hs + cond (p h) 1 0
count_by-push p hs h = let e = sum_by-append (λ x. cond (p x) 1 0) hs (h ∷ []) in omega (arith, e)

-- the panel's count
pub missed_heard : (m0 m m' : ℕ) (hs hs' : List Bool) (top : ℕ) → m ≡ min (m0 + count_by not hs) top → m' ≡ m → hs' ≡ hs ++ true ∷ [] → m' ≡ min (m0 + count_by not hs') top
missed_heard m0 m m' hs hs' top e f h = let c = count_by-push not hs true in rw h (omega (arith, c))

pub missed_unheard : (m0 m m' : ℕ) (hs hs' : List Bool) (top : ℕ) → m ≡ min (m0 + count_by not hs) top → m' ≡ min (m + 1) top → hs' ≡ hs ++ false ∷ [] → m' ≡ min (m0 + count_by not hs') top
missed_unheard m0 m m' hs hs' top e f h = let c = count_by-push not hs false in rw h (omega (arith, c))

pub missed_none : (m0 : ℕ) (hs : List Bool) → m0 < 2 ^ 64 → hs ≡ [] → m0 ≡ min (m0 + count_by not hs) (2 ^ 64 - 1)
missed_none m0 hs l e = rw e (omega arith)

-- ---- teaching
taught_itself : (ss : List Seat) → Taught ss ss
taught_itself [] = tt
taught_itself (s ∷ ss) = (record { strikes = refl; creed = refl; later = omega arith }, taught_itself ss)

taught_twice : (rs ss ts : List Seat) → Taught rs ss → Taught ss ts → Taught rs ts
taught_twice [] [] [] a b = tt
taught_twice [] [] (t ∷ ts) a b = b
taught_twice [] (s ∷ ss) ts a b = absurd a
taught_twice (r ∷ rs) [] ts a b = absurd a
taught_twice (r ∷ rs) (s ∷ ss) [] a b = b
taught_twice (r ∷ rs) (s ∷ ss) (t ∷ ts) a b =
    (record { strikes = b.0.strikes ∙ a.0.strikes; creed = b.0.creed ∙ a.0.creed; later = omega (arith, a.0.later, b.0.later) }, taught_twice rs ss ts a.1 b.1)

-- one more advisor has learned
taught_at : {S : Type 0} → (f : S → Seat) (xs : List S) (i : ℕ) (x y : S) → x ≡ get_or xs i x → Learned (f x) (f y) → i < length xs → Taught (map f xs) (map f (set xs i y))
taught_at f [] i x y e h l = absurd (omega arith)
taught_at f (z ∷ zs) zero x y e h l = (subst (λ w. Learned (f w) (f y)) e h, taught_itself (map f zs))
taught_at f (z ∷ zs) (suc i) x y e h l = (record { strikes = refl; creed = refl; later = omega arith }, taught_at f zs i x y e h (omega arith))

pub taught_more : {S : Type 0} → (f : S → Seat) (old xs : List S) (i : ℕ) (x y : S) → Taught (map f old) (map f xs) → x ≡ get_or xs i x → Learned (f x) (f y) → i < length xs →
    Taught (map f old) (map f (set xs i y))
taught_more f old xs i x y a e h l = taught_twice (map f old) (map f xs) (map f (set xs i y)) a (taught_at f xs i x y e h l)

pub taught_first : {S : Type 0} → (f : S → Seat) (xs : List S) → Taught (map f xs) (map f xs)
taught_first f xs = taught_itself (map f xs)

-- ---- strikes
pub strikes_at : {S : Type 0} → (f : S → Seat) (xs : List S) (i : ℕ) (x : S) → i < length (map f xs) → x ≡ get_or xs i x →
    (f x).strikes ≡ get_or (map (λ (a : Seat). a.strikes) (map f xs)) i 0
strikes_at f [] i x lt is = absurd (omega (arith, lt))
strikes_at f (y ∷ ys) zero x lt is = ap (λ z. (f z).strikes) is
strikes_at f (y ∷ ys) (suc i) x lt is = strikes_at f ys i x (omega (arith, lt)) is
