-- Loops that form each in turn: what is done, and what is left.
use Rattle.std.proofs.Common.{◌≡◌, ℕ, ◌+◌, ◌<◌, ◌≤◌, refl, sym, ap, ◌∙◌, arith, List, [], ◌∷◌, ◌++◌, append_assoc, length, get_or, set, take, drop, Result, Ok, Err, drop-cons}
use Prim.Native.Nat.{zero, suc}
use Rattle.std.proofs.lemmas.List.{take_more_set, drop-set-lt}
use Rattle.tetri_algebra.specs.Rational.{ℚ}
use Rattle.tetri_algebra.specs.RationalRing.{zero_ℚ}
use Rattle.tetri_num.specs.declared.places.Place.{Place}
use Rattle.tetri_dictionary.specs.Steps.{each, each_pair}
use Rattle.tetri_base.specs.ResultSteps.{then_ok}

-- what is left, behind what was formed
abbrev pub onto : {A : Type 0} → List A → Result (List A) Place → Result (List A) Place
onto ys r = then_ok r (λ zs. Ok (ys ++ zs))

pub onto_nil : {A : Type 0} → (r : Result (List A) Place) → onto [] r ≡ r
onto_nil (Ok x) = refl
onto_nil (Err e) = refl

pub then_ok_is : {A B : Type 0} → (o : Result A Place) (f : A → Result B Place) (y : B) → then_ok o f ≡ Ok y → (x : A) × (o ≡ Ok x) × (f x ≡ Ok y)
then_ok_is (Ok x) f y e = (x, refl, e)
then_ok_is (Err p) f y e = cc

pub onto_more : {A : Type 0} → (ys : List A) (y : A) (r : Result (List A) Place) → onto ys (then_ok r (λ zs. Ok (y ∷ zs))) ≡ onto (ys ++ (y ∷ [])) r
onto_more ys y (Ok zs) = ap Ok (sym (append_assoc ys (y ∷ []) zs))
onto_more ys y (Err e) = refl

append_nil : {B : Type 0} → (ys : List B) → ys ++ [] ≡ ys
append_nil [] = refl
append_nil (y ∷ ys) = ap (λ zs. y ∷ zs) (append_nil ys)

pub drop_past : {A : Type 0} → (k : ℕ) (xs : List A) → length xs ≤ k → drop k xs ≡ []
drop_past zero [] h = refl
drop_past zero (x ∷ xs) h = absurd (omega arith)
drop_past (suc k) [] h = refl
drop_past (suc k) (x ∷ xs) h = drop_past k xs (omega arith)

pub take_all : {A : Type 0} → (k : ℕ) (xs : List A) → length xs ≤ k → take k xs ≡ xs
take_all zero [] h = refl
take_all zero (x ∷ xs) h = absurd (omega arith)
take_all (suc k) [] h = refl
take_all (suc k) (x ∷ xs) h = ap (λ ys. x ∷ ys) (take_all k xs (omega arith))

-- ---- over one list
pub each_next : {A B : Type 0} → (f : ℕ → A → Result B Place) (k : ℕ) (xs : List A) (d : A) (done : List B) (y : B) → k < length xs → f k (get_or xs k d) ≡ Ok y →
    onto done (each f k (drop k xs)) ≡ onto (done ++ (y ∷ [])) (each f (k + 1) (drop (k + 1) xs))
each_next f k xs d done y h e =
    let s : suc k ≡ k + 1 = omega arith in
    ap (λ zs. onto done (each f k zs)) (drop-cons xs k d h)
    ∙ ap (λ o. onto done (then_ok o (λ w. then_ok (each f (k + 1) (drop (suc k) xs)) (λ zs. Ok (w ∷ zs))))) e
    ∙ onto_more done y (each f (k + 1) (drop (suc k) xs))
    ∙ ap (λ j. onto (done ++ (y ∷ [])) (each f (k + 1) (drop j xs))) s

pub each_stop : {A B : Type 0} → (f : ℕ → A → Result B Place) (k : ℕ) (xs : List A) (d : A) (done : List B) (e : Place) → k < length xs → f k (get_or xs k d) ≡ Err e →
    onto done (each f k (drop k xs)) ≡ Err e
each_stop f k xs d done e h q =
    ap (λ zs. onto done (each f k zs)) (drop-cons xs k d h)
    ∙ ap (λ o. onto done (then_ok o (λ w. then_ok (each f (k + 1) (drop (suc k) xs)) (λ zs. Ok (w ∷ zs))))) q

pub each_done : {A B : Type 0} → (f : ℕ → A → Result B Place) (k : ℕ) (xs : List A) (done : List B) → length xs ≤ k → onto done (each f k (drop k xs)) ≡ Ok done
each_done f k xs done h = ap (λ zs. onto done (each f k zs)) (drop_past k xs h) ∙ ap Ok (append_nil done)

pub each_length : {A B : Type 0} → (f : ℕ → A → Result B Place) (k : ℕ) (xs : List A) (ys : List B) → each f k xs ≡ Ok ys → length ys ≡ length xs
each_length f k [] ys e = let s : [] ≡ ys = cc in ap length (sym s)
each_length f k (x ∷ xs) ys e =
    let a = then_ok_is (f k x) _ ys e in
    let b = then_ok_is (each f (k + 1) xs) _ ys a.2 in
    let s : (a.0 ∷ b.0) ≡ ys = cc in
    ap length (sym s) ∙ ap suc (each_length f (k + 1) xs b.0 b.1)

-- ---- over two rows of one length
pub each_pair_next : (f : ℕ → ℚ → ℚ → Result ℚ Place) (k : ℕ) (xs ys : List ℚ) (done : List ℚ) (z : ℚ) → k < length xs → k < length ys → f k (get_or xs k zero_ℚ) (get_or ys k zero_ℚ) ≡ Ok z →
    onto done (each_pair f k (drop k xs) (drop k ys)) ≡ onto (done ++ (z ∷ [])) (each_pair f (k + 1) (drop (k + 1) xs) (drop (k + 1) ys))
each_pair_next f k xs ys done z h g e =
    let s : suc k ≡ k + 1 = omega arith in
    ap (λ us. onto done (each_pair f k us (drop k ys))) (drop-cons xs k zero_ℚ h)
    ∙ ap (λ us. onto done (each_pair f k (get_or xs k zero_ℚ ∷ drop (suc k) xs) us)) (drop-cons ys k zero_ℚ g)
    ∙ ap (λ o. onto done (then_ok o (λ w. then_ok (each_pair f (k + 1) (drop (suc k) xs) (drop (suc k) ys)) (λ zs. Ok (w ∷ zs))))) e
    ∙ onto_more done z (each_pair f (k + 1) (drop (suc k) xs) (drop (suc k) ys))
    ∙ ap (λ j. onto (done ++ (z ∷ [])) (each_pair f (k + 1) (drop j xs) (drop j ys))) s

pub each_pair_stop : (f : ℕ → ℚ → ℚ → Result ℚ Place) (k : ℕ) (xs ys : List ℚ) (done : List ℚ) (e : Place) → k < length xs → k < length ys → f k (get_or xs k zero_ℚ) (get_or ys k zero_ℚ) ≡ Err e →
    onto done (each_pair f k (drop k xs) (drop k ys)) ≡ Err e
each_pair_stop f k xs ys done e h g q =
    ap (λ us. onto done (each_pair f k us (drop k ys))) (drop-cons xs k zero_ℚ h)
    ∙ ap (λ us. onto done (each_pair f k (get_or xs k zero_ℚ ∷ drop (suc k) xs) us)) (drop-cons ys k zero_ℚ g)
    ∙ ap (λ o. onto done (then_ok o (λ w. then_ok (each_pair f (k + 1) (drop (suc k) xs) (drop (suc k) ys)) (λ zs. Ok (w ∷ zs))))) q

pub each_pair_done : (f : ℕ → ℚ → ℚ → Result ℚ Place) (k : ℕ) (xs ys : List ℚ) (done : List ℚ) → length xs ≤ k → length ys ≤ k → onto done (each_pair f k (drop k xs) (drop k ys)) ≡ Ok done
each_pair_done f k xs ys done h g = ap (λ us. onto done (each_pair f k us (drop k ys))) (drop_past k xs h) ∙ ap (λ us. onto done (each_pair f k [] us)) (drop_past k ys g) ∙ ap Ok (append_nil done)

-- in place: the new number stands where the old one stood
pub each_pair_set : (f : ℕ → ℚ → ℚ → Result ℚ Place) (k : ℕ) (xs ys : List ℚ) (z : ℚ) → k < length xs → k < length ys → f k (get_or xs k zero_ℚ) (get_or ys k zero_ℚ) ≡ Ok z →
    onto (take k xs) (each_pair f k (drop k xs) (drop k ys)) ≡ onto (take (k + 1) (set xs k z)) (each_pair f (k + 1) (drop (k + 1) (set xs k z)) (drop (k + 1) ys))
each_pair_set f k xs ys z h g e =
    let l : k < k + 1 = omega arith in
    each_pair_next f k xs ys (take k xs) z h g e
    ∙ ap (λ zs. onto zs (each_pair f (k + 1) (drop (k + 1) xs) (drop (k + 1) ys))) (sym (take_more_set xs k z h))
    ∙ ap (λ zs. onto (take (k + 1) (set xs k z)) (each_pair f (k + 1) zs (drop (k + 1) ys))) (sym (drop-set-lt (k + 1) xs k z l))
