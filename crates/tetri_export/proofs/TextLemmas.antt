-- Texts that grow place by place.
use Rattle.std.proofs.Common.{◌≡◌, ℕ, ◌+◌, ◌<◌, ◌++◌, List, [], ◌∷◌, length, get_or, map, zero, suc, sym, ap, ◌∙◌, append_assoc, arith}
use Rattle.std.specs.Prelude.{flat_map, slice_index_or}
use Rattle.std.specs.List.{range_with_len}
use Rattle.tetri_base.proofs.ListLaws.{flat_map-next}

-- the text of one more place
pub text_next : {A : Type 0} (f : ℕ → List A) (k : ℕ) (before old new piece : List A) → old ≡ before ++ flat_map f (range_with_len 0 k) → new ≡ old ++ piece → piece ≡ f k →
    new ≡ before ++ flat_map f (range_with_len 0 (k + 1))
text_next f k before old new piece was grew is =
    grew ∙ ap (λ xs. xs ++ piece) was ∙ append_assoc before (flat_map f (range_with_len 0 k)) piece
    ∙ ap (λ xs. before ++ (flat_map f (range_with_len 0 k) ++ xs)) is
    ∙ ap (λ xs. before ++ xs) (sym (flat_map-next f k))

-- what a list has at a place, mapped
pub at_map : {A B : Type 0} (f : A → B) (d : B) (xs : List A) (k : ℕ) (x : A) → k < length xs → x ≡ get_or xs k x → slice_index_or (map f xs) k d ≡ f x
at_map f d [] k x lt is = absurd (omega (arith, lt))
at_map f d (y ∷ ys) zero x lt is = ap f (sym is)
at_map f d (y ∷ ys) (suc k) x lt is = at_map f d ys k x (omega (arith, lt)) is

-- two texts, one after the other
pub after : {A : Type 0} (start middle new first second : List A) → middle ≡ start ++ first → new ≡ middle ++ second → new ≡ start ++ (first ++ second)
after start middle new first second e f = f ∙ ap (λ xs. xs ++ second) e ∙ append_assoc start first second
