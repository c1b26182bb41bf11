-- Each in turn, by place.
use Rattle.std.proofs.Common.{◌≡◌, ℕ, ◌+◌, ◌<◌, sym, ap, ◌∙◌, arith, List, [], ◌∷◌, length, get_or, Result, Ok}
use Prim.Native.Nat.{zero, suc}
use Rattle.tetri_num.specs.declared.places.Place.{Place}
use Rattle.tetri_dictionary.proofs.PivotKeeps.{then_ok_pair}
use Rattle.tetri_dictionary.specs.Steps.{each}

pub each_get : {A B : Type 0} → (f : ℕ → A → Result B Place) (k : ℕ) (xs : List A) (ys : List B) (q : ℕ) (d : A) (e : B) → each f k xs ≡ Ok ys → q < length xs → f (k + q) (get_or xs q d) ≡ Ok (get_or ys q e)
each_get {B = B} f k [] ys q d e h l = absurd (omega arith)
each_get {B = B} f k (x ∷ xs) ys q d e h l =
    let a = then_ok_pair (f k x) _ ys h in
    let b = then_ok_pair (each f (k + 1) xs) _ ys a.1.1 in
    let s : (a.0 ∷ b.0) ≡ ys = cc in
    ap_list (a.0 ∷ b.0) s (by_place a.0 b.0 q l a.1.0 (λ p m. each_get f (k + 1) xs b.0 p d e b.1.0 m))
  where
    at_zero : k + 0 ≡ k
    at_zero = omega arith

    at_suc : (p : ℕ) → k + suc p ≡ (k + 1) + p
    at_suc p = omega arith

    ap_list : (zs : List B) → zs ≡ ys → f (k + q) (get_or (x ∷ xs) q d) ≡ Ok (get_or zs q e) → f (k + q) (get_or (x ∷ xs) q d) ≡ Ok (get_or ys q e)
    ap_list zs s g = g ∙ ap (λ zs. Ok (get_or zs q e)) s

    by_place : (y : B) (zs : List B) (q : ℕ) → q < length (x ∷ xs) → f k x ≡ Ok y → ((p : ℕ) → p < length xs → f ((k + 1) + p) (get_or xs p d) ≡ Ok (get_or zs p e)) → f (k + q) (get_or (x ∷ xs) q d) ≡ Ok (get_or (y ∷ zs) q e)
    by_place y zs zero l g ih = ap (λ n. f n x) at_zero ∙ g
    by_place y zs (suc p) l g ih = ap (λ n. f n (get_or xs p d)) (at_suc p) ∙ ih p (omega arith)

pub each_length : {A B : Type 0} → (f : ℕ → A → Result B Place) (k : ℕ) (xs : List A) (ys : List B) → each f k xs ≡ Ok ys → length ys ≡ length xs
each_length f k [] ys e = let s : [] ≡ ys = cc in ap length (sym s)
each_length f k (x ∷ xs) ys e =
    let a = then_ok_pair (f k x) _ ys e in
    let b = then_ok_pair (each f (k + 1) xs) _ ys a.1.1 in
    let s : (a.0 ∷ b.0) ≡ ys = cc in
    ap length (sym s) ∙ ap suc (each_length f (k + 1) xs b.0 b.1.0)
