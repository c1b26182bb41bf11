-- Tests over a list of names and over the vectors that hold them.
use Rattle.std.proofs.Common.{◌≡◌, ℕ, suc, Bool, true, false, ◌||◌, cond, List, [], ◌∷◌, map, length, not, ◌+◌, refl, ap, bytes_eq}
use Rattle.std.specs.Prelude.{position, Vec}
use Rattle.std.specs.declared.alloc.Global.{Global}
use Rattle.std.specs.List.{list_any, position_or_len, IsDistinct, AllByRecursion}
use Rattle.tetri_cluster.specs.Names.{differ, is_among}

pub list_any_map : {X Y : Type 0} (p : Y → Bool) (h : X → Y) (xs : List X) → list_any p (map h xs) ≡ list_any (λ x. p (h x)) xs
list_any_map p h [] = refl
list_any_map p h (x ∷ xs) = ap (λ b. p (h x) || b) (list_any_map p h xs)

position_or_len_map : {X Y : Type 0} (p : Y → Bool) (h : X → Y) (xs : List X) → position_or_len p (map h xs) ≡ position_or_len (λ x. p (h x)) xs
position_or_len_map p h [] = refl
position_or_len_map p h (x ∷ xs) = ap (λ n. cond (not (p (h x))) (1 + n) 0) (position_or_len_map p h xs)

length_map : {X Y : Type 0} (h : X → Y) (xs : List X) → length (map h xs) ≡ length xs
length_map h [] = refl
length_map h (x ∷ xs) = ap suc (length_map h xs)

pub position_map : {X Y : Type 0} (p : Y → Bool) (h : X → Y) (xs : List X) → position p (map h xs) ≡ position (λ x. p (h x)) xs
position_map p h xs = rw (position_or_len_map p h xs, length_map h xs) refl

-- a name that differs from each of these
not_among : (name : List ℕ) (held : List (Vec ℕ Global)) → AllByRecursion (λ v. bytes_eq name v.items ≡ false) held → is_among name (map (λ v. v.items) held) ≡ false
not_among name [] h = refl
not_among name (v ∷ held) h = rw (h.0, not_among name held h.1) refl

-- keys that differ hold names that differ
pub differ_held : (held : List (Vec ℕ Global)) → IsDistinct (λ v w. bytes_eq v.items w.items) held → differ (map (λ v. v.items) held) ≡ true
unfolding IsDistinct
differ_held [] h = refl
differ_held (v ∷ held) h = rw (not_among v.items held h.0, differ_held held h.1) refl
