-- Names that are not marked are none of those that are.
use Rattle.std.proofs.Common.{◌≡◌, ◌∙◌, [], ℕ, List, Bool, true, false, get_or, refl, ap, sym, bytes_eq}
use Rattle.std.specs.Prelude.{Option, Some, None}
use Rattle.std.proofs.lemmas.List.Elements.{All-get_or, All-weaker}
use Rattle.std.proofs.lemmas.List.Folds.{list_any_none}
use Rattle.std.proofs.lemmas.List.Quantifiers.{position-Some}
use Rattle.std.proofs.lemmas.Slice.Eq.{bytes_eq-Decides}
use Rattle.tetri_cluster.specs.Names.{is_among, number_of}
use Rattle.tetri_workload.specs.Marks.{AreMarked, is_marked, place_of_name}
use Rattle.tetri_workload.specs.declared.marks.Marks.{Marks}

by_test : (b : Bool) → (b ≡ true → ⊥) → b ≡ false
by_test true wrong = absurd (wrong refl)
by_test false wrong = refl

-- a name that is marked is not one that is not
other : (m : Marks) (name marked : List ℕ) → is_marked m (place_of_name name) ≡ false → is_marked m (place_of_name marked) ≡ true → bytes_eq name marked ≡ false
other m name marked none one =
    by_test (bytes_eq name marked)
    (λ same. let is : name ≡ marked = (bytes_eq-Decides name marked).0 same in
    let wrong : false ≡ true = sym none ∙ ap (λ n. is_marked m (place_of_name n)) is ∙ one in cc)

pub not_among : (m : Marks) (name : List ℕ) (names : List (List ℕ)) → AreMarked m names → is_marked m (place_of_name name) ≡ false → is_among name names ≡ false
not_among m name names marked none =
    list_any_none (bytes_eq name) names
    (All-weaker (λ one. is_marked m (place_of_name one) ≡ true) (λ one. bytes_eq name one ≡ false) (λ one is. other m name one none is) names marked)

found_by : (m : Marks) (name : List ℕ) (names : List (List ℕ)) → AreMarked m names → is_marked m (place_of_name name) ≡ false → (place : Option ℕ) → number_of name names ≡ place → number_of name names ≡ None
found_by m name names marked none None is = is
found_by m name names marked none (Some i) is =
    let at = position-Some (bytes_eq name) names i [] is in
    let wrong : true ≡ false = sym at.1 ∙ other m name (get_or names i []) none (All-get_or (λ one. is_marked m (place_of_name one) ≡ true) names i [] at.0 marked) in
    cc

pub not_found : (m : Marks) (name : List ℕ) (names : List (List ℕ)) → AreMarked m names → is_marked m (place_of_name name) ≡ false → number_of name names ≡ None
not_found m name names marked none = found_by m name names marked none (number_of name names) refl
