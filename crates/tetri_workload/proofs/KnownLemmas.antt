-- The nodes of sets that are known.
use Rattle.std.proofs.Common.{◌≡◌, ◌+◌, ◌-◌, ◌<◌, ◌≤◌, ◌∙◌, [], ◌∷◌, ℕ, Bool, true, false, List, length, map, get_or, cond, refl, ap, sym, subst, bytes_eq, arith, tests}
use Rattle.std.specs.Prelude.{Some, ◌&&◌, nat_lt}
use Rattle.std.proofs.lemmas.List.{get_or-map, length-map}
use Rattle.std.proofs.lemmas.List.Quantifiers.{position-Some}
use Rattle.std.proofs.lemmas.Slice.Eq.{bytes_eq-Decides}
use Rattle.tetri_cluster.specs.Names.{number_of}
use Rattle.tetri_cluster.specs.declared.cluster.NodeText.{NodeText}
use Rattle.tetri_workload.specs.Kinds.{has_all, members, members_from, tags_in}

-- a set that is found has its nodes
pub known_at : (nodes : List NodeText) (lists texts : List (List ℕ)) (set : List ℕ) (n : ℕ) → lists ≡ map (members nodes) texts → number_of set texts ≡ Some n → get_or lists n [] ≡ members nodes set
known_at nodes lists texts set n known found =
    let at = position-Some (bytes_eq set) texts n [] found in
    let same : set ≡ get_or texts n [] = (bytes_eq-Decides set (get_or texts n [])).0 at.1 in
    ap (λ xs. get_or xs n []) known ∙ get_or-map (members nodes) texts n [] [] at.0 ∙ ap (members nodes) (sym same)

-- and a place
pub known_within : (nodes : List NodeText) (lists texts : List (List ℕ)) (set : List ℕ) (n : ℕ) → lists ≡ map (members nodes) texts → number_of set texts ≡ Some n → n < length lists
known_within nodes lists texts set n known found =
    let at = position-Some (bytes_eq set) texts n [] found in
    subst (λ xs. n < length xs) (sym known) (subst (λ m. n < m) (sym (length-map texts (members nodes))) at.0)

-- a set that stands at a place has its nodes there
pub known_there : (nodes : List NodeText) (lists texts : List (List ℕ)) (set : List ℕ) (n : ℕ) → lists ≡ map (members nodes) texts → n < length texts → get_or texts n [] ≡ set → get_or lists n [] ≡ members nodes set
known_there nodes lists texts set n known low same = ap (λ xs. get_or xs n []) known ∙ get_or-map (members nodes) texts n [] [] low ∙ ap (members nodes) same

pub there_within : (nodes : List NodeText) (lists texts : List (List ℕ)) (n : ℕ) → lists ≡ map (members nodes) texts → n < length texts → n < length lists
there_within nodes lists texts n known low = subst (λ xs. n < length xs) (sym known) (subst (λ m. n < m) (sym (length-map texts (members nodes))) low)

-- no set has more nodes than a trace
few_by : (number : ℕ) (rest : List ℕ) (b c : Bool) → (b ≡ true → number < 4096) → length rest ≤ 4096 - (number + 1) → length (cond (b && c) (number ∷ rest) rest) ≤ 4096 - number
few_by number rest true true room few = let inside = room refl in omega arith
few_by number rest true false room few = omega arith
few_by number rest false c room few = omega arith

inside : (number : ℕ) → nat_lt number 4096 ≡ true → number < 4096
inside number is = grind (arith, tests)

few_from : (number : ℕ) (nodes : List NodeText) (tags : List (List ℕ)) → length (members_from number nodes tags) ≤ 4096 - number
few_from number [] tags = omega arith
few_from number (node ∷ nodes) tags = few_by number (members_from (number + 1) nodes tags) (nat_lt number 4096) (has_all node tags) (inside number) (few_from (number + 1) nodes tags)

pub few_members : (nodes : List NodeText) (set : List ℕ) → length (members nodes set) ≤ 4096
few_members nodes set = omega (arith, few_from 0 nodes (tags_in set))
