-- Steps of the loop that lists the counts of each partition.
use Rattle.std.proofs.Common.{◌≡◌, ℕ, zero, suc, ◌+◌, ◌<◌, ◌==◌, Bool, cond, List, [], ◌∷◌, ◌++◌, length, map, get_or, set, drop, replicate, Vec, Global, refl, sym, ap, ◌∙◌, arith, inl, inr}
use Rattle.std.specs.List.{filter}
use Rattle.std.proofs.lemmas.Bool.{cases_eq}
use Rattle.std.proofs.lemmas.List.{append_assoc, length-map, get_or-map, get_or-set_same, get_or-set_other, map-set, drop_more}
use Rattle.tetri_base.proofs.ListLaws.{test_from_eq, test_from_ne}
use Rattle.tetri_wide.specs.declared.outline.Holding.{Holding}
use Rattle.tetri_base.specs.Lists.{list_at}

-- no list has anything at first
pub empty_at : (vs : List (Vec Holding Global)) (n p : ℕ) → map (λ (v : Vec Holding Global). v.items) vs ≡ replicate n [] → list_at vs p ≡ []
empty_at vs n p e = ap (λ (zs : List (List Holding)). get_or zs p []) e ∙ none n p
  where
    none : (k j : ℕ) → let xss : List (List Holding) = replicate k [] in get_or xss j [] ≡ []
    none zero j = refl
    none (suc k) zero = refl
    none (suc k) (suc j) = none k j

pub lists_many : (vs : List (Vec Holding Global)) (n : ℕ) → map (λ (v : Vec Holding Global). v.items) vs ≡ replicate n [] → length vs ≡ n
lists_many vs n e = sym (length-map vs (λ (v : Vec Holding Global). v.items)) ∙ ap length e ∙ many n
  where
    many : (k : ℕ) → let xss : List (List Holding) = replicate k [] in length xss ≡ k
    many zero = refl
    many (suc k) = ap suc (many k)

-- the list at a place
pub list_is : (vs : List (Vec Holding Global)) (k : ℕ) (v : Vec Holding Global) → k < length vs → v ≡ get_or vs k v → list_at vs k ≡ v.items
list_is vs k v lt is = get_or-map (λ (w : Vec Holding Global). w.items) vs k v [] lt ∙ ap (λ (w : Vec Holding Global). w.items) (sym is)

module _ (vs : List (Vec Holding Global)) (cs : List Holding) (i p : ℕ) (c : Holding) (all : List Holding) (short : i < length cs) (is : c ≡ get_or cs i c)
    (so_far : list_at vs p ++ filter (λ d. d.part == p) (drop i cs) ≡ all) where
  abbrev rest : List Holding
  rest = filter (λ d. d.part == p) (drop (i + 1) cs)

  next : filter (λ d. d.part == p) (drop i cs) ≡ cond (c.part == p) (c ∷ rest) rest
  next = ap (filter (λ d. d.part == p)) (drop_more cs i c short) ∙ ap (λ (d : Holding). cond (d.part == p) (d ∷ rest) rest) (sym is)

  -- a count that no list is for
  pub passed : (c.part ≡ p → ⊥) → list_at vs p ++ rest ≡ all
  passed differ = ap (λ (b : Bool). list_at vs p ++ cond b (c ∷ rest) rest) (sym (test_from_ne c.part p differ)) ∙ ap (λ zs. list_at vs p ++ zs) (sym next) ∙ so_far

  changed : (new : Vec Holding Global) (old : Vec Holding Global) → c.part ≡ p → c.part < length vs → old ≡ get_or vs c.part old → new.items ≡ old.items ++ c ∷ [] →
      list_at (set vs c.part new) p ≡ list_at vs p ++ c ∷ []
  changed new old same lt was grown =
      ap (λ zs. get_or zs p []) (map-set (λ (v : Vec Holding Global). v.items) vs c.part new)
      ∙ ap (λ k. get_or (set (map (λ (v : Vec Holding Global). v.items) vs) c.part new.items) k []) (sym same)
      ∙ get_or-set_same (map (λ (v : Vec Holding Global). v.items) vs) c.part new.items [] (omega (arith, lt, length-map vs (λ (v : Vec Holding Global). v.items)))
      ∙ grown ∙ ap (λ xs. xs ++ c ∷ []) (sym (list_is vs c.part old lt was)) ∙ ap (λ k. list_at vs k ++ c ∷ []) same

  kept : (new : Vec Holding Global) → (c.part ≡ p → ⊥) → list_at (set vs c.part new) p ≡ list_at vs p
  kept new other =
      ap (λ zs. get_or zs p []) (map-set (λ (v : Vec Holding Global). v.items) vs c.part new)
      ∙ get_or-set_other (map (λ (v : Vec Holding Global). v.items) vs) c.part p new.items [] (λ same. other (sym same))

  -- a count put last in the list of its partition
  pub put : (old new : Vec Holding Global) → c.part < length vs → old ≡ get_or vs c.part old → new.items ≡ old.items ++ c ∷ [] →
      list_at (set vs c.part new) p ++ rest ≡ all
  put old new lt was grown =
      elim (cases_eq c.part p) [
        | inl same ↦
            ap (λ zs. zs ++ rest) (changed new old same lt was grown) ∙ append_assoc (list_at vs p) (c ∷ []) rest
            ∙ ap (λ (b : Bool). list_at vs p ++ cond b (c ∷ rest) rest) (sym (test_from_eq c.part p same)) ∙ ap (λ zs. list_at vs p ++ zs) (sym next) ∙ so_far
        | inr other ↦ ap (λ zs. zs ++ rest) (kept new other) ∙ passed other
      ]
