-- Steps of the loop that lists the entries of each column.
use Rattle.std.proofs.Common.{◌≡◌, ℕ, zero, suc, ◌+◌, ◌<◌, ◌==◌, Bool, cond, List, [], ◌∷◌, ◌++◌, length, map, get_or, set, drop, replicate, Vec, Global, refl, sym, ap, ◌∙◌, arith, inl, inr}
use Rattle.std.specs.List.{filter}
use Rattle.std.proofs.lemmas.Bool.{cases_eq}
use Rattle.std.proofs.lemmas.List.{append_assoc, length-map, get_or-map, get_or-set_same, get_or-set_other, map-set, drop_more}
use Rattle.tetri_base.proofs.ListLaws.{test_from_eq, test_from_ne}
use Rattle.tetri_export.specs.declared.entries.Entry.{Entry}
use Rattle.tetri_base.specs.Lists.{list_at}

-- no list has anything at first
pub empty_at : (vs : List (Vec Entry Global)) (n p : ℕ) → map (λ (v : Vec Entry Global). v.items) vs ≡ replicate n [] → list_at vs p ≡ []
empty_at vs n p e = ap (λ (zs : List (List Entry)). get_or zs p []) e ∙ none n p
  where
    none : (k j : ℕ) → let xss : List (List Entry) = replicate k [] in get_or xss j [] ≡ []
    none zero j = refl
    none (suc k) zero = refl
    none (suc k) (suc j) = none k j

pub lists_many : (vs : List (Vec Entry Global)) (n : ℕ) → map (λ (v : Vec Entry Global). v.items) vs ≡ replicate n [] → length vs ≡ n
lists_many vs n e = sym (length-map vs (λ (v : Vec Entry Global). v.items)) ∙ ap length e ∙ many n
  where
    many : (k : ℕ) → let xss : List (List Entry) = replicate k [] in length xss ≡ k
    many zero = refl
    many (suc k) = ap suc (many k)

-- the list at a place
pub list_is : (vs : List (Vec Entry Global)) (k : ℕ) (v : Vec Entry Global) → k < length vs → v ≡ get_or vs k v → list_at vs k ≡ v.items
list_is vs k v lt is = get_or-map (λ (w : Vec Entry Global). w.items) vs k v [] lt ∙ ap (λ (w : Vec Entry Global). w.items) (sym is)

module _ (vs : List (Vec Entry Global)) (cs : List Entry) (i p : ℕ) (c : Entry) (all : List Entry) (short : i < length cs) (is : c ≡ get_or cs i c)
    (so_far : list_at vs p ++ filter (λ d. d.column == p) (drop i cs) ≡ all) where
  abbrev rest : List Entry
  rest = filter (λ d. d.column == p) (drop (i + 1) cs)

  next : filter (λ d. d.column == p) (drop i cs) ≡ cond (c.column == p) (c ∷ rest) rest
  next = ap (filter (λ d. d.column == p)) (drop_more cs i c short) ∙ ap (λ (d : Entry). cond (d.column == p) (d ∷ rest) rest) (sym is)

  -- an entry that no list is for
  pub passed : (c.column ≡ p → ⊥) → list_at vs p ++ rest ≡ all
  passed differ = ap (λ (b : Bool). list_at vs p ++ cond b (c ∷ rest) rest) (sym (test_from_ne c.column p differ)) ∙ ap (λ zs. list_at vs p ++ zs) (sym next) ∙ so_far

  changed : (new : Vec Entry Global) (old : Vec Entry Global) → c.column ≡ p → c.column < length vs → old ≡ get_or vs c.column old → new.items ≡ old.items ++ c ∷ [] →
      list_at (set vs c.column new) p ≡ list_at vs p ++ c ∷ []
  changed new old same lt was grown =
      ap (λ zs. get_or zs p []) (map-set (λ (v : Vec Entry Global). v.items) vs c.column new)
      ∙ ap (λ k. get_or (set (map (λ (v : Vec Entry Global). v.items) vs) c.column new.items) k []) (sym same)
      ∙ get_or-set_same (map (λ (v : Vec Entry Global). v.items) vs) c.column new.items [] (omega (arith, lt, length-map vs (λ (v : Vec Entry Global). v.items)))
      ∙ grown ∙ ap (λ xs. xs ++ c ∷ []) (sym (list_is vs c.column old lt was)) ∙ ap (λ k. list_at vs k ++ c ∷ []) same

  kept : (new : Vec Entry Global) → (c.column ≡ p → ⊥) → list_at (set vs c.column new) p ≡ list_at vs p
  kept new other =
      ap (λ zs. get_or zs p []) (map-set (λ (v : Vec Entry Global). v.items) vs c.column new)
      ∙ get_or-set_other (map (λ (v : Vec Entry Global). v.items) vs) c.column p new.items [] (λ same. other (sym same))

  -- an entry put last in the list of its column
  pub put : (old new : Vec Entry Global) → c.column < length vs → old ≡ get_or vs c.column old → new.items ≡ old.items ++ c ∷ [] →
      list_at (set vs c.column new) p ++ rest ≡ all
  put old new lt was grown =
      elim (cases_eq c.column p) [
        | inl same ↦
            ap (λ zs. zs ++ rest) (changed new old same lt was grown) ∙ append_assoc (list_at vs p) (c ∷ []) rest
            ∙ ap (λ (b : Bool). list_at vs p ++ cond b (c ∷ rest) rest) (sym (test_from_eq c.column p same)) ∙ ap (λ zs. list_at vs p ++ zs) (sym next) ∙ so_far
        | inr other ↦ ap (λ zs. zs ++ rest) (kept new other) ∙ passed other
      ]
