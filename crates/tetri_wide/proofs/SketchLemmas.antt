-- Steps of the loops that write an outline.
use Rattle.std.proofs.Common.{◌≡◌, ℕ, ◌+◌, List, [], ◌∷◌, ◌++◌, length, map, sym, ap, ◌∙◌}
use Rattle.std.proofs.lemmas.List.{append_assoc, map-append, length-append}
use Rattle.tetri_strl.specs.declared.expr.Leaf.{Leaf}
use Rattle.tetri_strl.specs.Tree.{Tree, Trees, more}
use Rattle.tetri_compile.specs.declared.outline.Tally.{Tally}
use Rattle.tetri_compile.specs.Draft.{tallies, tallies_of}
use Rattle.tetri_compile.specs.Forms.{Form, Limit, limit}
use Rattle.tetri_compile.specs.Walk.{uppers, uppers_of, width, form, forms, rows, rows_of}
use Rattle.tetri_wide.specs.declared.outline.Inequality.{Inequality}
use Rattle.tetri_wide.specs.Sketch.{Grows, Sketch, form_of, limit_of, next_column}

-- rows, one further
pub rows_pushed : (old : List Limit) (mid new : List Inequality) (rs : List Limit) (r : Inequality) (q : Limit) → map limit_of mid ≡ old ++ rs → new ≡ mid ++ r ∷ [] →
    limit_of r ≡ q → map limit_of new ≡ old ++ (rs ++ q ∷ [])
rows_pushed old mid new rs r q before put is =
    ap (map limit_of) put ∙ map-append limit_of mid (r ∷ []) ∙ ap (λ xs. xs ++ limit_of r ∷ []) before ∙ append_assoc old rs (limit_of r ∷ [])
    ∙ ap (λ z. old ++ (rs ++ z ∷ [])) is

-- both sides of a row
pub sides_are : (r : Inequality) (f g : Form) (n : ℕ) → form_of r.most.items ≡ f → form_of r.under.items ≡ g → r.plus ≡ n → limit_of r ≡ record { most = f; under = g; plus = n }
sides_are r f g n e h z = ap (λ m. record { most = m; under = form_of r.under.items; plus = r.plus }) e ∙ ap (λ u. record { most = f; under = u; plus = r.plus }) h
    ∙ ap (λ k. record { most = f; under = g; plus = k }) z

-- a sketch that grew twice
pub grows_more : (a b c : Sketch) (us vs : List ℕ) (rs qs : List Limit) (cs ds : List Tally) → Grows a b us rs cs → Grows b c vs qs ds → Grows a c (us ++ vs) (rs ++ qs) (cs ++ ds)
grows_more a b c us vs rs qs cs ds h k = record {
  uppers = k.uppers ∙ ap (λ xs. xs ++ vs) h.uppers ∙ append_assoc a.uppers us vs;
  rows = k.rows ∙ ap (λ xs. xs ++ qs) h.rows ∙ append_assoc a.rows rs qs;
  tallies = k.tallies ∙ ap (λ xs. xs ++ ds) h.tallies ∙ append_assoc a.tallies cs ds;
}

pub grows_length : (a b : Sketch) (us : List ℕ) (rs : List Limit) (cs : List Tally) → Grows a b us rs cs → next_column b ≡ next_column a + length us
grows_length a b us rs cs h = ap length h.uppers ∙ length-append a.uppers us

-- parts walked, one further
module _ (inside : ℕ → List ℕ) (usable : ℕ → Leaf → ℕ) (job j : ℕ) (t : Tree) (ts : Trees) (old new : Sketch) (f : Form)
    (is : f ≡ form inside usable t j (next_column old)) (grows : Grows old new (uppers inside usable t) (rows inside usable t j (next_column old)) (tallies inside usable job t (next_column old))) where
  pub next_is : next_column new ≡ next_column old + width inside usable t
  next_is = grows_length old new (uppers inside usable t) (rows inside usable t j (next_column old)) (tallies inside usable job t (next_column old)) grows

  pub forms_next : (before after : Form) → after ≡ before ++ f → after ++ forms inside usable ts (j + 1) (next_column new) ≡ before ++ forms inside usable (more t ts) j (next_column old)
  forms_next before after e =
      ap (λ g. g ++ forms inside usable ts (j + 1) (next_column new)) (e ∙ ap (λ g. before ++ g) is)
      ∙ append_assoc before (form inside usable t j (next_column old)) (forms inside usable ts (j + 1) (next_column new))
      ∙ ap (λ n. before ++ (form inside usable t j (next_column old) ++ forms inside usable ts (j + 1) n)) next_is

  pub uppers_next : new.uppers ++ uppers_of inside usable ts ≡ old.uppers ++ uppers_of inside usable (more t ts)
  uppers_next = ap (λ us. us ++ uppers_of inside usable ts) grows.uppers ∙ append_assoc old.uppers (uppers inside usable t) (uppers_of inside usable ts)

  pub rows_next : new.rows ++ rows_of inside usable ts (j + 1) (next_column new) ≡ old.rows ++ rows_of inside usable (more t ts) j (next_column old)
  rows_next =
      ap (λ rs. rs ++ rows_of inside usable ts (j + 1) (next_column new)) grows.rows
      ∙ append_assoc old.rows (rows inside usable t j (next_column old)) (rows_of inside usable ts (j + 1) (next_column new))
      ∙ ap (λ n. old.rows ++ (rows inside usable t j (next_column old) ++ rows_of inside usable ts (j + 1) n)) next_is

  pub tallies_next : new.tallies ++ tallies_of inside usable job ts (next_column new) ≡ old.tallies ++ tallies_of inside usable job (more t ts) (next_column old)
  tallies_next =
      ap (λ cs. cs ++ tallies_of inside usable job ts (next_column new)) grows.tallies
      ∙ append_assoc old.tallies (tallies inside usable job t (next_column old)) (tallies_of inside usable job ts (next_column new))
      ∙ ap (λ n. old.tallies ++ (tallies inside usable job t (next_column old) ++ tallies_of inside usable job ts n)) next_is
