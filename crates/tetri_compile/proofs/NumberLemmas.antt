-- The numbers of a program are as small as those of its forms and limits.
use Rattle.std.proofs.Common.{◌≡◌, ℕ, zero, suc, ◌≤◌, ◌==◌, List, [], ◌∷◌, length, map, All, sym, ap, subst, arith}
use Rattle.std.specs.Prelude.{unsigned_abs}
use Rattle.std.specs.List.{range_with_len}
use Rattle.std.proofs.lemmas.Bool.{cond_both}
use Rattle.std.proofs.lemmas.Int.{ints}
use lib.IntN.{ℤ, pos, ◌-ℤ◌}
use Rattle.tetri_ip.specs.declared.programs.Program.{Program}
use Rattle.tetri_ip.specs.declared.programs.Term.{Term}
use Rattle.tetri_strl.specs.WellMade.{PEAK}
use Rattle.tetri_base.specs.Lists.{Each}
use Rattle.tetri_base.proofs.ListLaws.{Each-all, Each-map}
use Rattle.tetri_compile.specs.Draft.{Draft}
use Rattle.tetri_compile.specs.Flat.{FlatProgram, FlatRow, coefficient, flat, flat_row, plain, plain_row, terms_at}
use Rattle.tetri_compile.specs.Forms.{Form, Limit}
use Rattle.tetri_compile.specs.Small.{HasSmallNumbers, HasSmallRow}
use Rattle.tetri_compile.proofs.CoefficientLemmas.{IsModest}

pub all_of : {X : Type 0} (P : X → Type 0) (xs : List X) → Each P xs → All P xs
all_of P [] h k d lt = absurd (omega (arith, lt))
all_of P (x ∷ xs) h zero d lt = h.0
all_of P (x ∷ xs) h (suc k) d lt = all_of P xs h.1 k d (omega (arith, lt))

each_mapped : {X Y : Type 0} (P : Y → Type 0) (f : X → Y) (xs : List X) → Each (λ x. P (f x)) xs → Each P (map f xs)
each_mapped P f [] h = tt
each_mapped P f (x ∷ xs) h = (h.0, each_mapped P f xs h.1)

mapped_each : {X Y : Type 0} (P : Y → Type 0) (f : X → Y) (xs : List X) → Each P (map f xs) → Each (λ x. P (f x)) xs
mapped_each P f [] h = tt
mapped_each P f (x ∷ xs) h = (h.0, mapped_each P f xs h.1)

difference_small : (a b : ℕ) → a ≤ PEAK → b ≤ PEAK → unsigned_abs (pos a -ℤ pos b) ≤ PEAK
difference_small a b p q = omega (arith, ints, p, q)

terms_small : (most under : Form) → ((c : ℕ) → (coefficient most c ≤ PEAK) × (coefficient under c ≤ PEAK)) → (js : List ℕ) → Each (λ (t : Term). unsigned_abs t.by ≤ PEAK) (terms_at most under js)
terms_small most under h [] = tt
terms_small most under h (j ∷ js) =
    cond_both (coefficient most j == coefficient under j) (terms_at most under js) (record { column = j; by = pos (coefficient most j) -ℤ pos (coefficient under j) } ∷ terms_at most under js)
    (Each (λ (t : Term). unsigned_abs t.by ≤ PEAK)) (λ e. terms_small most under h js)
    (λ e. (difference_small (coefficient most j) (coefficient under j) (h j).0 (h j).1, terms_small most under h js))

abbrev IsSmallRow : FlatRow → Type 0
IsSmallRow r = Each (λ (t : Term). unsigned_abs t.by ≤ PEAK) r.terms × (unsigned_abs r.right ≤ PEAK)

flat_rows_small : (n : ℕ) (rs : List Limit) → Each IsModest rs → Each (λ r. r.plus ≤ PEAK) rs → Each IsSmallRow (map (flat_row n) rs)
flat_rows_small n [] h k = tt
flat_rows_small n (r ∷ rs) h k = ((terms_small r.most r.under h.0 (range_with_len 0 n), k.0), flat_rows_small n rs h.1 k.1)

module _ (d : Draft) (uppers : Each (λ u. u ≤ PEAK) d.uppers) (earns : (c : ℕ) → coefficient d.objective c ≤ PEAK) (modest : Each IsModest d.rows) (within : Each (λ r. r.plus ≤ PEAK) d.rows)
    (p : Program) (is : plain p ≡ flat d) where
  pub numbers_small : HasSmallNumbers p
  numbers_small =
      let small = λ (z : ℤ). unsigned_abs z ≤ PEAK in
      let columns = range_with_len 0 (length d.uppers) in
      record {
        costs = all_of small p.costs.items (subst (Each small) (sym (ap (λ (q : FlatProgram). q.costs) is))
            (each_mapped small (λ (j : ℕ). pos (coefficient d.objective j)) columns (Each-all (λ j. coefficient d.objective j ≤ PEAK) earns columns)));
        lower = all_of small p.lower.items (subst (Each small) (sym (ap (λ (q : FlatProgram). q.lower) is))
            (each_mapped small (λ (u : ℕ). pos 0) d.uppers (Each-all (λ u. 0 ≤ PEAK) (λ u. omega arith) d.uppers)));
        upper = all_of small p.upper.items (subst (Each small) (sym (ap (λ (q : FlatProgram). q.upper) is)) (each_mapped small pos d.uppers uppers));
        rows = all_of HasSmallRow p.rows.items
            (Each-map (λ r. IsSmallRow (plain_row r)) HasSmallRow (λ r h. record { terms = all_of (λ (t : Term). unsigned_abs t.by ≤ PEAK) r.terms.items h.0; right = h.1 }) p.rows.items
            (mapped_each IsSmallRow plain_row p.rows.items (subst (Each IsSmallRow) (sym (ap (λ (q : FlatProgram). q.rows) is)) (flat_rows_small (length d.uppers) d.rows modest within))));
      }
