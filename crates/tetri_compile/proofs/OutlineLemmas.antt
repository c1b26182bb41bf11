-- Steps of the loops that write an outline.
use Rattle.std.proofs.Common.{◌≡◌, ℕ, suc, ◌+◌, ◌*◌, ◌<◌, ◌≤◌, ◌&&◌, true, cond, List, [], ◌∷◌, ◌++◌, length, get_or, set, map, take, drop, replicate, refl, sym, ap, ◌∙◌, arith}
use Rattle.std.specs.Prelude.{nat_le, nat_lt}
use Rattle.std.proofs.lemmas.Bool.Decides.{nat_tests}
use Rattle.std.proofs.lemmas.List.{append_assoc, map-append, length-append, length-set, drop_more, drop-set-lt, take_more}
use Rattle.std.proofs.Math.Seq.{take-suc-set}
use Rattle.tetri_strl.specs.declared.expr.Expr.{Expr}
use Rattle.tetri_strl.specs.declared.expr.Leaf.{Leaf}
use Rattle.tetri_strl.specs.Aligned.{EachLeaf}
use Rattle.tetri_strl.specs.Tree.{Tree, Trees, more, trees}
use Rattle.tetri_strl.specs.Worth.{leaf_top, top_of}
use Rattle.tetri_strl.proofs.ExprLaws.{worth_by-le, EachLeaf-both}
use Rattle.std.specs.List.{list_all, range_with_len}
use Rattle.tetri_space.specs.Partitions.{parts_in, part_at, set_at}
use Rattle.tetri_space.specs.Space.{Space}
use Rattle.tetri_base.specs.Lists.{has}
use Rattle.tetri_base.proofs.ListLaws.{Each-get, Each-filter, range_from}
use Rattle.tetri_compile.specs.declared.outline.Outline.{Outline}
use Rattle.tetri_compile.specs.declared.outline.Inequality.{Inequality}
use Rattle.tetri_compile.specs.declared.outline.Share.{Share}
use Rattle.tetri_compile.specs.declared.outline.Tally.{Tally}
use Rattle.tetri_compile.specs.Draft.{tallies, tallies_of}
use Rattle.tetri_compile.specs.Forms.{Form, Limit, limit, share, run, times, plain_limit}
use Rattle.tetri_compile.specs.Walk.{best, ones, uppers, uppers_of, width, form, forms, rows, rows_of}
use Rattle.tetri_compile.specs.steps.Walked.{Grows, next_column}

-- one column further in a run
pub run_next : (b n : ℕ) (xs : List ℕ) (k : ℕ) → k < length xs → run b (n + k) (drop k xs) ≡ share (n + k) b ∷ run b (n + (k + 1)) (drop (k + 1) xs)
run_next b n xs k lt =
    ap (run b (n + k)) (drop_more xs k 0 lt) ∙ ap (λ m. share (n + k) b ∷ run b m (drop (k + 1) xs)) (omega arith)

pub times-append : (s : ℕ) (f g : Form) → times s (f ++ g) ≡ times s f ++ times s g
times-append s [] g = refl
times-append s (x ∷ f) g = ap (λ h. share x.column (s * x.by) ∷ h) (times-append s f g)

-- an outline that grew twice
pub grows_more : (a b c : Outline) (us vs : List ℕ) (rs qs : List Limit) (cs ds : List Tally) → Grows a b us rs cs → Grows b c vs qs ds → Grows a c (us ++ vs) (rs ++ qs) (cs ++ ds)
grows_more a b c us vs rs qs cs ds h k = record {
  uppers = k.uppers ∙ ap (λ xs. xs ++ vs) h.uppers ∙ append_assoc a.uppers.items us vs;
  rows = k.rows ∙ ap (λ xs. xs ++ qs) h.rows ∙ append_assoc (map plain_limit a.rows.items) rs qs;
  tallies = k.tallies ∙ ap (λ xs. xs ++ ds) h.tallies ∙ append_assoc a.tallies.items cs ds;
}

pub grows_length : (a b : Outline) (us : List ℕ) (rs : List Limit) (cs : List Tally) → Grows a b us rs cs → next_column b ≡ next_column a + length us
grows_length a b us rs cs h = ap length h.uppers ∙ length-append a.uppers.items us

-- a row put last
pub row_last : (old new : List Inequality) (r : Inequality) → new ≡ old ++ r ∷ [] → map plain_limit new ≡ map plain_limit old ++ plain_limit r ∷ []
row_last old new r e = ap (map plain_limit) e ∙ map-append plain_limit old (r ∷ [])

-- one share of a form further
module _ (s i : ℕ) (xs ys : List Share) (x v : Share) (lt : i < length xs) (is : x ≡ get_or xs i x) (long : length xs ≡ length ys)
    (so_far : take i xs ≡ times s (take i ys)) (rest : drop i xs ≡ drop i ys) (new : v ≡ share x.column (s * x.by)) where
  split_xs : drop i xs ≡ x ∷ drop (i + 1) xs
  split_xs = drop_more xs i x lt ∙ ap (λ y. y ∷ drop (i + 1) xs) (sym is)

  split_ys : drop i ys ≡ get_or ys i x ∷ drop (i + 1) ys
  split_ys = drop_more ys i x (omega (arith, lt, long))

  same : x ∷ drop (i + 1) xs ≡ get_or ys i x ∷ drop (i + 1) ys
  same = sym split_xs ∙ rest ∙ split_ys

  pub times_long : length (set xs i v) ≡ length ys
  times_long = length-set xs i v ∙ long

  pub times_front : take (i + 1) (set xs i v) ≡ times s (take (i + 1) ys)
  times_front =
      let e : i + 1 ≡ suc i = omega arith in
      let head : x ≡ get_or ys i x = cc (same) in
      ap (λ k. take k (set xs i v)) e ∙ take-suc-set xs i v lt ∙ ap (λ zs. zs ++ v ∷ []) so_far
      ∙ ap (λ z. times s (take i ys) ++ z ∷ []) (new ∙ ap (λ (y : Share). share y.column (s * y.by)) head)
      ∙ sym (times-append s (take i ys) (get_or ys i x ∷ []))
      ∙ ap (times s) (sym (take_more ys i x (omega (arith, lt, long))))

  pub times_back : drop (i + 1) (set xs i v) ≡ drop (i + 1) ys
  times_back = drop-set-lt (i + 1) xs i v (omega arith) ∙ cc (same)

-- a partition in a set is one of the partitions
pub inside_below : (s : Space) (parts : List (List ℕ)) (k j : ℕ) → j < length (parts_in s parts k) → get_or (parts_in s parts k) j 0 < length parts
inside_below s parts k j lt =
    Each-get (λ q. q < length parts) (parts_in s parts k) j 0
    (Each-filter (λ q. q < length parts) (λ q. list_all (has (set_at s k)) (part_at parts q)) (range_with_len 0 (length parts))
    (range_from (λ q. q < length parts) 0 (length parts) (λ q low high. omega arith))) lt

-- rows, one further
pub rows_pushed : (old mid new : List Inequality) (rs : List Limit) (r : Inequality) (q : Limit) → map plain_limit mid ≡ map plain_limit old ++ rs → new ≡ mid ++ r ∷ [] →
    plain_limit r ≡ q → map plain_limit new ≡ map plain_limit old ++ (rs ++ q ∷ [])
rows_pushed old mid new rs r q before put is =
    row_last mid new r put ∙ ap (λ xs. xs ++ plain_limit r ∷ []) before ∙ append_assoc (map plain_limit old) rs (plain_limit r ∷ [])
    ∙ ap (λ z. map plain_limit old ++ (rs ++ z ∷ [])) is

-- both sides of a row
pub sides_are : (r : Inequality) (f g : Form) → r.most.items ≡ f → r.under.items ≡ g → r.plus ≡ 0 → plain_limit r ≡ limit f g
sides_are r f g e h z = ap (λ m. record { most = m; under = r.under.items; plus = r.plus }) e ∙ ap (λ u. record { most = f; under = u; plus = r.plus }) h
    ∙ ap (λ n. record { most = f; under = g; plus = n }) z

pub ones_long : (es : List Expr) → length (ones (trees es)) ≡ length es
ones_long [] = refl
ones_long (e ∷ es) = ap suc (ones_long es)

pub ones_are : (es : List Expr) → ones (trees es) ≡ replicate (length es) 1
ones_are [] = refl
ones_are (e ∷ es) = ap (λ ns. 1 ∷ ns) (ones_are es)

-- where each leaf counts, the top is the best
module _ (from to : ℕ) where
  abbrev InRange : Leaf → Type 0
  InRange l = (from ≤ l.start) × (l.start < to)

  pub top_is_best : (t : Tree) → EachLeaf (λ l. (from ≤ l.start) × (l.start < to)) t → top_of from to t ≡ best t
  top_is_best t h =
      let low = worth_by-le (leaf_top from to) (λ l. l.v) t (EachLeaf-both InRange InRange (λ l. leaf_top from to l ≤ l.v) (λ l p q. omega (arith, same l p)) t h h) in
      let high = worth_by-le (λ l. l.v) (leaf_top from to) t (EachLeaf-both InRange InRange (λ l. l.v ≤ leaf_top from to l) (λ l p q. omega (arith, same l p)) t h h) in
      omega (arith, low, high)
    where
      same : (l : Leaf) → (from ≤ l.start) × (l.start < to) → leaf_top from to l ≡ l.v
      same l p = ap (λ b. cond b l.v 0) (in_range l.start p.0 p.1)
        where
          in_range : (n : ℕ) → from ≤ n → n < to → (nat_le from n && nat_lt n to) ≡ true
          in_range n p q = grind (arith, nat_tests)

-- parts walked, one further
module _ (inside : ℕ → List ℕ) (usable : ℕ → Leaf → ℕ) (job j : ℕ) (t : Tree) (ts : Trees) (old new : Outline) (f : Form)
    (is : f ≡ form inside usable t j (next_column old)) (grows : Grows old new (uppers inside usable t) (rows inside usable t j (next_column old)) (tallies inside usable job t (next_column old))) where
  pub next_is : next_column new ≡ next_column old + width inside usable t
  next_is = grows_length old new (uppers inside usable t) (rows inside usable t j (next_column old)) (tallies inside usable job t (next_column old)) grows

  pub forms_next : (before after : Form) → after ≡ before ++ f → after ++ forms inside usable ts (j + 1) (next_column new) ≡ before ++ forms inside usable (more t ts) j (next_column old)
  forms_next before after e =
      ap (λ g. g ++ forms inside usable ts (j + 1) (next_column new)) (e ∙ ap (λ g. before ++ g) is)
      ∙ append_assoc before (form inside usable t j (next_column old)) (forms inside usable ts (j + 1) (next_column new))
      ∙ ap (λ n. before ++ (form inside usable t j (next_column old) ++ forms inside usable ts (j + 1) n)) next_is

  pub uppers_next : new.uppers.items ++ uppers_of inside usable ts ≡ old.uppers.items ++ uppers_of inside usable (more t ts)
  uppers_next = ap (λ us. us ++ uppers_of inside usable ts) grows.uppers ∙ append_assoc old.uppers.items (uppers inside usable t) (uppers_of inside usable ts)

  pub rows_next : map plain_limit new.rows.items ++ rows_of inside usable ts (j + 1) (next_column new) ≡ map plain_limit old.rows.items ++ rows_of inside usable (more t ts) j (next_column old)
  rows_next =
      ap (λ rs. rs ++ rows_of inside usable ts (j + 1) (next_column new)) grows.rows
      ∙ append_assoc (map plain_limit old.rows.items) (rows inside usable t j (next_column old)) (rows_of inside usable ts (j + 1) (next_column new))
      ∙ ap (λ n. map plain_limit old.rows.items ++ (rows inside usable t j (next_column old) ++ rows_of inside usable ts (j + 1) n)) next_is

  pub tallies_next : new.tallies.items ++ tallies_of inside usable job ts (next_column new) ≡ old.tallies.items ++ tallies_of inside usable job (more t ts) (next_column old)
  tallies_next =
      ap (λ cs. cs ++ tallies_of inside usable job ts (next_column new)) grows.tallies
      ∙ append_assoc old.tallies.items (tallies inside usable job t (next_column old)) (tallies_of inside usable job ts (next_column new))
      ∙ ap (λ n. old.tallies.items ++ (tallies inside usable job t (next_column old) ++ tallies_of inside usable job ts n)) next_is
