-- The rows of the first table as short whole numbers.
use Rattle.std.proofs.Common.{◌≡◌, ℕ, ◌+◌, ◌<◌, ◌≤◌, refl, sym, ap, ◌∙◌, subst, arith, List, [], ◌∷◌, ◌++◌, append_assoc, length, get_or, set, map, drop, replicate, cond, Bool, true, false, ◌==◌, ◌⊎◌, inl, inr, ⊎_elim}
use Prim.Native.Nat.{zero, suc}
use Rattle.std.specs.Prelude.{All}
use Rattle.std.proofs.lemmas.Bool.{cases_eq, eqb-true, eq-eqb, ne_eqb}
use Rattle.std.proofs.lemmas.List.{ext_get_or, get_or-replicate, get_or-set_other, get_or-set_same, length-map, length-replicate, length-set}
use Rattle.std.proofs.lemmas.List.Elements.{All-set}
use Rattle.std.proofs.lemmas.Int.{ints}
use lib.IntN.{ℤ, pos, negsuc, ◌*ℤ◌, neg_ℤ}
use Rattle.tetri_algebra.specs.Rational.{fraction, fraction-one, whole_ℚ}
use Rattle.tetri_ip.specs.declared.programs.Program.{Program}
use Rattle.tetri_ip.specs.declared.programs.Term.{Term}
use Rattle.tetri_ip.specs.Points.{IsFitRow, coefficient, column_at, number_at, term_at}
use Rattle.tetri_ip.proofs.IntegerProgramLaws.{coefficient_absent, coefficient_at}
use Rattle.tetri_rows.specs.Small.{IsShort, IsDenominator}
use Rattle.tetri_rows.specs.Rows.{meaning}
use Rattle.tetri_dictionary.specs.Mixed.{AreWholeNumbers}
use Rattle.tetri_num.specs.declared.fractions.Frac.{Frac}
use Rattle.tetri_num.specs.Frac.{value}
use Rattle.tetri_dictionary.specs.Fractions.{values}
use Rattle.tetri_dictionary.specs.Start.{direction, minus_one_at, objective_row, slack_from}

pub one_is_denominator : IsDenominator (pos 1)
one_is_denominator = record { positive = omega (arith, ints); short = omega arith }

-- whole numbers over 1
pub meaning_of_whole : (ns : List ℤ) → meaning (pos 1) ns ≡ map whole_ℚ ns
meaning_of_whole [] = refl
meaning_of_whole (n ∷ ns) = ap (λ z. z ∷ meaning (pos 1) ns) (fraction-one n) ∙ ap (λ zs. whole_ℚ n ∷ zs) (meaning_of_whole ns)

-- ---- a slack, of which the first k terms are written behind the constant
pub record IsWrittenUpTo (ts : List Term) (cs : List ℤ) (constant : ℤ) (k : ℕ) (ns : List ℤ) : Type 0 where
  pub wide : length ns ≡ length cs + 1
  pub short : All IsShort ns
  pub first : get_or ns 0 (pos 0) ≡ constant
  pub own : (i : ℕ) → i < k → get_or ns (column_at ts i + 1) (pos 0) ≡ neg_ℤ ((term_at ts i).by *ℤ direction (number_at cs (column_at ts i)))
  pub other : (q : ℕ) → ((i : ℕ) → i < k → column_at ts i ≡ q → ⊥) → get_or ns (q + 1) (pos 0) ≡ pos 0

zeros_short : (n : ℕ) → All IsShort (replicate n (pos 0))
zeros_short n k d m = subst IsShort (sym (get_or-replicate n k (pos 0) d (subst (λ z. k < z) (length-replicate n (pos 0)) m))) (omega arith)

zeros_at : (n q : ℕ) → get_or (replicate n (pos 0)) q (pos 0) ≡ pos 0
zeros_at zero q = refl
zeros_at (suc n) zero = refl
zeros_at (suc n) (suc q) = zeros_at n q

not_first : (p : ℕ) → 0 ≡ p + 1 → ⊥
not_first p e = omega arith

behind_first : (p : ℕ) → p + 1 ≡ 0 → ⊥
behind_first p e = omega arith

pub first_written : (ts : List Term) (cs zeros ns : List ℤ) (n : ℕ) (constant : ℤ) → n ≡ length cs → zeros ≡ replicate (n + 1) (pos 0) → ns ≡ set zeros 0 constant → IsShort constant → IsWrittenUpTo ts cs constant 0 ns
first_written ts cs zeros ns n constant ne ze e s =
    let z = replicate (n + 1) (pos 0) in
    subst (λ us. IsWrittenUpTo ts cs constant 0 us) (sym (e ∙ ap (λ us. set us 0 constant) ze)) (record {
      wide = length-set z 0 constant ∙ length-replicate (n + 1) (pos 0) ∙ ap (λ k. k + 1) ne;
      short = All-set IsShort z 0 constant s (zeros_short (n + 1));
      first = get_or-set_same z 0 constant (pos 0) (some (length z) (length-replicate (n + 1) (pos 0)));
      own = λ i l. absurd (omega arith);
      other = λ q h. get_or-set_other z 0 (q + 1) constant (pos 0) (behind_first q) ∙ zeros_at (n + 1) (q + 1);
    })
  where
    some : (m : ℕ) → m ≡ n + 1 → 0 < m
    some m e = omega arith

apart : (ts : List Term) (k i : ℕ) → ((a b : ℕ) → a < b → b < length ts → column_at ts a < column_at ts b) → i < k → k < length ts → column_at ts i ≡ column_at ts k → ⊥
apart ts k i h l m e = let g = h i k l m in omega arith

pub term_written : (ts : List Term) (cs ns made : List ℤ) (constant z : ℤ) (k column : ℕ) → ((a b : ℕ) → a < b → b < length ts → column_at ts a < column_at ts b) → k < length ts → column_at ts k < length cs → column ≡ column_at ts k → IsWrittenUpTo ts cs constant k ns → IsShort z →
    z ≡ neg_ℤ ((term_at ts k).by *ℤ direction (number_at cs (column_at ts k))) → made ≡ set ns (column + 1) z → IsWrittenUpTo ts cs constant (k + 1) made
term_written ts cs ns made constant z k column asc l m ce h s ze e =
    let c = column_at ts k in
    let w = h.wide in
    subst (λ us. IsWrittenUpTo ts cs constant (k + 1) us) (sym (e ∙ ap (λ p. set ns (p + 1) z) ce)) (record {
      wide = length-set ns (c + 1) z ∙ w;
      short = All-set IsShort ns (c + 1) z s h.short;
      first = get_or-set_other ns (c + 1) 0 z (pos 0) (not_first c) ∙ h.first;
      own = λ i b.
          ⊎_elim
          (λ g. ap (λ p. get_or (set ns (c + 1) z) (column_at ts p + 1) (pos 0)) g ∙ get_or-set_same ns (c + 1) z (pos 0) (inside c (length ns) (length cs) m w) ∙ ze
          ∙ ap (λ p. neg_ℤ ((term_at ts p).by *ℤ direction (number_at cs (column_at ts p)))) (sym g))
          (λ d. let b' : i < k = omega (arith, b, d) in get_or-set_other ns (c + 1) (column_at ts i + 1) z (pos 0) (λ g. apart ts k i asc b' l (less_one (column_at ts i) c g)) ∙ h.own i b')
          (cases_eq i k);
      other = λ q f. get_or-set_other ns (c + 1) (q + 1) z (pos 0) (λ g. f k (omega arith) (sym (less_one q c g))) ∙ h.other q (λ i b g. f i (omega (arith, b)) g);
    })
  where
    less_one : (a b : ℕ) → a + 1 ≡ b + 1 → a ≡ b
    less_one a b e = omega arith

    inside : (a b n : ℕ) → a < n → b ≡ n + 1 → a + 1 < b
    inside a b n h e = omega arith

-- a term names a column, or none does
seek : (ts : List Term) (q k : ℕ) → ((i : ℕ) × ((i < k) × (column_at ts i ≡ q))) ⊎ ((i : ℕ) → i < k → column_at ts i ≡ q → ⊥)
seek ts q zero = inr (λ i l e. absurd (omega arith))
seek ts q (suc k) = by_last (cases_eq (column_at ts k) q) (seek ts q k)
  where
    by_last : (column_at ts k ≡ q) ⊎ (column_at ts k ≡ q → ⊥) → ((i : ℕ) × ((i < k) × (column_at ts i ≡ q))) ⊎ ((i : ℕ) → i < k → column_at ts i ≡ q → ⊥) → ((i : ℕ) × ((i < suc k) × (column_at ts i ≡ q))) ⊎ ((i : ℕ) → i < suc k → column_at ts i ≡ q → ⊥)
    by_last (inl e) r = inl (k, (omega arith, e))
    by_last (inr d) (inl (i, (l, e))) = inl (i, (omega (arith, l), e))
    by_last (inr d) (inr f) = inr (λ i l e. ⊎_elim (λ s. d (ap (column_at ts) (sym s) ∙ e)) (λ n. f i (omega (arith, l, n)) e) (cases_eq i k))

slack_long : (ts : List Term) (j : ℕ) (cs : List ℤ) → length (slack_from ts j cs) ≡ length cs
slack_long ts j [] = refl
slack_long ts j (c ∷ cs) = ap suc (slack_long ts (j + 1) cs)

slack_at : (ts : List Term) (j : ℕ) (cs : List ℤ) (q : ℕ) → q < length cs → get_or (slack_from ts j cs) q (pos 0) ≡ neg_ℤ (coefficient ts (j + q) *ℤ direction (number_at cs q))
slack_at ts j [] q h = absurd (omega arith)
slack_at ts j (c ∷ cs) zero h = let e : j ≡ j + 0 = omega arith in ap (λ k. neg_ℤ (coefficient ts k *ℤ direction c)) e
slack_at ts j (c ∷ cs) (suc q) h = let e : (j + 1) + q ≡ j + suc q = omega arith in slack_at ts (j + 1) cs q (omega arith) ∙ ap (λ k. neg_ℤ (coefficient ts k *ℤ direction (number_at cs q))) e

one_more : (a b : ℕ) → a ≡ b → suc a ≡ b + 1
one_more a b e = omega arith

-- a list by its first number and the others
by_first : (xs ys : List ℤ) (z : ℤ) (n : ℕ) → length xs ≡ n + 1 → length ys ≡ n → get_or xs 0 (pos 0) ≡ z → ((q : ℕ) → q < n → get_or xs (q + 1) (pos 0) ≡ get_or ys q (pos 0)) → xs ≡ z ∷ ys
by_first xs ys z n w l e h = ext_get_or (pos 0) xs (z ∷ ys) (w ∙ sym (one_more (length ys) n l)) (λ i m. at i (subst (λ k. i < k) w m))
  where
    at : (i : ℕ) → i < n + 1 → get_or xs i (pos 0) ≡ get_or (z ∷ ys) i (pos 0)
    at zero m = e
    at (suc i) m = let s : i + 1 ≡ suc i = omega arith in ap (λ k. get_or xs k (pos 0)) (sym s) ∙ h i (omega arith)

pub all_written : (p : Program) (ts : List Term) (right : ℤ) (constant : ℤ) (k : ℕ) (ns : List ℤ) → IsFitRow p ts right → length ts ≤ k → k ≤ length ts → IsWrittenUpTo ts p.costs.items constant k ns → ns ≡ constant ∷ slack_from ts 0 p.costs.items
all_written p ts right constant k ns f l m h =
    let cs = p.costs.items in
    by_first ns (slack_from ts 0 cs) constant (length cs) h.wide (slack_long ts 0 cs) h.first (λ q b.
    let e : 0 + q ≡ q = omega arith in
    at q (seek ts q k) ∙ sym (slack_at ts 0 cs q b ∙ ap (λ j. neg_ℤ (coefficient ts j *ℤ direction (number_at cs q))) e))
  where
    nothing : (d : ℤ) → pos 0 ≡ neg_ℤ (pos 0 *ℤ d)
    nothing d = omega (arith, ints)

    at : (q : ℕ) → ((i : ℕ) × ((i < k) × (column_at ts i ≡ q))) ⊎ ((i : ℕ) → i < k → column_at ts i ≡ q → ⊥) → get_or ns (q + 1) (pos 0) ≡ neg_ℤ (coefficient ts q *ℤ direction (number_at p.costs.items q))
    at q (inl (i, (b, e))) =
        ap (λ j. get_or ns (j + 1) (pos 0)) (sym e) ∙ h.own i b
        ∙ ap (λ y. neg_ℤ (y *ℤ direction (number_at p.costs.items (column_at ts i)))) (sym (coefficient_at ts (column_at ts i) i f.ascending (omega (arith, b, m)) refl))
        ∙ ap (λ j. neg_ℤ (coefficient ts j *ℤ direction (number_at p.costs.items j))) e
    at q (inr d) =
        h.other q d ∙ nothing (direction (number_at p.costs.items q))
        ∙ ap (λ z. neg_ℤ (z *ℤ direction (number_at p.costs.items q))) (sym (coefficient_absent ts q (λ i b e. d i (omega (arith, b, l)) e)))

pub written_sound : (ts : List Term) (cs : List ℤ) (constant : ℤ) (k : ℕ) (ns : List ℤ) → IsWrittenUpTo ts cs constant k ns → AreWholeNumbers (length cs) (pos 1) ns
written_sound ts cs constant k ns h = record { over = one_is_denominator; short = h.short; wide = h.wide }

-- ---- the slack of a column's bounds
minus_long : (j k : ℕ) (cs : List ℤ) → length (minus_one_at j k cs) ≡ length cs
minus_long j k [] = refl
minus_long j k (c ∷ cs) = ap suc (minus_long j (k + 1) cs)

minus_at : (j k : ℕ) (cs : List ℤ) (q : ℕ) → q < length cs → get_or (minus_one_at j k cs) q (pos 0) ≡ cond (j == (k + q)) (negsuc 0) (pos 0)
minus_at j k [] q h = absurd (omega arith)
minus_at j k (c ∷ cs) zero h = let e : k ≡ k + 0 = omega arith in ap (λ i. cond (j == i) (negsuc 0) (pos 0)) e
minus_at j k (c ∷ cs) (suc q) h = let e : (k + 1) + q ≡ k + suc q = omega arith in minus_at j (k + 1) cs q (omega arith) ∙ ap (λ i. cond (j == i) (negsuc 0) (pos 0)) e

pub bound_is : (cs zeros ns : List ℤ) (j n : ℕ) (width minus : ℤ) → n ≡ length cs → zeros ≡ replicate (n + 1) (pos 0) → ns ≡ set (set zeros 0 width) (j + 1) minus → minus ≡ negsuc 0 → j < length cs → ns ≡ width ∷ minus_one_at j 0 cs
bound_is cs zeros ns j n width minus ne ze e me l =
    let z = replicate (n + 1) (pos 0) in
    let a = set z 0 width in
    let b = set a (j + 1) (negsuc 0) in
    let wz : length z ≡ length cs + 1 = length-replicate (n + 1) (pos 0) ∙ ap (λ k. k + 1) ne in
    let wa : length a ≡ length cs + 1 = length-set z 0 width ∙ wz in
    let wb : length b ≡ length cs + 1 = length-set a (j + 1) (negsuc 0) ∙ wa in
    e ∙ ap (λ us. set (set us 0 width) (j + 1) minus) ze ∙ ap (λ y. set a (j + 1) y) me
    ∙ by_first b (minus_one_at j 0 cs) width (length cs) wb (minus_long j 0 cs) (get_or-set_other a (j + 1) 0 (negsuc 0) (pos 0) (not_first j) ∙ get_or-set_same z 0 width (pos 0) (some (length z) wz))
    (λ q m. let s : 0 + q ≡ q = omega arith in at q m wa ∙ sym (minus_at j 0 cs q m ∙ ap (λ i. cond (j == i) (negsuc 0) (pos 0)) s))
  where
    some : (m : ℕ) → m ≡ length cs + 1 → 0 < m
    some m e = omega arith

    less_one : (a b : ℕ) → a + 1 ≡ b + 1 → a ≡ b
    less_one a b e = omega arith

    at : (q : ℕ) → q < length cs → length (set (replicate (n + 1) (pos 0)) 0 width) ≡ length cs + 1 → get_or (set (set (replicate (n + 1) (pos 0)) 0 width) (j + 1) (negsuc 0)) (q + 1) (pos 0) ≡ cond (j == q) (negsuc 0) (pos 0)
    at q m wa =
        let z = replicate (n + 1) (pos 0) in
        let a = set z 0 width in
        ⊎_elim
        (λ e. ap (λ i. get_or (set a (j + 1) (negsuc 0)) (i + 1) (pos 0)) (sym e) ∙ get_or-set_same a (j + 1) (negsuc 0) (pos 0) (inside (length a) wa) ∙ ap (λ t. cond t (negsuc 0) (pos 0)) (sym (eq-eqb j q e)))
        (λ d. get_or-set_other a (j + 1) (q + 1) (negsuc 0) (pos 0) (λ e. d (sym (less_one q j e))) ∙ get_or-set_other z 0 (q + 1) width (pos 0) (behind_first q) ∙ zeros_at (n + 1) (q + 1) ∙ ap (λ t. cond t (negsuc 0) (pos 0)) (sym (ne_eqb j q d)))
        (cases_eq j q)
      where
        inside : (m : ℕ) → m ≡ length cs + 1 → j + 1 < m
        inside m e = omega (arith, e, l)

pub bound_sound : (cs ns : List ℤ) (j : ℕ) (width : ℤ) → ns ≡ width ∷ minus_one_at j 0 cs → IsShort width → AreWholeNumbers (length cs) (pos 1) ns
bound_sound cs ns j width e s = record {
  over = one_is_denominator;
  short = subst (λ us. All IsShort us) (sym e) (λ k d l. at k d l);
  wide = ap length e ∙ one_more _ _ (minus_long j 0 cs);
}
  where
    either : (t : Bool) → IsShort (cond t (negsuc 0) (pos 0))
    either true = omega arith
    either false = omega arith

    from : (k : ℕ) (cs : List ℤ) (q : ℕ) (d : ℤ) → q < length (minus_one_at j k cs) → IsShort (get_or (minus_one_at j k cs) q d)
    from k [] q d l = absurd (omega arith)
    from k (c ∷ cs) zero d l = either (j == k)
    from k (c ∷ cs) (suc q) d l = from (k + 1) cs q d (omega arith)

    at : (k : ℕ) (d : ℤ) → k < length (width ∷ minus_one_at j 0 cs) → IsShort (get_or (width ∷ minus_one_at j 0 cs) k d)
    at zero d l = s
    at (suc k) d l = from 0 cs k d (omega arith)

-- ---- the rows as fractions
pub wide_values : (xs : List Frac) (ns : List ℤ) (n : ℕ) → values xs ≡ map whole_ℚ ns → length ns ≡ n + 1 → length xs ≡ n + 1
wide_values xs ns n e l = sym (length-map xs value) ∙ ap length e ∙ length-map ns whole_ℚ ∙ l

pub slack_wide : (ts : List Term) (cs : List ℤ) (z : ℤ) → length (z ∷ slack_from ts 0 cs) ≡ length cs + 1
slack_wide ts cs z = one_more _ _ (slack_long ts 0 cs)

pub bound_wide : (cs : List ℤ) (j : ℕ) (z : ℤ) → length (z ∷ minus_one_at j 0 cs) ≡ length cs + 1
bound_wide cs j z = one_more _ _ (minus_long j 0 cs)

pub objective_wide : (cs start : List ℤ) → length (objective_row cs start) ≡ length cs + 1
objective_wide cs start = one_more _ _ (length-map cs (λ c. c *ℤ direction c))

-- ---- one more number of a row
pub number_pushed : (done made : List ℤ) (x z : ℤ) (rest all : List ℤ) → made ≡ done ++ (x ∷ []) → x ≡ z → all ≡ z ∷ rest → made ++ rest ≡ done ++ all
number_pushed done made x z rest all me xe ae = ap (λ xs. xs ++ rest) me ∙ append_assoc done (x ∷ []) rest ∙ ap (λ y. done ++ (y ∷ rest)) xe ∙ ap (λ xs. done ++ xs) (sym ae)

pub one_short : (xs : List ℤ) (z : ℤ) → xs ≡ z ∷ [] → IsShort z → All IsShort xs
one_short xs z e s = subst (λ us. All IsShort us) (sym e) (λ k d l. at k d l)
  where
    at : (k : ℕ) (d : ℤ) → k < 1 → IsShort (get_or (z ∷ []) k d)
    at zero d l = s
    at (suc k) d l = absurd (omega arith)
