-- Which columns a form has.
use Rattle.std.proofs.Common.{◌≡◌, ◌⊎◌, ℕ, suc, ◌+◌, ◌/◌, ◌<◌, ◌≤◌, ◌==◌, min, List, [], ◌∷◌, ◌++◌, length, refl, sym, subst, arith, inl, inr}
use Rattle.std.proofs.lemmas.Bool.{cond_both}
use Rattle.std.proofs.lemmas.List.{length-append, length-map}
use Rattle.tetri_strl.specs.declared.expr.Leaf.{Leaf}
use Rattle.tetri_strl.specs.Tree.{greatest, least, added, Tree, one, join, scale, barrier, Trees, none, more}
use Rattle.tetri_base.specs.Lists.{Each}
use Rattle.tetri_base.proofs.ListLaws.{Each-append, Each-map}
use Rattle.tetri_compile.specs.Forms.{share, Form, times, run}
use Rattle.tetri_compile.specs.Walk.{ones, best, uppers, uppers_of, width, form, forms}

-- the column i, and w columns from n on
abbrev pub IsOwn : ℕ → ℕ → ℕ → ℕ → Type 0
IsOwn i n w c = (c ≡ i) ⊎ ((n ≤ c) × (c < n + w))

-- k columns from j on, and w columns from n on
abbrev pub IsAmong : ℕ → ℕ → ℕ → ℕ → ℕ → Type 0
IsAmong j k n w c = ((j ≤ c) × (c < j + k)) ⊎ ((n ≤ c) × (c < n + w))

inner : (i n k w c : ℕ) → IsAmong n k (n + k) w c → IsOwn i n (k + w) c
inner i n k w c (inl r) = inr (r.0, omega (arith, r.1))
inner i n k w c (inr r) = inr (omega (arith, r.0), omega (arith, r.1))

first_among : (j k n w v c : ℕ) → IsOwn j n w c → IsAmong j (suc k) n (w + v) c
first_among j k n w v c (inl e) = inl (omega (arith, e), omega (arith, e))
first_among j k n w v c (inr r) = inr (r.0, omega (arith, r.1))

rest_among : (j k n w v c : ℕ) → IsAmong (j + 1) k (n + w) v c → IsAmong j (suc k) n (w + v) c
rest_among j k n w v c (inl r) = inl (omega (arith, r.0), omega (arith, r.1))
rest_among j k n w v c (inr r) = inr (omega (arith, r.0), omega (arith, r.1))

pub run_between : {X : Type 0} (b n : ℕ) (xs : List X) → Each (λ s. (n ≤ s.column) × (s.column < n + length xs)) (run b n xs)
run_between b n [] = tt
run_between b n (x ∷ xs) = (
  (omega arith, omega arith),
  Each-map (λ s. (n + 1 ≤ s.column) × (s.column < n + 1 + length xs)) (λ s. (n ≤ s.column) × (s.column < n + suc (length xs))) (λ s r. (omega (arith, r.0), omega (arith, r.1))) (run b (n + 1) xs) (run_between b (n + 1) xs),
)

pub run_in : {X : Type 0} (b n top : ℕ) (xs : List X) → n + length xs ≤ top → Each (λ s. s.column < top) (run b n xs)
run_in b n top xs le = Each-map (λ s. (n ≤ s.column) × (s.column < n + length xs)) (λ s. s.column < top) (λ s r. omega (arith, r.1, le)) (run b n xs) (run_between b n xs)

times_columns : (P : ℕ → Type 0) (s : ℕ) (f : Form) → Each (λ p. P p.column) f → Each (λ p. P p.column) (times s f)
times_columns P s [] h = tt
times_columns P s (p ∷ f) h = (h.0, times_columns P s f h.1)

module _ (inside : ℕ → List ℕ) (usable : ℕ → Leaf → ℕ) where
  -- the forms of parts whose indicators are the first of the columns
  inner_forms : (ts : Trees) (i n : ℕ) →
      Each (λ s. IsAmong n (length (ones ts)) (n + length (ones ts)) (length (uppers_of inside usable ts)) s.column) (forms inside usable ts n (n + length (ones ts))) →
      Each (λ s. IsOwn i n (length (ones ts ++ uppers_of inside usable ts)) s.column) (forms inside usable ts n (n + length (ones ts)))
  inner_forms ts i n h =
      subst (λ w. Each (λ s. IsOwn i n w s.column) (forms inside usable ts n (n + length (ones ts)))) (sym (length-append (ones ts) (uppers_of inside usable ts)))
      (Each-map (λ s. IsAmong n (length (ones ts)) (n + length (ones ts)) (length (uppers_of inside usable ts)) s.column) (λ s. IsOwn i n (length (ones ts) + length (uppers_of inside usable ts)) s.column)
      (λ s r. inner i n (length (ones ts)) (length (uppers_of inside usable ts)) s.column r) (forms inside usable ts n (n + length (ones ts))) h)

  mutual
    pub form_own : (t : Tree) (i n : ℕ) → Each (λ s. IsOwn i n (width inside usable t) s.column) (form inside usable t i n)
    form_own (one l) i n =
        cond_both l.linear (run (l.v / l.k) n (inside l.set)) (share i l.v ∷ []) (λ f. Each (λ s. IsOwn i n (width inside usable (one l)) s.column) f)
        (λ e. Each-map (λ s. (n ≤ s.column) × (s.column < n + length (inside l.set))) (λ s. IsOwn i n (width inside usable (one l)) s.column)
        (λ s r. inr (r.0, omega (arith, r.1, length-map (inside l.set) (λ p. min l.k (usable p l))))) (run (l.v / l.k) n (inside l.set)) (run_between (l.v / l.k) n (inside l.set)))
        (λ e. (inl refl, tt))
    form_own (join greatest ts) i n = inner_forms ts i n (forms_among ts n (n + length (ones ts)))
    form_own (join least ts) i n =
        cond_both (best (join least ts) == 0) [] (share n 1 ∷ []) (λ f. Each (λ s. IsOwn i n (width inside usable (join least ts)) s.column) f) (λ e. tt) (λ e. (inr (omega arith, omega arith), tt))
    form_own (join added ts) i n = inner_forms ts i n (forms_among ts n (n + length (ones ts)))
    form_own (scale t s) i n = times_columns (IsOwn i n (width inside usable t)) s (form inside usable t i n) (form_own t i n)
    form_own (barrier t v) i n = (inl refl, tt)

    pub forms_among : (ts : Trees) (j n : ℕ) → Each (λ s. IsAmong j (length (ones ts)) n (length (uppers_of inside usable ts)) s.column) (forms inside usable ts j n)
    forms_among none j n = tt
    forms_among (more t ts) j n =
        let k = length (ones ts) in
        let w = width inside usable t in
        let v = length (uppers_of inside usable ts) in
        let P = λ (c : ℕ). IsAmong j (suc k) n (w + v) c in
        subst (λ m. Each (λ s. IsAmong j (suc k) n m s.column) (form inside usable t j n ++ forms inside usable ts (j + 1) (n + w))) (sym (length-append (uppers inside usable t) (uppers_of inside usable ts)))
        (Each-append (λ s. P s.column) (form inside usable t j n) (forms inside usable ts (j + 1) (n + w))
        (Each-map (λ s. IsOwn j n w s.column) (λ s. P s.column) (λ s r. first_among j k n w v s.column r) (form inside usable t j n) (form_own t j n))
        (Each-map (λ s. IsAmong (j + 1) k (n + w) v s.column) (λ s. P s.column) (λ s r. rest_among j k n w v s.column r) (forms inside usable ts (j + 1) (n + w)) (forms_among ts (j + 1) (n + w))))

  -- below a number
  pub form_in : (t : Tree) (i n top : ℕ) → i < top → n + width inside usable t ≤ top → Each (λ s. s.column < top) (form inside usable t i n)
  form_in t i n top low le =
      Each-map (λ s. IsOwn i n (width inside usable t) s.column) (λ s. s.column < top) (λ s r. below s.column r) (form inside usable t i n) (form_own t i n)
    where
      below : (c : ℕ) → IsOwn i n (width inside usable t) c → c < top
      below c (inl e) = omega (arith, e, low)
      below c (inr r) = omega (arith, r.1, le)
