-- One turn of the loops.
use Rattle.std.proofs.Common.{◌≡◌, ℕ, zero, suc, ◌+◌, ◌-◌, ◌<◌, ◌≤◌, get_or, Bool, true, false, List, [], ◌∷◌, ◌++◌, length, take, drop, filter, refl, sym, ap, ◌∙◌, subst, arith, nat_lt, append_assoc}
use Rattle.std.proofs.Math.Seq.{take-append_seam, drop-append_seam}
use Rattle.std.specs.Prelude.{if◌then◌else◌}
use Rattle.std.proofs.lemmas.List.{drop_more}
use Rattle.tetri_strl.specs.declared.expr.Expr.{Expr}
use Rattle.std.proofs.lemmas.Bool.Decides.{nat_tests}
use Rattle.tetri_strl.specs.declared.expr.Leaf.{Leaf}
use Rattle.tetri_strl.specs.Tree.{Tree, Trees, more, tree, trees}
use Rattle.tetri_space.specs.Space.{Space}
use Rattle.tetri_advice.specs.Fit.{Placement, all_fit, best_fit, fit_beside, fit_worth}
use Rattle.tetri_greedy.specs.Fitted.{Fitted}

module _ (p : ℕ → Bool) (got : List ℕ) (n : ℕ) (rest whole : List ℕ) where
  -- a number that passes is taken
  pub taken_step : (left : ℕ) → (left ≡ 0 → ⊥) → p n ≡ true → got ++ take left (filter p (n ∷ rest)) ≡ whole →
      (got ++ n ∷ []) ++ take (left - 1) (filter p rest) ≡ whole
  taken_step zero some passes h = absurd (some refl)
  taken_step (suc left) some passes h =
      let less : suc left - 1 ≡ left = omega arith in
      ap (λ k. (got ++ n ∷ []) ++ take k (filter p rest)) less ∙ append_assoc got (n ∷ []) (take left (filter p rest)) ∙ subst (λ b. got ++ take (suc left) (if b then n ∷ filter p rest else filter p rest) ≡ whole) passes h

  -- and any other is passed over
  pub passed_step : (left : ℕ) → p n ≡ false → got ++ take left (filter p (n ∷ rest)) ≡ whole → got ++ take left (filter p rest) ≡ whole
  passed_step left fails h = subst (λ b. got ++ take left (if b then n ∷ filter p rest else filter p rest) ≡ whole) fails h

lt_test : (m n : ℕ) → m < n → nat_lt m n ≡ true
lt_test m n h = grind (arith, nat_tests)

not_lt_test : (m n : ℕ) → n ≤ m → nat_lt m n ≡ false
not_lt_test m n h = grind (arith, nat_tests)

module _ (s : Space) (job : ℕ) (taken : Leaf → ℕ → Bool) (held : List Placement) (t : Tree) (ts : Trees) where
  pub none_fit : fit_worth job t (fit_beside s job taken held t) ≡ 0 → all_fit s job taken held (more t ts) ≡ false
  none_fit e = rw e refl

  -- a fit that is worth more is the best one so far
  pub more_fit : (most worth : ℕ) (best : List Placement) → worth ≡ fit_worth job t (fit_beside s job taken held t) → most < worth →
      best_fit s job taken held (more t ts) (most, best) ≡ best_fit s job taken held ts (worth, fit_beside s job taken held t)
  more_fit most worth best e is_more =
      ap (λ b. best_fit s job taken held ts (if b then (fit_worth job t (fit_beside s job taken held t), fit_beside s job taken held t) else (most, best)))
      (ap (nat_lt most) (sym e) ∙ lt_test most worth is_more)
      ∙ ap (λ w. best_fit s job taken held ts (w, fit_beside s job taken held t)) (sym e)

  pub no_more_fit : (most worth : ℕ) (best : List Placement) → worth ≡ fit_worth job t (fit_beside s job taken held t) → worth ≤ most →
      best_fit s job taken held (more t ts) (most, best) ≡ best_fit s job taken held ts (most, best)
  no_more_fit most worth best e no_more =
      ap (λ b. best_fit s job taken held ts (if b then (fit_worth job t (fit_beside s job taken held t), fit_beside s job taken held t) else (most, best)))
      (ap (nat_lt most) (sym e) ∙ not_lt_test most worth no_more)

-- the parts from a place on are the part there and the later ones
pub next_part : (es : List Expr) (i : ℕ) (e : Expr) → i < length es → e ≡ get_or es i e → trees (drop i es) ≡ more (tree e) (trees (drop (i + 1) es))
next_part es i e lt is = ap trees (drop_more es i e lt) ∙ ap (λ x. more (tree x) (trees (drop (i + 1) es))) (sym is)

-- what was put behind is cut off again
pub cut_back : (f : Fitted) (ps : List Placement) (n : ℕ) → n ≡ length f.placements → record { job = f.job; placements = take n (f.placements ++ ps) } ≡ f
cut_back f ps n e = ap (λ k. record { job = f.job; placements = take k (f.placements ++ ps) }) e ∙ ap (λ qs. record { job = f.job; placements = qs }) (take-append_seam f.placements ps)

pub cut_off : (f : Fitted) (ps : List Placement) (n : ℕ) → n ≡ length f.placements →
    ◌≡◌ {A = Fitted} (record { job = f.job; placements = drop n (f.placements ++ ps) }) (record { job = f.job; placements = ps })
cut_off f ps n e = ap (λ k. record { job = f.job; placements = drop k (f.placements ++ ps) }) e ∙ ap (λ qs. record { job = f.job; placements = qs }) (drop-append_seam f.placements ps)
