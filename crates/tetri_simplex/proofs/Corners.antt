-- The weighed number is attained at a corner of the region's box.
use Rattle.std.proofs.Common.{◌≡◌, ℕ, ◌+◌, refl, sym, ap, ◌∙◌, arith, List, [], ◌∷◌, length, drop, cond, Bool, true, false}
use Prim.Native.Nat.{suc}
use Rattle.std.specs.Prelude.{◌≤ℤ◌}
use Rattle.std.proofs.lemmas.Int.{ints}
use Rattle.std.proofs.lemmas.List.{drop_more}
use lib.IntN.{ℤ, pos, ◌+ℤ◌, ◌-ℤ◌, ◌*ℤ◌}
use lib.Signed.{lt_z}
use Rattle.tetri_algebra.specs.IntegerRing.{ℤ_ring}
use Rattle.tetri_algebra.specs.RingSolver.{var, minus, ring, ◌⊕◌, ◌⊗◌}
use Rattle.tetri_algebra.specs.Sums.{dot, dot_from}
use Rattle.tetri_ip.specs.Points.{Bounds, number_at, objective}
use Rattle.tetri_ip.specs.Weighed.{bound_taken, columns_from, right_sum, column_sum, weighed}
use Rattle.tetri_ip.proofs.IntegerProgramLaws.{left_sum, dot_from-column_sum}
use Rattle.tetri_ip.specs.declared.programs.Program.{Program}
use Rattle.tetri_ip.specs.declared.programs.Row.{Row}
use Rattle.tetri_ip.specs.declared.programs.Weight.{Weight}
use Rattle.tetri_simplex.proofs.Placed.{IsPlaced, IsBox}

-- the upper bound where the number d is above 0, else the lower one
abbrev pub corner_from : List Row → List Weight → ℤ → ℕ → List ℤ → List ℤ → List ℤ → List ℤ
corner_from rows ws q j [] ls us = []
corner_from rows ws q j (c ∷ cs) [] us = []
corner_from rows ws q j (c ∷ cs) (l ∷ ls) [] = []
corner_from rows ws q j (c ∷ cs) (l ∷ ls) (u ∷ us) = cond (lt_z (pos 0) (q *ℤ c -ℤ column_sum rows ws j)) u l ∷ corner_from rows ws q (j + 1) cs ls us

le_refl : (l : ℤ) → l ≤ℤ l
le_refl l = omega (arith, ints)

corner_in : (rows : List Row) (ws : List Weight) (q : ℤ) (j : ℕ) (cs ls us : List ℤ) → IsBox cs ls us → IsPlaced cs ls us (corner_from rows ws q j cs ls us)
corner_in rows ws q j [] [] [] h = tt
corner_in rows ws q j (c ∷ cs) (l ∷ ls) (u ∷ us) h =
    let p = by_test (lt_z (pos 0) (q *ℤ c -ℤ column_sum rows ws j)) in
    (p.0, p.1, corner_in rows ws q (j + 1) cs ls us h.1)
  where
    by_test : (t : Bool) → (l ≤ℤ cond t u l) × (cond t u l ≤ℤ u)
    by_test true = (h.0, le_refl u)
    by_test false = (le_refl l, h.0)
corner_in rows ws q j cs ls us h = absurd h

-- the sum over the columns, by the lists of the bounds
best_from : List Row → List Weight → ℤ → ℕ → List ℤ → List ℤ → List ℤ → ℤ
best_from rows ws q j [] ls us = pos 0
best_from rows ws q j (c ∷ cs) [] us = pos 0
best_from rows ws q j (c ∷ cs) (l ∷ ls) [] = pos 0
best_from rows ws q j (c ∷ cs) (l ∷ ls) (u ∷ us) = (q *ℤ c -ℤ column_sum rows ws j) *ℤ cond (lt_z (pos 0) (q *ℤ c -ℤ column_sum rows ws j)) u l +ℤ best_from rows ws q (j + 1) cs ls us

columns_are : (rows : List Row) (b : Bounds) (q : ℤ) (ws : List Weight) (j : ℕ) (cs : List ℤ) → j + length cs ≡ length b.lower → j + length cs ≡ length b.upper →
    columns_from rows b q ws j cs ≡ best_from rows ws q j cs (drop j b.lower) (drop j b.upper)
unfolding best_from
columns_are rows b q ws j [] e f = refl
columns_are rows b q ws j (c ∷ cs) e f =
    let d = q *ℤ c -ℤ column_sum rows ws j in
    ap (λ z. d *ℤ bound_taken b j d +ℤ z) (columns_are rows b q ws (j + 1) cs (omega arith) (omega arith))
    ∙ ap (λ zs. best_from rows ws q j (c ∷ cs) zs (number_at b.upper j ∷ drop (j + 1) b.upper)) (sym (drop_more b.lower j (pos 0) (omega arith)))
    ∙ ap (λ zs. best_from rows ws q j (c ∷ cs) (drop j b.lower) zs) (sym (drop_more b.upper j (pos 0) (omega arith)))

corner_best : (rows : List Row) (ws : List Weight) (q : ℤ) (j : ℕ) (cs ls us : List ℤ) →
    best_from rows ws q j cs ls us ≡ q *ℤ dot ℤ_ring cs (corner_from rows ws q j cs ls us) -ℤ dot_from ℤ_ring (column_sum rows ws) j (corner_from rows ws q j cs ls us)
unfolding best_from
corner_best rows ws q j [] ls us = omega (arith, ints)
corner_best rows ws q j (c ∷ cs) [] us = omega (arith, ints)
corner_best rows ws q j (c ∷ cs) (l ∷ ls) [] = omega (arith, ints)
corner_best rows ws q j (c ∷ cs) (l ∷ ls) (u ∷ us) =
    let f = column_sum rows ws j in
    let t = cond (lt_z (pos 0) (q *ℤ c -ℤ f)) u l in
    let xs = corner_from rows ws q (j + 1) cs ls us in
    let Q = var 0 in let C = var 1 in let F = var 2 in let T = var 3 in let D = var 4 in let E = var 5 in
    ap (λ z. (q *ℤ c -ℤ f) *ℤ t +ℤ z) (corner_best rows ws q (j + 1) cs ls us)
    ∙ ring ℤ_ring (q ∷ c ∷ f ∷ t ∷ dot ℤ_ring cs xs ∷ dot_from ℤ_ring (column_sum rows ws) (j + 1) xs ∷ [])
    ((Q ⊗ C ⊕ minus F) ⊗ T ⊕ (Q ⊗ D ⊕ minus E)) (Q ⊗ (C ⊗ T ⊕ D) ⊕ minus (F ⊗ T ⊕ E)) refl

-- what the weighed rows leave at a point
abbrev pub slack_sum : List Row → List Weight → List ℤ → ℤ
slack_sum rows ws xs = right_sum rows ws -ℤ left_sum rows ws xs

box_lower : (cs ls us : List ℤ) → IsBox cs ls us → length cs ≡ length ls
box_lower [] [] [] h = refl
box_lower (c ∷ cs) (l ∷ ls) (u ∷ us) h = ap suc (box_lower cs ls us h.1)
box_lower cs ls us h = absurd h

box_upper : (cs ls us : List ℤ) → IsBox cs ls us → length cs ≡ length us
box_upper [] [] [] h = refl
box_upper (c ∷ cs) (l ∷ ls) (u ∷ us) h = ap suc (box_upper cs ls us h.1)
box_upper cs ls us h = absurd h

zero_plus : (a b : ℕ) → a ≡ b → 0 + a ≡ b
zero_plus a b e = omega arith

pub weighed_at_corner : (p : Program) (r : Bounds) (q : ℤ) (ws : List Weight) → IsBox p.costs.items r.lower r.upper →
    (x : List ℤ) × (IsPlaced p.costs.items r.lower r.upper x × (weighed p r q ws ≡ q *ℤ objective p x +ℤ slack_sum p.rows.items ws x))
weighed_at_corner p r q ws h =
    let x = corner_from p.rows.items ws q 0 p.costs.items r.lower r.upper in
    let a = right_sum p.rows.items ws in
    let e = corner_best p.rows.items ws q 0 p.costs.items r.lower r.upper in
    let f = dot_from-column_sum p.rows.items ws x in (
      x,
      (
        corner_in p.rows.items ws q 0 _ _ _ h,
        ap (λ z. a +ℤ z) (columns_are p.rows.items r q ws 0 p.costs.items (zero_plus _ _ (box_lower _ _ _ h)) (zero_plus _ _ (box_upper _ _ _ h)) ∙ e) ∙ ap (λ z. a +ℤ (q *ℤ objective p x -ℤ z)) f
            ∙ ring ℤ_ring (a ∷ (q *ℤ objective p x) ∷ left_sum p.rows.items ws x ∷ []) (var 0 ⊕ (var 1 ⊕ minus (var 2))) (var 1 ⊕ (var 0 ⊕ minus (var 2))) refl,
      ),
    )
