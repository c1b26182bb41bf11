-- Programs that say the same have the same trees.
use Rattle.std.proofs.Common.{◌≡◌, ℕ, ◌+◌, Bool, ◌&&◌, not, List, [], ◌∷◌, length, max, refl, ap, ◌∙◌, arith, Option, Result, Ok, nat_lt, ◌*ℤ◌}
use Rattle.std.specs.List.{list_any}
use Prim.Native.Nat.{suc}
use Rattle.std.proofs.Math.Path.{fun_ext}
use lib.IntN.{ℤ, pos}
use lib.Signed.{le_z, lt_z}
use Rattle.tetri_algebra.specs.IntegerRing.{ℤ_ring}
use Rattle.tetri_algebra.specs.Sums.{dot}
use Rattle.tetri_ip.specs.declared.programs.Program.{Program}
use Rattle.tetri_ip.specs.declared.programs.Row.{Row}
use Rattle.tetri_ip.specs.declared.programs.Term.{Term}
use Rattle.tetri_ip.specs.declared.programs.WeighFault.{WeighFault}
use Rattle.tetri_ip.specs.declared.programs.Weight.{Weight}
use Rattle.tetri_ip.specs.Forming.{add_product, first_negative, form_column, form_columns, form_factor, form_right, or_past, subtract_product, then_form, unless_negative, weigh_answer, within}
use Rattle.tetri_ip.specs.Points.{Bounds, box_of, coefficient, left_side, number_at, right_of, terms_of}
use Rattle.tetri_ip.specs.Weighed.{bound_taken}
use Rattle.tetri_cert.specs.Cells.{are_between, are_met, are_of_columns, is_same, is_whole_point, point_of}
use Rattle.tetri_cert.specs.declared.faults.TreeFault.{TreeFault}
use Rattle.tetri_cert.specs.declared.faults.TreeFault.TheVariants.{Bad}
use Rattle.tetri_cert.specs.declared.faults.TreeWhy.TheVariants as why
use Rattle.tetri_cert.specs.declared.marks.Cell.{Cell}
use Rattle.tetri_cert.specs.declared.marks.Mark.{Mark}
use Rattle.tetri_cert.specs.declared.marks.Mark.TheVariants.{Split, Close, Whole, Rest}
use Rattle.tetri_cert.specs.NodeBounds.{is_negative, is_unknown_row, node_bound, refuse, sides_before, split_bound, weights_bound, where_weighed}
use Rattle.tetri_base.specs.ResultSteps.{◌>>=◌}
use Rattle.tetri_ip.specs.SamePrograms.{SameRows, SaysSame}
use Rattle.tetri_cert.specs.SamePrograms.{SameProgramsAnswerSame}
use Rattle.tetri_cert.specs.Trees.{fills, if_fills, tree_bound, tree_from}

-- rows that say the same are formed and met alike
module _ (rs ss : List Row) (same : SameRows rs ss) where
  right_same : (ws : List Weight) (sum : ℤ) → form_right rs ws sum ≡ form_right ss ws sum
  right_same [] sum = refl
  right_same (w ∷ ws) sum =
      ap (λ z. then_form (add_product sum w.by z) (λ next. form_right rs ws next)) (same.rights w.row)
      ∙ ap (then_form (add_product sum w.by (right_of ss w.row))) (fun_ext (λ next. right_same ws next))

  factor_same : (ws : List Weight) (j : ℕ) (rest : ℤ) → form_factor rs ws j rest ≡ form_factor ss ws j rest
  factor_same [] j rest = refl
  factor_same (w ∷ ws) j rest =
      ap (λ (ts : List Term). then_form (subtract_product rest w.by (coefficient ts j)) (λ next. form_factor rs ws j next)) (same.terms w.row)
      ∙ ap (then_form (subtract_product rest w.by (coefficient (terms_of ss w.row) j))) (fun_ext (λ next. factor_same ws j next))

  column_same : (b : Bounds) (q : ℤ) (ws : List Weight) (j : ℕ) (cost sum : ℤ) → form_column rs b q ws j cost sum ≡ form_column ss b q ws j cost sum
  column_same b q ws j cost sum =
      ap (then_form (within (q *ℤ cost))) (fun_ext (λ first. ap (λ o. then_form o (λ d. add_product sum d (bound_taken b j d))) (factor_same ws j first)))

  columns_same : (b : Bounds) (q : ℤ) (ws : List Weight) (j : ℕ) (cs : List ℤ) (sum : ℤ) → form_columns rs b q ws j cs sum ≡ form_columns ss b q ws j cs sum
  columns_same b q ws j [] sum = refl
  columns_same b q ws j (c ∷ cs) sum =
      ap (λ (o : Option ℤ). or_past j o (λ next. form_columns rs b q ws (j + 1) cs next)) (column_same b q ws j c sum)
      ∙ ap (or_past j (form_column ss b q ws j c sum)) (fun_ext (λ next. columns_same b q ws (j + 1) cs next))

met_same : (rs ss : List Row) → SameRows rs ss → (xs : List ℤ) → are_met rs xs ≡ are_met ss xs
met_same [] [] same xs = refl
met_same [] (s ∷ ss) same xs = absurd (omega (arith, same.count))
met_same (r ∷ rs) [] same xs = absurd (omega (arith, same.count))
met_same (r ∷ rs) (s ∷ ss) same xs =
    ap (λ (ts : List Term). le_z (left_side ts xs) r.right && are_met rs xs) (same.terms 0)
    ∙ ap (λ (z : ℤ). le_z (left_side s.terms.items xs) z && are_met rs xs) (same.rights 0)
    ∙ ap (λ t. le_z (left_side s.terms.items xs) s.right && t) (met_same rs ss rest xs)
  where
    rest : SameRows rs ss
    rest = record { count = omega (arith, same.count); terms = λ k. same.terms (suc k); rights = λ k. same.rights (suc k) }

-- what a program is asked for, by the parts that say it
abbrev weigh_by : List Row → List ℤ → Bounds → ℤ → List Weight → Result ℤ WeighFault
weigh_by rows costs b q ws = unless_negative (first_negative ws) (or_past 0 (form_right rows ws (pos 0)) (λ sum. form_columns rows b q ws 0 costs sum))

abbrev weighed_by : ℕ → Bounds → ℕ → ℤ → List Weight → Result ℤ WeighFault → Result ℕ TreeFault
weighed_by rows b node q ws answer =
    refuse (list_any (is_unknown_row rows) ws) (Bad node why.Row)
    (refuse (list_any (λ w. is_negative w.by) ws) (Bad node why.Negative)
    (refuse (is_negative q) (Bad node why.Denominator) (where_weighed node q answer)))

abbrev split_by : ℕ → Bounds → ℕ → ℕ → ℤ → Result ℕ TreeFault
split_by columns b node j at =
    refuse (not (nat_lt j columns)) (Bad node why.Column)
    (refuse (lt_z at (number_at b.lower j)) (Bad node why.At) (refuse (not (lt_z at (number_at b.upper j))) (Bad node why.At) (Ok 0)))

abbrev whole_by : List ℤ → (List ℤ → Bool) → Bounds → ℤ → List Cell → Bool
whole_by costs met b worth cells =
    let point = point_of (length costs) cells in
    are_of_columns (length costs) cells && ((are_between b.lower point b.upper && met point) && is_same worth (dot ℤ_ring costs point))

module _ (p r : Program) (same : SaysSame p r) where
  pub weigh_same : (b : Bounds) (q : ℤ) (ws : List Weight) → weigh_answer p b q ws ≡ weigh_answer r b q ws
  weigh_same b q ws =
      ap (λ (o : Option ℤ). unless_negative (first_negative ws) (or_past 0 o (λ sum. form_columns p.rows.items b q ws 0 p.costs.items sum))) (right_same p.rows.items r.rows.items same.rows ws (pos 0))
      ∙ ap (λ f. unless_negative (first_negative ws) (or_past 0 (form_right r.rows.items ws (pos 0)) f)) (fun_ext (λ sum. columns_same p.rows.items r.rows.items same.rows b q ws 0 p.costs.items sum))
      ∙ ap (λ (cs : List ℤ). weigh_by r.rows.items cs b q ws) same.costs

  weights_same : (b : Bounds) (node : ℕ) (q : ℤ) (ws : List Weight) → weights_bound p b node q ws ≡ weights_bound r b node q ws
  unfolding weights_bound
  weights_same b node q ws =
      ap (λ n. weighed_by n b node q ws (weigh_answer p b q ws)) same.rows.count ∙ ap (weighed_by (length r.rows.items) b node q ws) (weigh_same b q ws)

  split_same : (b : Bounds) (node j : ℕ) (at : ℤ) → split_bound p b node j at ≡ split_bound r b node j at
  unfolding split_bound
  split_same b node j at = ap (λ (cs : List ℤ). split_by (length cs) b node j at) same.costs

  whole_same : (b : Bounds) (worth : ℤ) (cells : List Cell) → is_whole_point p b worth cells ≡ is_whole_point r b worth cells
  unfolding is_whole_point
  whole_same b worth cells =
      ap (λ (cs : List ℤ). whole_by cs (are_met p.rows.items) b worth cells) same.costs
      ∙ ap (λ (f : List ℤ → Bool). whole_by r.costs.items f b worth cells) (fun_ext (λ xs. met_same p.rows.items r.rows.items same.rows xs))

  node_same : (b : Bounds) (node : ℕ) (m : Mark) → node_bound p b node m ≡ node_bound r b node m
  unfolding node_bound
  node_same b node (Split j at licence) = split_same b node j at
  node_same b node (Close q ws) = weights_same b node q ws
  node_same b node (Whole q ws worth point) =
      ap (λ (o : Result ℕ TreeFault). o >>= λ n. refuse (not (is_whole_point p b worth point)) (Bad node why.Point) (Ok n)) (weights_same b node q ws)
      ∙ ap (λ (t : Bool). weights_bound r b node q ws >>= λ n. refuse (not t) (Bad node why.Point) (Ok n)) (whole_same b worth point)
  node_same b node (Rest q ws) = weights_same b node q ws

  from_same : (bs : List Bounds) (node most : ℕ) (ms : List Mark) → tree_from p bs node most ms ≡ tree_from r bs node most ms
  from_same bs node most [] = refl
  from_same [] node most (m ∷ ms) = refl
  from_same (b ∷ bs) node most (m ∷ ms) =
      ap (λ (o : Result ℕ TreeFault). o >>= λ n. tree_from p (sides_before b m bs) (node + 1) (max most n) ms) (node_same b node m)
      ∙ ap (λ (f : ℕ → Result ℕ TreeFault). node_bound r b node m >>= f) (fun_ext (λ n. from_same (sides_before b m bs) (node + 1) (max most n) ms))

  pub box_same : box_of p ≡ box_of r
  box_same =
      ap (λ (ls : List ℤ). record { lower = ls; upper = p.upper.items }) same.lower
      ∙ ap (λ (us : List ℤ). record { lower = r.lower.items; upper = us }) same.upper

pub same_programs : SameProgramsAnswerSame
unfolding tree_bound
same_programs p r ms same =
    ap (if_fills (fills 1 ms)) (
    ap (λ (b : Bounds). tree_from p (b ∷ []) 0 0 ms) (box_same p r same) ∙ from_same p r same (box_of r ∷ []) 0 0 ms
    )
