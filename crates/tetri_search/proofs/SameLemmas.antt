-- Programs that say the same have one tree of a search.
use Rattle.std.proofs.Common.{◌≡◌, ℕ, ◌+◌, Bool, true, false, List, [], ◌∷◌, ◌++◌, length, map, get_or, cond, if◌then◌else◌, nat_lt, refl, sym, ap, subst, ◌∙◌, arith, Option, Some, None, Result, Ok, Err, ◌-ℤ◌}
use Rattle.std.specs.List.{fold, range_with_len}
use Rattle.std.proofs.Math.Path.{fun_ext}
use Prim.Native.Nat.{zero, suc}
use lib.IntN.{ℤ, pos}
use lib.Signed.{le_z, lt_z}
use Rattle.tetri_algebra.specs.IntegerRing.{ℤ_ring}
use Rattle.tetri_algebra.specs.Sums.{dot}
use Rattle.tetri_algebra.specs.Rational.{ℚ, whole_ℚ}
use Rattle.tetri_ip.specs.declared.programs.Program.{Program}
use Rattle.tetri_ip.specs.declared.programs.Row.{Row}
use Rattle.tetri_ip.specs.declared.programs.Term.{Term}
use Rattle.tetri_ip.specs.declared.programs.WeighFault.{WeighFault}
use Rattle.tetri_ip.specs.declared.programs.Weight.{Weight}
use Rattle.tetri_ip.specs.Points.{Bounds, first_unmet_from, left_side, objective}
use Rattle.tetri_ip.specs.SamePrograms.{SameRows, SaysSame}
use Rattle.tetri_dictionary.specs.Choices.{has_positive, leaving}
use Rattle.tetri_simplex.specs.Ends.{End, best, best_end, common_denominator, cut, cut_end, empty, empty_end, is_cut, long, objective_weights, past, point_from, row_weights, then_end, weighted_end, weights_of, when_weighed, whole_weights}
use Rattle.tetri_simplex.specs.Machine.{Turn, at_step, by_leaving, ends, leaves, machine, next, run, turn}
use Rattle.tetri_simplex.specs.Relaxation.{numerators}
use Rattle.tetri_dictionary.specs.Start.{bound_rows, corner, first_table, objective_row, slack_from, slack_row}
use Rattle.tetri_dictionary.specs.Tables.{Table, coefficients_of, objective_of, row_at}
use Rattle.tetri_cert.specs.declared.marks.Mark.{Mark}
use Rattle.tetri_cert.specs.declared.marks.Mark.TheVariants.{Close, Whole}
use Rattle.tetri_cert.specs.Cells.{cells_of}
use Rattle.tetri_cert.proofs.TreeBoundLaws.{box_same, weigh_same}
use Rattle.tetri_search.specs.declared.branches.Branch.{Branch}
use Rattle.tetri_search.specs.declared.duals.Dual.{Dual}
use Rattle.tetri_search.specs.Follow.{Follows, IsEarned, IsNext, State, after, best_after, dual_by, dual_of, dual_or, first_state, open_after, open_behind, own_dual, used_after}
use Rattle.tetri_search.specs.Laws.{EarnedTreesAreOne}
use Rattle.tetri_search.specs.Table.{Node, best_by, end_mark, fractional_from, rest_by, rest_mark, single_by, single_mark, table, unfixed_from, worked_by, worked_mark}

-- ---- rows that say the same
rest_rows : (r s : Row) (rs ss : List Row) → SameRows (r ∷ rs) (s ∷ ss) → SameRows rs ss
rest_rows r s rs ss same = record { count = omega (arith, same.count); terms = λ k. same.terms (suc k); rights = λ k. same.rights (suc k) }

slacks_same : (cs start : List ℤ) (rs ss : List Row) → SameRows rs ss → map (slack_row cs start) rs ≡ map (slack_row cs start) ss
slacks_same cs start [] [] same = refl
slacks_same cs start [] (s ∷ ss) same = absurd (omega (arith, same.count))
slacks_same cs start (r ∷ rs) [] same = absurd (omega (arith, same.count))
slacks_same cs start (r ∷ rs) (s ∷ ss) same =
    ap (λ (ts : List Term). ((r.right -ℤ left_side ts start) ∷ slack_from ts 0 cs) ∷ map (slack_row cs start) rs) (same.terms 0)
    ∙ ap (λ (z : ℤ). ((z -ℤ left_side s.terms.items start) ∷ slack_from s.terms.items 0 cs) ∷ map (slack_row cs start) rs) (same.rights 0)
    ∙ ap (λ (rest : List (List ℤ)). slack_row cs start s ∷ rest) (slacks_same cs start rs ss (rest_rows r s rs ss same))

unmet_same : (i : ℕ) (rs ss : List Row) → SameRows rs ss → (xs : List ℤ) → first_unmet_from i rs xs ≡ first_unmet_from i ss xs
unmet_same i [] [] same xs = refl
unmet_same i [] (s ∷ ss) same xs = absurd (omega (arith, same.count))
unmet_same i (r ∷ rs) [] same xs = absurd (omega (arith, same.count))
unmet_same i (r ∷ rs) (s ∷ ss) same xs =
    ap (λ (ts : List Term). cond (lt_z r.right (left_side ts xs)) (Some i) (first_unmet_from (i + 1) rs xs)) (same.terms 0)
    ∙ ap (λ (z : ℤ). cond (lt_z z (left_side s.terms.items xs)) (Some i) (first_unmet_from (i + 1) rs xs)) (same.rights 0)
    ∙ ap (cond (lt_z s.right (left_side s.terms.items xs)) (Some i)) (unmet_same (i + 1) rs ss (rest_rows r s rs ss same) xs)

-- weights are made by the number of the rows
counted_same : (vs : List ℕ) (row : List ℚ) (own v : ℕ) (rs ss : List Row) → length rs ≡ length ss → weights_of vs row own v rs ≡ weights_of vs row own v ss
counted_same vs row own v [] [] e = refl
counted_same vs row own v [] (s ∷ ss) e = absurd (omega (arith, e))
counted_same vs row own v (r ∷ rs) [] e = absurd (omega (arith, e))
counted_same vs row own v (r ∷ rs) (s ∷ ss) e =
    let rest : length rs ≡ length ss = omega (arith, e) in
    let same = counted_same vs row own (v + 1) rs ss rest in
    cc

-- ---- runs, by the parts of a program that say it
abbrev table_by : List ℤ → ℕ → List (List ℤ) → Bounds → Table
table_by cs m slacks b = record {
  nonbasic = range_with_len 0 (length cs);
  basic = range_with_len (length cs) (m + length cs);
  rows = map (map whole_ℚ) (slacks ++ bound_rows 0 cs b.lower b.upper ++ (objective_row cs (corner cs b.lower b.upper) ∷ []));
}

abbrev objective_weights_by : List ℤ → List Row → ℕ → Table → List ℚ
objective_weights_by cs rows m t = weights_of t.nonbasic (coefficients_of (objective_of t)) (length cs + m + length cs) (length cs) rows

abbrev step_by : (Table → End) → ℕ → Table → Turn → End
step_by f s t x = elim x [ ends e ↦ at_step s e | leaves i ↦ elim (next t i) [ Err e ↦ past (record e { step = s }) | Ok u ↦ f u ] ]

module _ (p r : Program) (same : SaysSame p r) where
  table_same : (b : Bounds) → first_table p b ≡ first_table r b
  unfolding first_table
  table_same b =
      let start = corner p.costs.items b.lower b.upper in
      ap (λ (slacks : List (List ℤ)). table_by p.costs.items (length p.rows.items) slacks b) (slacks_same p.costs.items start p.rows.items r.rows.items same.rows)
      ∙ ap (λ (m : ℕ). table_by p.costs.items m (map (slack_row p.costs.items start) r.rows.items) b) same.rows.count
      ∙ ap (λ (cs : List ℤ). table_by cs (length r.rows.items) (map (slack_row cs (corner cs b.lower b.upper)) r.rows.items) b) same.costs

  objective_weights_same : (t : Table) → objective_weights p t ≡ objective_weights r t
  objective_weights_same t =
      ap (λ (m : ℕ). objective_weights_by p.costs.items p.rows.items m t) same.rows.count
      ∙ counted_same t.nonbasic (coefficients_of (objective_of t)) (length p.costs.items + length r.rows.items + length p.costs.items) (length p.costs.items) p.rows.items r.rows.items same.rows.count
      ∙ ap (λ (cs : List ℤ). objective_weights_by cs r.rows.items (length r.rows.items) t) same.costs

  row_weights_same : (t : Table) (i : ℕ) → row_weights p t i ≡ row_weights r t i
  row_weights_same t i =
      counted_same t.nonbasic (coefficients_of (row_at t i)) (get_or t.basic i 0) (length p.costs.items) p.rows.items r.rows.items same.rows.count
      ∙ ap (λ (cs : List ℤ). weights_of t.nonbasic (coefficients_of (row_at t i)) (get_or t.basic i 0) (length cs) r.rows.items) same.costs

  weighted_same : (b : Bounds) (ws : List ℚ) (multiplier : ℕ → ℤ) (done : ℤ → List Weight → End) → weighted_end p b ws multiplier done ≡ weighted_end r b ws multiplier done
  weighted_same b ws multiplier done =
      ap (then_end (common_denominator 0 1 ws)) (fun_ext (λ q.
      ap (then_end (whole_weights 0 q ws)) (fun_ext (λ ys.
      ap (λ (o : Result ℤ WeighFault). when_weighed o (done (multiplier q) ys)) (weigh_same p r same b (multiplier q) ys)))))

  cut_same : (b : Bounds) (t : Table) → cut_end p b t ≡ cut_end r b t
  cut_same b t = weighted_same b (objective_weights p t) pos cut ∙ ap (λ (ws : List ℚ). weighted_end r b ws pos cut) (objective_weights_same t)

  best_same : (b : Bounds) (t : Table) → best_end p b t ≡ best_end r b t
  best_same b t =
      ap (λ (cs : List ℤ). then_end (point_from t.basic t.rows 0 cs b.lower b.upper) (λ point. weighted_end p b (objective_weights p t) pos (best point))) same.costs
      ∙ ap (then_end (point_from t.basic t.rows 0 r.costs.items b.lower b.upper)) (fun_ext (λ point.
      weighted_same b (objective_weights p t) pos (best point) ∙ ap (λ (ws : List ℚ). weighted_end r b ws pos (best point)) (objective_weights_same t)))

  empty_same : (b : Bounds) (t : Table) (i : ℕ) → empty_end p b t i ≡ empty_end r b t i
  empty_same b t i =
      weighted_same b (row_weights p t i) (λ q. pos 0) (λ q ys. empty ys) ∙ ap (λ (ws : List ℚ). weighted_end r b ws (λ q. pos 0) (λ q ys. empty ys)) (row_weights_same t i)

  leaving_same : (b : Bounds) (t : Table) (o : Option ℕ) → by_leaving p b t o ≡ by_leaving r b t o
  leaving_same b t None = ap ends (best_same b t)
  leaving_same b t (Some i) = ap (λ (e : End). cond (has_positive (coefficients_of (row_at t i))) (leaves i) (ends e)) (empty_same b t i)

  turn_same : (b : Bounds) (known : ℕ) (t : Table) → turn p b known t ≡ turn r b known t
  unfolding turn
  turn_same b known t =
      ap (λ e. cond (is_cut t known) (ends e) (by_leaving p b t (leaving t))) (cut_same b t) ∙ ap (cond (is_cut t known) (ends (cut_end r b t))) (leaving_same b t (leaving t))

  run_same : (b : Bounds) (known k s : ℕ) (t : Table) → run p b known k s t ≡ run r b known k s t
  unfolding run
  run_same b known zero s t = ap (λ x. elim x [ ends e ↦ at_step s e | leaves i ↦ long ]) (turn_same b known t)
  run_same b known (suc k) s t =
      ap (step_by (run p b known k (s + 1)) s t) (turn_same b known t)
      ∙ ap (λ (f : Table → End). step_by f s t (turn r b known t)) (fun_ext (λ u. run_same b known k (s + 1) u))

  machine_same : (b : Bounds) (known : ℕ) → machine p b known ≡ machine r b known
  unfolding machine
  machine_same b known = ap (run p b known 10000 0) (table_same b) ∙ run_same b known 10000 0 (first_table r b)

  -- ---- marks
  objective_same : (xs : List ℤ) → objective p xs ≡ objective r xs
  objective_same xs = ap (λ (cs : List ℤ). dot ℤ_ring cs xs) same.costs

  single_same : (b : Bounds) (known : ℕ) → single_mark p b known ≡ single_mark r b known
  single_same b known = ap (λ (o : Option ℕ). single_by o p b.lower known) (unmet_same 0 p.rows.items r.rows.items same.rows b.lower) ∙ by_row (first_unmet_from 0 r.rows.items b.lower)
    where
      by_row : (o : Option ℕ) → single_by o p b.lower known ≡ single_by o r b.lower known
      by_row (Some i) = refl
      by_row None = ap (λ (z : ℤ). if le_z z (pos known) then Close (pos 1) [] else Whole (pos 1) [] z (cells_of b.lower)) (objective_same b.lower)

  end_same : (c : Branch) (e : End) → end_mark p c e ≡ end_mark r c e
  end_same c (best point q ws) = by_column (fractional_from 0 point)
    where
      by_column : (o : Option Branch) → best_by o p point q ws ≡ best_by o r point q ws
      by_column (Some c) = refl
      by_column None = ap (λ (z : ℤ). Whole q ws z (cells_of (numerators point))) (objective_same (numerators point))
  end_same c (cut q ws) = refl
  end_same c (empty ws) = refl
  end_same c (past place) = refl
  end_same c long = refl

  -- ---- nodes
  worked_same : (b : Bounds) (known : ℕ) → worked_mark p b known ≡ worked_mark r b known
  unfolding worked_mark
  worked_same b known = by_branch (unfixed_from 0 b.lower b.upper)
    where
      by_branch : (o : Option Branch) → worked_by o p b known ≡ worked_by o r b known
      by_branch None = single_same b known
      by_branch (Some c) = end_same c (machine p b known) ∙ ap (end_mark r c) (machine_same b known)

  rest_same : (b : Bounds) (o : Option Dual) → rest_mark p b o ≡ rest_mark r b o
  unfolding rest_mark
  rest_same b None = refl
  rest_same b (Some d) = ap (rest_by d) (weigh_same p r same b d.q d.weights)

  mark_same : (n : Node) (known : ℕ) (left : Bool) → table p n known left ≡ table r n known left
  unfolding table
  mark_same n known true = worked_same n.region known
  mark_same n known false = rest_same n.region n.dual

  own_same : (b : Bounds) (known : ℕ) → own_dual p b known ≡ own_dual r b known
  unfolding own_dual
  own_same b known = by_branch (unfixed_from 0 b.lower b.upper)
    where
      by_branch : (o : Option Branch) → dual_by o p b known ≡ dual_by o r b known
      by_branch None = refl
      by_branch (Some c) = ap dual_of (machine_same b known)

  -- ---- the states of a search
  open_same : (ns : List Node) (known : ℕ) (m : Mark) → open_after p ns known m ≡ open_after r ns known m
  open_same [] known m = refl
  open_same (n ∷ ns) known m = ap (λ (d : Option Dual). open_behind n (dual_or d n.dual) m ns) (own_same n.region known)

  after_same : (s : State) (m : Mark) → after p s m ≡ after r s m
  after_same s m =
      ap (λ (ns : List Node). record { open_nodes = ns; known = best_after s.known m; used = used_after s.used m }) (open_same s.open_nodes s.known m)

  next_same : (budget : ℕ) (ns : List Node) (known used : ℕ) (m : Mark) → IsNext p budget ns known used m → IsNext r budget ns known used m
  next_same budget [] known used m is = is
  next_same budget (n ∷ ns) known used m is = is ∙ mark_same n known (nat_lt used budget)

  follows_same : (budget : ℕ) (s : State) (ms : List Mark) → Follows p budget s ms → Follows r budget s ms
  follows_same budget s [] follows = tt
  follows_same budget s (m ∷ ms) follows =
      (next_same budget s.open_nodes s.known s.used m follows.0, subst (λ (u : State). Follows r budget u ms) (after_same s m) (follows_same budget (after p s m) ms follows.1))

  first_same : (low : ℕ) → first_state p low ≡ first_state r low
  first_same low = ap (λ (b : Bounds). record { open_nodes = record { region = b; dual = None } ∷ []; known = low; used = 0 }) (box_same p r same)

  behind_same : (low : ℕ) (ms : List Mark) → fold (after p) (first_state p low) ms ≡ fold (after r) (first_state r low) ms
  behind_same low ms =
      ap (λ (s : State). fold (after p) s ms) (first_same low) ∙ ap (λ (f : State → Mark → State). fold f (first_state r low) ms) (fun_ext (λ s. fun_ext (λ m. after_same s m)))

  earned_same : (low budget : ℕ) (ms : List Mark) → IsEarned p low budget ms → IsEarned r low budget ms
  earned_same low budget ms earned = record {
    follows = subst (λ (s : State). Follows r budget s ms) (first_same low) (follows_same budget (first_state p low) ms earned.follows);
    whole = ap (λ (s : State). s.open_nodes) (sym (behind_same low ms)) ∙ earned.whole;
  }

-- ---- one program has one tree
module _ (p : Program) (budget : ℕ) where
  one_mark : (ns : List Node) (known used : ℕ) (m other : Mark) → IsNext p budget ns known used m → IsNext p budget ns known used other → m ≡ other
  one_mark [] known used m other is are = absurd is
  one_mark (n ∷ ns) known used m other is are = is ∙ sym are

  none_left : (ns : List Node) (known used : ℕ) (m : Mark) → ns ≡ [] → IsNext p budget ns known used m → ⊥
  none_left ns known used m e is = subst (λ (ks : List Node). IsNext p budget ks known used m) e is

  one_list : (s : State) (ms others : List Mark) → Follows p budget s ms → Follows p budget s others → (fold (after p) s ms).open_nodes ≡ [] → (fold (after p) s others).open_nodes ≡ [] → ms ≡ others
  one_list s [] [] follows follow whole wholes = refl
  one_list s [] (m ∷ ms) follows follow whole wholes = absurd (none_left s.open_nodes s.known s.used m whole follow.0)
  one_list s (m ∷ ms) [] follows follow whole wholes = absurd (none_left s.open_nodes s.known s.used m wholes follows.0)
  one_list s (m ∷ ms) (o ∷ os) follows follow whole wholes =
      let same : m ≡ o = one_mark s.open_nodes s.known s.used m o follows.0 follow.0 in
      let back = sym same in
      let rest = one_list (after p s m) ms os follows.1 (subst (λ (k : Mark). Follows p budget (after p s k) os) back follow.1) whole
      (subst (λ (k : Mark). (fold (after p) (after p s k) os).open_nodes ≡ []) back wholes) in
      cc

pub earned_trees_are_one : EarnedTreesAreOne
earned_trees_are_one p r low budget ms others same earned earns =
    let is = earned_same p r same low budget ms earned in
    one_list r budget (first_state r low) ms others is.follows earns.follows is.whole earns.whole
