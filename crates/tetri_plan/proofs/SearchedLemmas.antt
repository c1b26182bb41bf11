-- What a search says of the best plan.
use Rattle.std.proofs.Common.{◌≡◌, ℕ, ◌*◌, ◌^◌, ◌<◌, ◌≤◌, ◌∙◌, refl, sym, ap, subst, arith, List, [], ◌∷◌, length, All, Option, Some, None, Result, Ok}
use Rattle.std.specs.Prelude.{IfSome, MatchOption, option_map}
use Rattle.std.specs.Global.{Vec}
use Rattle.std.proofs.lemmas.Int.{ints}
use Rattle.std.proofs.lemmas.List.{length-map}
use Rattle.std.proofs.lemmas.List.FromFn.{length-map-range_with_len}
use lib.IntN.{ℤ, pos}
use Rattle.tetri_ip.specs.declared.programs.Program.{Program}
use Rattle.tetri_ip.specs.Points.{IsFit, IsPoint, box_of, objective}
use Rattle.tetri_cert.specs.declared.certificate.Certificate.TheVariants.{Tops, Tree}
use Rattle.tetri_cert.specs.declared.faults.TreeFault.{TreeFault}
use Rattle.tetri_cert.specs.declared.marks.Cell.{Cell}
use Rattle.tetri_cert.specs.declared.marks.Mark.{Mark}
use Rattle.tetri_cert.specs.Cells.{point_of}
use Rattle.tetri_cert.specs.NodeText.{HasShortLists, IsPlain}
use Rattle.tetri_cert.specs.Trees.{nodes_in, tree_bound}
use Rattle.tetri_strl.specs.declared.grants.Grant.{Grant}
use Rattle.tetri_space.specs.Sound.{IsSound}
use Rattle.tetri_space.specs.Space.{Space}
use Rattle.tetri_space.specs.Lawful.{IsLawful}
use Rattle.tetri_space.specs.Total.{tops_in, total_in}
use Rattle.tetri_space.specs.Trimmed.{IsThriftyForAll, all_trimmed}
use Rattle.tetri_space.proofs.InstanceLaws.{total_trimmed}
use Rattle.tetri_compile.specs.Draft.{draft}
use Rattle.tetri_compile.specs.Flat.{FlatProgram, column_count, plain, plain_row, program_of, row_count}
use Rattle.tetri_assign.specs.Assigned.{assigned}
use Rattle.tetri_assign.proofs.AssignLaws.{assigned_lawful, assigned_worth}
use Rattle.tetri_search.specs.Follow.{IsEarned, best_behind, last_whole}
use Rattle.tetri_search.specs.Laws.{enough, points_in}
use Rattle.tetri_search.specs.declared.searching.Found.{Found}
use Rattle.tetri_search.proofs.SearchLaws.{earned_is_proper, enough_leaves_no_rest}
use Rattle.tetri_claims.specs.Certified.{MayHaveTree}
use Rattle.tetri_plan.specs.Chosen.{better_found}
use Rattle.tetri_plan.specs.Plans.{enough_in}
use Rattle.tetri_plan.specs.Searched.{IsSearched, better_at}
use Rattle.tetri_plan.specs.declared.planning.Candidate.{Candidate}
use Rattle.tetri_plan.proofs.KeptLemmas.{IsFair, better_bounds, of_better, trimmed_is_fair}

-- a search has a mark
some_marks : (p : Program) (low budget : ℕ) (ms : List Mark) → IsEarned p low budget ms → 1 ≤ length ms
some_marks p low budget [] earned = let e = earned.whole in cc
some_marks p low budget (m ∷ ms) earned = omega arith

same_bound : (b c : ℕ) → ◌≡◌ {A = Result ℕ TreeFault} (Ok b) (Ok c) → b ≡ c
same_bound b c e = cc

found_is : (s : Space) (best : List Grant) (o : Option (List Cell)) → better_at s best (option_map (point_of (column_count s)) o) ≡ better_found s best o
found_is s best None = refl
found_is s best (Some cells) = refl

module _ (s : Space) (p : Program) (is : plain p ≡ program_of s) where
  columns_are : length p.costs.items ≡ column_count s
  columns_are = ap (λ (f : FlatProgram). length f.costs) is ∙ length-map-range_with_len _ 0 (column_count s)

  rows_are : length p.rows.items ≡ row_count s
  rows_are = sym (length-map p.rows.items plain_row) ∙ ap (λ (f : FlatProgram). length f.rows) is ∙ length-map (draft s).rows _

  enough_is : enough p ≡ enough_in s
  enough_is = ap (λ (f : FlatProgram). 2 * points_in f.lower f.upper) is

  module _ (sound : IsSound s) (best : List Grant) where
    at_fair : (o : Option (Vec ℤ)) → IfSome o (λ v. IsPoint p (box_of p) v.items) → IsFair s best → IsFair s (better_at s best (option_map (λ v. v.items) o))
    at_fair None at fair = fair
    at_fair (Some v) at fair =
        let a = assigned s v.items in
        of_better s (IsFair s) best (all_trimmed s a) fair (trimmed_is_fair s sound a (assigned_lawful s sound p is v.items at))

    at_least : (o : Option (List ℤ)) → total_in s best ≤ total_in s (better_at s best o)
    at_least None = omega arith
    at_least (Some x) = (better_bounds s best (all_trimmed s (assigned s x))).0

    -- the best objective known at the end of a search can be had
    known_is_had : (o : Option (Vec ℤ)) (known low : ℕ) → low ≡ total_in s best → IfSome o (λ v. IsPoint p (box_of p) v.items) → MatchOption o (known ≡ low) (λ v. pos known ≡ objective p v.items) →
        known ≤ total_in s (better_at s best (option_map (λ v. v.items) o))
    known_is_had None known low is_low at is_known = omega (arith, is_low, is_known)
    known_is_had (Some v) known low is_low at is_known =
        let a = assigned s v.items in
        omega (arith, ints, is_known, assigned_worth s sound p is v.items at, total_trimmed s sound a, (better_bounds s best (all_trimmed s a)).1)

    -- the search of an instance that may have a tree, and the better of what was kept and what its last whole point gives
    pub searched_is : (low budget : ℕ) (f : Found) (c : Candidate) → MayHaveTree s → IsFit p → IsFair s best → low ≡ total_in s best →
        IsEarned p low budget f.marks → tree_bound p f.marks ≡ Ok f.bound → f.nodes ≡ nodes_in f.marks → f.best ≡ best_behind low f.marks →
        option_map (λ (v : Vec ℤ). v.items) f.last ≡ option_map (point_of (length p.costs.items)) (last_whole f.marks) →
        IfSome f.last (λ v. IsPoint p (box_of p) v.items) → MatchOption f.last (f.best ≡ low) (λ v. pos f.best ≡ objective p v.items) →
        All IsPlain f.marks → (length p.costs.items ≤ 2000 → length p.rows.items ≤ 2000 → All (HasShortLists 2000) f.marks) →
        c.grants ≡ better_at s best (option_map (λ (v : Vec ℤ). v.items) f.last) → c.worth ≡ total_in s c.grants →
        IsSearched s best budget (record { best = c; bound = f.bound; nodes = f.nodes; certificate = Tree f.marks })
    searched_is low budget f c may fit fair is_low earned bound nodes known last point had plain_marks short grants worth =
        let a = better_at s best (option_map (λ (v : Vec ℤ). v.items) f.last) in
        let fair_now = at_fair f.last point fair in
        let same : total_in s c.grants ≡ total_in s a = ap (total_in s) grants in
        let settled = earned_is_proper p low budget f.marks fit earned in
        record {
          grants = grants ∙ ap (better_at s best) (last ∙ ap (λ n. option_map (point_of n) (last_whole f.marks)) columns_are) ∙ found_is s best (last_whole f.marks);
          lawful = subst (IsLawful s) (sym grants) fair_now.lawful;
          thrifty = subst (IsThriftyForAll s) (sym grants) fair_now.thrifty;
          worth = worth;
          at_least = omega (arith, worth, same, at_least (option_map (λ (v : Vec ℤ). v.items) f.last));
          tree = (λ has. may, λ h. tt);
          kind = may;
          bound = (p, is, bound);
          nodes = nodes;
          earned = (p, is, subst (λ k. IsEarned p k budget f.marks) is_low earned);
          printable = (some_marks p low budget f.marks earned, plain_marks, short (omega (arith, columns_are, may.columns)) (omega (arith, rows_are, may.rows)));
          closed = λ has none.
              let bound_is : f.bound ≡ settled.bound = same_bound _ _ (sym bound ∙ settled.bound_is) in
              omega (arith, bound_is, settled.at_most none, known, known_is_had f.last f.best low is_low point had, same, worth);
          enough = λ le. enough_leaves_no_rest p low budget f.marks fit earned (omega (arith, enough_is, le));
        }

-- what is kept, with the tops
pub bounded_by_tops : (s : Space) (budget bound columns rows : ℕ) (c : Candidate) → IsFair s c.grants → c.worth ≡ total_in s c.grants → bound ≡ tops_in s → (MayHaveTree s → ⊥) →
    columns ≡ column_count s → rows ≡ row_count s → columns < 2 ^ 64 → rows < 2 ^ 64 → IsSearched s c.grants budget (record { best = c; bound = bound; nodes = 0; certificate = Tops columns rows })
bounded_by_tops s budget bound columns rows c fair worth is_bound not_tree columns_are rows_are few_columns few_rows = record {
  grants = refl;
  lawful = fair.lawful;
  thrifty = fair.thrifty;
  worth = worth;
  at_least = omega (arith, worth);
  tree = (λ has. absurd has, λ may. absurd (not_tree may));
  kind = (not_tree, columns_are, rows_are);
  bound = is_bound;
  nodes = refl;
  earned = tt;
  printable = (few_columns, few_rows);
  closed = λ has none. absurd has;
  enough = λ le. refl;
}
