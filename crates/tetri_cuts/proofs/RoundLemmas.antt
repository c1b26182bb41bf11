-- What holds before each run of a tightening.
use Rattle.std.proofs.Common.{◌≡◌, ℕ, ◌+◌, ◌<◌, ◌≤◌, sym, ap, ◌∙◌, subst, arith, All, List, [], ◌∷◌, ◌++◌, length, Option, Some, None, option_map}
use Rattle.std.specs.Prelude.{◌-◌, IfSome, MatchOption}
use Rattle.std.specs.Option.{option_or}
use Rattle.std.proofs.lemmas.List.{length_push}
use Rattle.std.proofs.lemmas.List.Elements.{All-push}
use lib.IntN.{ℤ}
use Rattle.tetri_ip.specs.declared.programs.Program.{Program}
use Rattle.tetri_ip.specs.Points.{IsFit, IsPoint, box_of}
use Rattle.tetri_ip.specs.SamePrograms.{SaysSame}
use Rattle.tetri_cuts.specs.declared.tightening.Added.{Added}
use Rattle.tetri_cuts.specs.declared.tightening.Root.{Root}
use Rattle.tetri_cuts.specs.Cuts.{HasNoNegativeBound, IsMetByPoints}
use Rattle.tetri_cuts.specs.Tightening.{Bounds, HasRowLast, PlainRoot, Stops, Takes, Tightens, own_root, plain_root, root_behind, root_run}
use Rattle.tetri_cuts.proofs.ChainLemmas.{IsReached, SaysOfCut, first_reached, reached_end, reached_push, run_bounds, taken_says}
use Rattle.tetri_cuts.proofs.ColumnLemmas.{columns_of_row, columns_of_same, copy_fit, copy_points, lower_same, push_fit, push_points}

-- with some cuts made: the program with them, and the root before its run
pub record Holds (p : Program) (cuts : List Added) (current : Program) (root : Option Root) : Type 0 where
  pub reached : IsReached p cuts current (option_map plain_root root)
  pub fit : IsFit current
  pub lower : HasNoNegativeBound current
  pub same : current.costs.items ≡ p.costs.items
  pub points : (point : List ℤ) → IsPoint p (box_of p) point → IsPoint current (box_of current) point
  pub met : All (λ (a : Added). IsMetByPoints p a.row) cuts
  pub bound : IfSome root (λ (r : Root). Bounds p r.bound)
  pub few : length cuts ≤ 16

pub first_holds : (p current : Program) (cuts : List Added) → cuts ≡ [] → IsFit p → HasNoNegativeBound p → SaysSame p current → Holds p cuts current None
first_holds p current cuts e fit lower same = subst (λ (xs : List Added). Holds p xs current None) (sym e) (record {
  reached = first_reached p current same;
  fit = copy_fit p current same fit;
  lower = lower_same p current (columns_of_same p current same) lower;
  same = sym same.costs;
  points = copy_points p current same;
  met = λ k d l point is. absurd (omega (arith, l));
  bound = tt;
  few = omega arith;
})

-- the root behind a run
pub record IsNextRoot (p current : Program) (before after : Option Root) : Type 0 where
  pub bound : IfSome after (λ (r : Root). Bounds p r.bound)
  pub root : option_map plain_root after ≡ root_behind current (option_map plain_root before)

module _ (p : Program) (cuts : List Added) (current : Program) (root : Option Root) (h : Holds p cuts current root) where
  root_of_own : (own : Option Root) → option_map plain_root own ≡ own_root current (root_run current) → IsNextRoot p current root (option_or own root)
  root_of_own None e = record { bound = h.bound; root = ap (λ (x : Option PlainRoot). option_or x (option_map plain_root root)) e }
  root_of_own (Some r) e = record { bound = run_bounds p current (plain_root r) h.fit h.same h.points (sym e); root = ap (λ (x : Option PlainRoot). option_or x (option_map plain_root root)) e }

  pub next_root : (own after : Option Root) → option_map plain_root own ≡ own_root current (root_run current) → after ≡ option_or own root → IsNextRoot p current root after
  next_root own after e f = subst (λ x. IsNextRoot p current root x) (sym f) (root_of_own own e)

  pub says_of_cut : (cut : Option Added) (a : Added) (n : ℕ) → MatchOption cut (Stops current n) (Takes current n) → cut ≡ Some a → SaysOfCut current n a
  says_of_cut cut a n m e = taken_says current n a h.fit h.lower (subst (λ x. MatchOption x (Stops current n) (Takes current n)) e m)

  pub next_holds : (own after : Option Root) (cut : Option Added) (a : Added) (n : ℕ) (new : List Added) (next : Program) → option_map plain_root own ≡ own_root current (root_run current) →
      after ≡ option_or own root → n ≡ length cuts → MatchOption cut (Stops current n) (Takes current n) → cut ≡ Some a → HasRowLast current a.row next → new ≡ cuts ++ a ∷ [] → Holds p new next after
  next_holds own after cut a n new next e f count m c row pushed =
      let r = next_root own after e f in
      let takes : Takes current n a = subst (λ x. MatchOption x (Stops current n) (Takes current n)) c m in
      let says = says_of_cut cut a n m c in
      let longer : length new ≡ length cuts + 1 = ap (λ (xs : List Added). length xs) pushed ∙ length_push cuts a in
      record {
        reached = subst (λ x. IsReached p new next x) (sym r.root) (reached_push p cuts new current (option_map plain_root root) a next pushed h.reached (subst (λ i. Takes current i a) count takes) row);
        fit = push_fit current next a.row row says.few_rows says.fit h.fit;
        lower = lower_same current next (columns_of_row current next a.row row) h.lower;
        same = row.costs ∙ h.same;
        points = λ point is. push_points current next a.row row says.met point (h.points point is);
        met = subst (λ (xs : List Added). All (λ (x : Added). IsMetByPoints p x.row) xs) (sym pushed) (All-push (λ (x : Added). IsMetByPoints p x.row) cuts a h.met (λ point is. says.met point (h.points point is)));
        bound = r.bound;
        few = omega (arith, longer, count, says.few_cuts);
      }

  pub is_less : (cut : Option Added) (a : Added) (n : ℕ) (new : List Added) → n ≡ length cuts → MatchOption cut (Stops current n) (Takes current n) → cut ≡ Some a → new ≡ cuts ++ a ∷ [] →
      17 - length new < 17 - length cuts
  is_less cut a n new count m c pushed =
      let says = says_of_cut cut a n m c in
      let longer : length new ≡ length cuts + 1 = ap (λ (xs : List Added). length xs) pushed ∙ length_push cuts a in
      omega (arith, longer, count, says.few_cuts)

  pub tightened : (own after : Option Root) (cut : Option Added) (n : ℕ) → option_map plain_root own ≡ own_root current (root_run current) → after ≡ option_or own root → n ≡ length cuts →
      MatchOption cut (Stops current n) (Takes current n) → cut ≡ None → (first : Program) × (SaysSame p first × Tightens first 0 None cuts (option_map plain_root after))
  tightened own after cut n e f count m c =
      let stops : Stops current n = subst (λ x. MatchOption x (Stops current n) (Takes current n)) c m in
      reached_end p cuts current (option_map plain_root root) (option_map plain_root after) h.reached (subst (λ i. Stops current i) count stops) (next_root own after e f).root
