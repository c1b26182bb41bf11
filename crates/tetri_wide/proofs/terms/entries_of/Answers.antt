use Rattle.std.proofs.Common.{◌≤◌, ◌==◌, List, cond, ap, ◌∙◌, rules, arith}
use Rattle.std.specs.List.Sorted.{IsNonDecreasingBy}
use Rattle.std.proofs.lemmas.List.Sorted.{IsNonDecreasingBy-from_sort_by_key}
use Rattle.tetri_base.specs.Lists.{sum_of}
use Rattle.tetri_base.proofs.ListLaws.{EachPair-from}
use Rattle.tetri_compile.proofs.EntryLemmas.{sum_of-moved}
use Rattle.tetri_wide.specs.declared.terms.Sides.{Sides}
use Rattle.tetri_wide.specs.Entries.{times_in}
use Rattle.tetri_wide.specs.Sketch.{form_of}
use Rattle.tetri_wide.proofs.EntryLemmas.{both_plus, both_minus, all_plus, all_minus, below_moved}
use Rattle.tetri_wide.proofs.terms.entries_of.Goals as goal

pub returns-clause-entries : goal.returns-clause-entries
returns-clause-entries c =
    let f = form_of c.args.most.now in
    let g = form_of c.args.under.now in
    let es = c.in_ok-entries.entries.items in
    let sorted = c.sort_by_key.new.self.items in
    let moved = c.in_ok-sort_by_key.ensures.permutation in
    let up : IsNonDecreasingBy (λ (e : Sides). e.column) sorted = IsNonDecreasingBy-from_sort_by_key (λ e. e.column) _ c.in_ok-sort_by_key.ensures.sorted (λ a r q k. search rules) in
    record {
      ascending = EachPair-from (λ (d e : Sides). d.column ≤ e.column) sorted (λ i j d lt short. up i j d (omega arith) short);
      plus = λ j. sum_of-moved (λ (e : Sides). cond (e.column == j) e.plus 0) es sorted moved ∙ ap (λ (xs : List Sides). times_in (λ e. e.plus) xs j) c.in_ok-entries.ensures ∙ both_plus f g j;
      minus = λ j. sum_of-moved (λ (e : Sides). cond (e.column == j) e.minus 0) es sorted moved ∙ ap (λ (xs : List Sides). times_in (λ e. e.minus) xs j) c.in_ok-entries.ensures ∙ both_minus f g j;
    }

pub returns-clause-columns : goal.returns-clause-columns
returns-clause-columns c = λ n p q.
    below_moved n (form_of c.args.most.now) (form_of c.args.under.now) c.in_ok-entries.entries.items c.sort_by_key.new.self.items c.in_ok-entries.ensures c.in_ok-sort_by_key.ensures.permutation p q

pub returns-clause-plus : goal.returns-clause-plus
returns-clause-plus c =
    sum_of-moved (λ (e : Sides). e.plus) c.in_ok-entries.entries.items c.sort_by_key.new.self.items c.in_ok-sort_by_key.ensures.permutation
    ∙ ap (λ (xs : List Sides). sum_of (λ (e : Sides). e.plus) xs) c.in_ok-entries.ensures ∙ all_plus (form_of c.args.most.now) (form_of c.args.under.now)

pub returns-clause-minus : goal.returns-clause-minus
returns-clause-minus c =
    sum_of-moved (λ (e : Sides). e.minus) c.in_ok-entries.entries.items c.sort_by_key.new.self.items c.in_ok-sort_by_key.ensures.permutation
    ∙ ap (λ (xs : List Sides). sum_of (λ (e : Sides). e.minus) xs) c.in_ok-entries.ensures ∙ all_minus (form_of c.args.most.now) (form_of c.args.under.now)
