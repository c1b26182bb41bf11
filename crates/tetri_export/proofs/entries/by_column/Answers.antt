use Rattle.std.proofs.Common.{◌+◌, ◌<◌, ◌==◌, ◌++◌, List, Vec, Global, length, get_or, drop, ap, ◌∙◌, arith}
use Rattle.std.specs.Prelude.{pos}
use Rattle.std.specs.List.{filter}
use Rattle.std.proofs.lemmas.List.{length-set, get_or_default}
use Rattle.tetri_export.specs.declared.entries.Entry.{Entry}
use Rattle.tetri_base.specs.Lists.{list_at}
use Rattle.tetri_export.proofs.EntryLemmas.{empty_at, lists_many, passed, put}
use Rattle.tetri_export.proofs.entries.by_column.Goals as goal
use Rattle.tetri_export.proofs.entries.by_column.Goals.{then-column-count+in_ok-push, else-column-count}

abbrev other : Entry
other = record { row = 0; column = 0; by = pos 0 }

pub loop-entry-init : goal.loop-entry-init
loop-entry-init c = record {
  count = lists_many c.in_ok-lists.lists.items c.args.count c.in_ok-lists.ensures;
  columns = λ p lt. ap (λ (ds : List Entry). ds ++ filter (λ d. d.column == p) c.args.entries.now) (empty_at c.in_ok-lists.lists.items c.args.count p c.in_ok-lists.ensures);
}

pub loop-entry-preserved : goal.loop-entry-preserved
loop-entry-preserved c =
    let vs = c.loop-entry.lists.items in
    let cs = c.args.entries.now in
    let i = c.loop-entry.entry-index in
    let here = get_or cs i other in
    let h = c.loop-entry.invariant in
    let short : i < length cs = c.loop-entry-test.true in
    elim c.if-column-count.branch [
      | then-column-count+in_ok-push w ↦ record {
        count = ap (λ (v : Vec (Vec Entry Global) Global). length v.items) w.lists-is ∙ length-set _ _ _ ∙ h.count;
        columns = λ p lt.
            ap (λ (v : Vec (Vec Entry Global) Global). list_at v.items p ++ filter (λ d. d.column == p) (drop (i + 1) cs)) w.lists-is
            ∙ put vs cs i p here (filter (λ d. d.column == p) cs) short (get_or_default cs i other here short) (h.columns p lt)
            w.index_mut.result.now w.push.new.self (omega (arith, w.if-column-count.true, h.count)) w.index_mut.ensures.value w.in_ok-push.ensures.items;
      }
      | else-column-count w ↦ record {
        count = ap (λ (v : Vec (Vec Entry Global) Global). length v.items) w.lists-is ∙ h.count;
        columns = λ p lt.
            ap (λ (v : Vec (Vec Entry Global) Global). list_at v.items p ++ filter (λ d. d.column == p) (drop (i + 1) cs)) w.lists-is
            ∙ passed vs cs i p here (filter (λ d. d.column == p) cs) short (get_or_default cs i other here short) (h.columns p lt)
            (λ e. omega (arith, w.if-column-count.false, e, lt));
      }
    ]
