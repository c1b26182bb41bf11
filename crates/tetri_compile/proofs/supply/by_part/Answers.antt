use Rattle.std.proofs.Common.{◌+◌, ◌<◌, ◌==◌, ◌++◌, List, Vec, Global, false, length, get_or, drop, ap, ◌∙◌, arith}
use Rattle.std.specs.List.{filter}
use Rattle.std.proofs.lemmas.List.{length-set, get_or_default}
use Rattle.tetri_compile.specs.declared.outline.Tally.{Tally}
use Rattle.tetri_base.specs.Lists.{list_at}
use Rattle.tetri_compile.proofs.ByPartLemmas.{empty_at, lists_many, passed, put}
use Rattle.tetri_compile.proofs.supply.by_part.Goals as goal
use Rattle.tetri_compile.proofs.supply.by_part.Goals.{then-tally-count+in_ok-push, else-tally-count}

abbrev other : Tally
other = record { column = 0; job = 0; leaf = record { num = 0; set = 0; k = 0; start = 0; dur = 0; v = 0; linear = false }; part = 0 }

pub loop-tally-init : goal.loop-tally-init
loop-tally-init c = record {
  count = lists_many c.in_ok-lists.lists.items c.args.count c.in_ok-lists.ensures;
  parts = λ p lt. ap (λ (ds : List Tally). ds ++ filter (λ d. d.part == p) c.args.tallies.now) (empty_at c.in_ok-lists.lists.items c.args.count p c.in_ok-lists.ensures);
}

pub loop-tally-preserved : goal.loop-tally-preserved
loop-tally-preserved c =
    let vs = c.loop-tally.lists.items in
    let cs = c.args.tallies.now in
    let i = c.loop-tally.tally-index in
    let here = get_or cs i other in
    let h = c.loop-tally.invariant in
    let short : i < length cs = c.loop-tally-test.true in
    elim c.if-tally-count.branch [
      | then-tally-count+in_ok-push w ↦ record {
        count = ap (λ (v : Vec (Vec Tally Global) Global). length v.items) w.lists-is ∙ length-set _ _ _ ∙ h.count;
        parts = λ p lt.
            ap (λ (v : Vec (Vec Tally Global) Global). list_at v.items p ++ filter (λ d. d.part == p) (drop (i + 1) cs)) w.lists-is
            ∙ put vs cs i p here (filter (λ d. d.part == p) cs) short (get_or_default cs i other here short) (h.parts p lt)
            w.index_mut.result.now w.push.new.self (omega (arith, w.if-tally-count.true, h.count)) w.index_mut.ensures.value w.in_ok-push.ensures.items;
      }
      | else-tally-count w ↦ record {
        count = ap (λ (v : Vec (Vec Tally Global) Global). length v.items) w.lists-is ∙ h.count;
        parts = λ p lt.
            ap (λ (v : Vec (Vec Tally Global) Global). list_at v.items p ++ filter (λ d. d.part == p) (drop (i + 1) cs)) w.lists-is
            ∙ passed vs cs i p here (filter (λ d. d.part == p) cs) short (get_or_default cs i other here short) (h.parts p lt)
            (λ e. omega (arith, w.if-tally-count.false, e, lt));
      }
    ]
