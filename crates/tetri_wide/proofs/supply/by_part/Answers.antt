use Rattle.std.proofs.Common.{◌+◌, ◌<◌, ◌==◌, ◌++◌, List, Vec, Global, false, length, get_or, drop, ap, ◌∙◌, arith}
use Rattle.std.specs.List.{filter}
use Rattle.std.proofs.lemmas.List.{length-set, get_or_default}
use Rattle.tetri_wide.specs.declared.outline.Holding.{Holding}
use Rattle.tetri_base.specs.Lists.{list_at}
use Rattle.tetri_wide.proofs.ByPartLemmas.{empty_at, lists_many, passed, put}
use Rattle.tetri_wide.proofs.supply.by_part.Goals as goal
use Rattle.tetri_wide.proofs.supply.by_part.Goals.{then-holding-count+in_ok-push, else-holding-count}

abbrev other : Holding
other = record { column = 0; job = 0; leaf = record { num = 0; set = 0; k = 0; start = 0; dur = 0; v = 0; linear = false }; part = 0 }

pub loop-holding-init : goal.loop-holding-init
loop-holding-init c = record {
  count = lists_many c.in_ok-lists.lists.items c.args.count c.in_ok-lists.ensures;
  parts = λ p lt. ap (λ (ds : List Holding). ds ++ filter (λ d. d.part == p) c.args.holdings.now) (empty_at c.in_ok-lists.lists.items c.args.count p c.in_ok-lists.ensures);
}

pub loop-holding-preserved : goal.loop-holding-preserved
loop-holding-preserved c =
    let vs = c.loop-holding.lists.items in
    let cs = c.args.holdings.now in
    let i = c.loop-holding.holding-index in
    let here = get_or cs i other in
    let h = c.loop-holding.invariant in
    let short : i < length cs = c.loop-holding-test.true in
    elim c.if-holding-count.branch [
      | then-holding-count+in_ok-push w ↦ record {
        count = ap (λ (v : Vec (Vec Holding Global) Global). length v.items) w.lists-is ∙ length-set _ _ _ ∙ h.count;
        parts = λ p lt.
            ap (λ (v : Vec (Vec Holding Global) Global). list_at v.items p ++ filter (λ d. d.part == p) (drop (i + 1) cs)) w.lists-is
            ∙ put vs cs i p here (filter (λ d. d.part == p) cs) short (get_or_default cs i other here short) (h.parts p lt)
            w.index_mut.result.now w.push.new.self (omega (arith, w.if-holding-count.true, h.count)) w.index_mut.ensures.value w.in_ok-push.ensures.items;
      }
      | else-holding-count w ↦ record {
        count = ap (λ (v : Vec (Vec Holding Global) Global). length v.items) w.lists-is ∙ h.count;
        parts = λ p lt.
            ap (λ (v : Vec (Vec Holding Global) Global). list_at v.items p ++ filter (λ d. d.part == p) (drop (i + 1) cs)) w.lists-is
            ∙ passed vs cs i p here (filter (λ d. d.part == p) cs) short (get_or_default cs i other here short) (h.parts p lt)
            (λ e. omega (arith, w.if-holding-count.false, e, lt));
      }
    ]
