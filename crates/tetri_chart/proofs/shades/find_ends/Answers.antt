use Rattle.std.proofs.Common.{◌≡◌, ◌∙◌, length, map, replicate, sym, ap, arith, rules}
use Rattle.std.specs.List.{range_with_len}
use Rattle.std.proofs.lemmas.List.{drop_all, length-replicate}
use Rattle.tetri_chart.specs.Shades.{ends_of, next_change}
use Rattle.tetri_trace.specs.declared.trace.Event.{Event}
use Rattle.tetri_trace.specs.declared.trace.Happening.TheVariants.{Arrive}
use Rattle.tetri_chart.proofs.ShadeLemmas.{ends_some, node_there, row_first, row_some}
use Rattle.tetri_chart.proofs.shades.find_ends.Goals as goal

pub loop-left-init : goal.loop-left-init
loop-left-init c =
    let events = c.args.events.now in
    let fresh : c.in_ok-next.next.items ≡ replicate c.args.nodes c.args.until = search rules in
    let zeros : c.in_ok-ends.ends.items ≡ replicate (length events) 0 = search rules in
    let counted : length c.in_ok-ends.ends.items ≡ length events = ap length zeros ∙ length-replicate (length events) 0 in
    record {
      within = omega arith;
      row =
          row_first c.args.nodes c.args.until c.in_ok-next.next.items fresh
          ∙ ap (λ es. map (λ n. next_change es n c.args.until) (range_with_len 0 c.args.nodes)) (sym (drop_all (length events) events (omega arith)));
      counted = counted;
      ends =
          drop_all (length events) c.in_ok-ends.ends.items (omega (arith, counted))
          ∙ ap (ends_of c.args.until) (sym (drop_all (length events) events (omega arith)));
    }

pub index-requires : goal.index-requires
index-requires c =
    let l = c.loop-left in
    let inv = l.invariant in
    let there = node_there c.args.nodes c.args.until c.args.events.now l.left (record { at = 0; what = Arrive 0 }) c.loop-left-test.true inv.within c.requires l.next.items l.ends.items
    inv.counted inv.row inv.ends c.in-Some.node (sym c.node_of.ensures ∙ c.in-Some.is) in
    omega (arith, there, l.next.ok.0)

pub index_mut-requires-in-Some : goal.index_mut-requires-in-Some
index_mut-requires-in-Some c =
    let l = c.loop-left in
    let inv = l.invariant in
    let there = node_there c.args.nodes c.args.until c.args.events.now l.left (record { at = 0; what = Arrive 0 }) c.loop-left-test.true inv.within c.requires l.next.items l.ends.items
    inv.counted inv.row inv.ends c.in-Some.node (sym c.node_of.ensures ∙ c.in-Some.is) in
    omega (arith, there, l.next.ok.0)

pub loop-left-preserved-in-Some : goal.loop-left-preserved-in-Some
loop-left-preserved-in-Some c =
    let l = c.loop-left in
    let inv = l.invariant in
    let d : Event = record { at = 0; what = Arrive 0 } in
    let is = sym c.node_of.ensures ∙ c.in-Some.is in
    record {
      within = omega arith;
      row = row_some c.args.nodes c.args.until c.args.events.now l.left d c.loop-left-test.true inv.within c.requires l.next.items l.ends.items inv.counted inv.row inv.ends c.in-Some.node is;
      counted = search (rules, inv.counted);
      ends = ends_some c.args.nodes c.args.until c.args.events.now l.left d c.loop-left-test.true inv.within c.requires l.next.items l.ends.items inv.counted inv.row inv.ends c.in-Some.node
          c.index.result.now is c.index.ensures;
    }
