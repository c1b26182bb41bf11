use Rattle.std.proofs.Common.{◌≡◌, ◌+◌, ◌++◌, ◌∙◌, drop, get_or, length, string_bytes, sym, ap, subst, arith}
use Rattle.tetri_chart.specs.Shades.{ends_of, outage_text}
use Rattle.tetri_trace.specs.Scenario.{scenario}
use Rattle.tetri_trace.specs.declared.trace.Event.{Event}
use Rattle.tetri_trace.specs.declared.trace.Happening.TheVariants.{Arrive}
use Rattle.tetri_chart.proofs.ShadeLemmas.{ends_at, length-ends_of, outage_on}
use Rattle.tetri_chart.proofs.shades.add_outages.Goals as goal

pub index-requires : goal.index-requires
index-requires c =
    let t = scenario c.args.trace.now in
    let all : c.in_ok-ends.ends.items ≡ ends_of t.header.until t.events = c.in_ok-ends.ensures ∙ ap (ends_of t.header.until) c.deref.ensures.value in
    omega (arith, c.loop-place-test.true, ap length c.deref-event-items.ensures.value, ap length all, length-ends_of t.header.until t.events, c.in_ok-ends.ends.ok.0)

pub loop-place-preserved : goal.loop-place-preserved
loop-place-preserved c =
    let t = scenario c.args.trace.now in
    let f = c.args.frame.now in
    let l = c.loop-place in
    let items = c.deref-event-items.result.now in
    let d : Event = record { at = 0; what = Arrive 0 } in
    let same : items ≡ t.events = c.deref-event-items.ensures.value in
    let all : c.in_ok-ends.ends.items ≡ ends_of t.header.until items = c.in_ok-ends.ensures ∙ ap (ends_of t.header.until) (c.deref.ensures.value ∙ sym same) in
    let end = c.index.ensures ∙ ap (λ ns. get_or ns l.place c.index.result.now) all ∙ ends_at t.header.until items l.place c.index.result.now d c.loop-place-test.true in
    let step : string_bytes c.add_outage.new.out ≡ string_bytes l.out ++ outage_text t f (get_or t.events l.place d) (drop (l.place + 1) t.events) =
    subst (λ es. string_bytes c.add_outage.new.out ≡ string_bytes l.out ++ outage_text t f (get_or es l.place d) (drop (l.place + 1) es)) same
    (c.in_ok-add_outage.ensures (drop (l.place + 1) items) end) in
    outage_on t f t.events l.place d (string_bytes l.out) (string_bytes c.add_outage.new.out) _ (omega (arith, c.loop-place-test.true, ap length same)) step l.invariant
