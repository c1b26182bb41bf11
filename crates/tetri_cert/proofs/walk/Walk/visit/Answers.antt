use Rattle.std.proofs.Common.{◌≡◌, ℕ, ◌+◌, ◌<◌, ◌∙◌, ap, length, sym, subst, All, reverse, true, rules, List}
use Rattle.tetri_ip.specs.Points.{Bounds, bounds_of}
use Rattle.tetri_cert.specs.Turns.{pending}
use Rattle.tetri_cert.specs.Walks.{AreInBox, tells_nodes}
use Rattle.tetri_cert.proofs.RegionLemmas.{sides_in_box}
use Rattle.tetri_cert.proofs.Steps.{first_in_box, has_sides, length_kept, tells_dead}
use Rattle.tetri_cert.proofs.walk.Walk.visit.Goals as goal

pub returns-then-not-self-clause-ok : goal.returns-then-not-self-clause-ok
unfolding tells_nodes
returns-then-not-self-clause-ok c = λ rest. tells_dead c.args.self.now c.args.p.now c.args.mark.now rest (c.args.self.now.node + 1) c.if-not-self.true

pub turn_on-requires-clause-sides : goal.turn_on-requires-clause-sides
turn_on-requires-clause-sides c =
    let w = c.args.self.now in
    has_sides c.args.p.now (bounds_of w.region) w.node c.args.mark.now c.in-Ok.most c.requires.over.lower c.in-Ok.ensures

pub returns-clause-over : goal.returns-clause-over
returns-clause-over c =
    let w = c.args.self.now in
    let p = c.args.p.now in
    let b = bounds_of w.region in
    let l : w.live ≡ true = search rules in
    let i = first_in_box p w l c.requires.over.in_box in
    let s = has_sides p b w.node c.args.mark.now c.in-Ok.most c.requires.over.lower c.in-Ok.ensures in
    let n = c.in_ok-self.ensures.lower ∙ c.requires.over.lower in
    record {
      lower = n;
      upper = c.in_ok-self.ensures.upper ∙ c.requires.over.upper;
      factors = length_kept w.factors.len c.test_node.new.factors w.factors.items (sym w.factors.ok.0) (c.test_node.auto.factors ∙ ap length c.deref_mut.ensures.value) ∙ c.requires.over.factors;
      in_box = subst (λ (bs : List Bounds). AreInBox p bs) (sym c.in_ok-self.ensures.next) (sides_in_box p b c.args.mark.now (pending b (reverse w.trail.items)) i.0 s i.1);
      columns = subst (λ (k : ℕ). All (λ t. t.column < k) c.turn_on.new.trail.items) n c.in_ok-self.ensures.columns;
      places = c.requires.over.places;
      counted = c.requires.over.counted;
    }
