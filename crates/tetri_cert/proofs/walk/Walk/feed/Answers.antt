use Rattle.std.proofs.Common.{ℕ, ◌+◌, ◌-◌, ap, ◌∙◌, arith}
use Rattle.tetri_cert.specs.declared.walk.Walk.{Walk}
use Rattle.tetri_cert.specs.Trees.{places_behind}
use Rattle.tetri_cert.specs.Walks.{tells, tells_nodes}
use Rattle.tetri_cert.proofs.Steps.{tells_step}
use Rattle.tetri_cert.proofs.walk.Walk.feed.Goals as goal

pub returns-clause-ok : goal.returns-clause-ok
unfolding tells tells_nodes
returns-clause-ok c = λ rest.
    let w = c.args.self.now in
    let v : Walk = record c.visit.new.self { node = w.node + 1 } in
    let s = c.in_ok-visit.ensures.same in
    ap (λ (n : ℕ). tells (record c.visit.new.self { places = c.behind-self.result; node = n + 1 }) c.args.p.now rest) s.2
    ∙ tells_step w v c.args.p.now c.args.mark.now rest c.behind-self.result (omega arith) s.1 (c.behind-self.ensures ∙ ap (λ k. places_behind c.args.mark.now (k - 1)) s.0) (c.in_ok-visit.ensures.ok rest)
