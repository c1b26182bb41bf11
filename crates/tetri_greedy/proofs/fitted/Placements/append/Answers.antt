use Rattle.std.proofs.Common.{ap, sym, subst, ◌≡◌, ◌∙◌}
use Rattle.tetri_greedy.specs.Fitted.{AreGrantsOf}
use Rattle.tetri_greedy.proofs.Placing.{append_grants, placements-append}
use Rattle.tetri_greedy.proofs.fitted.Placements.append.Goals as goal

pub invariant_of-self-in-Ok : goal.invariant_of-self-in-Ok
invariant_of-self-in-Ok c =
    let same_job : c.other.inside.job ≡ c.self.inside.job = ap (λ f. f.job) c.other.view_is ∙ c.requires ∙ sym (ap (λ f. f.job) c.self.view_is) in
    let others = subst (λ job. AreGrantsOf job c.other.inside.leaves.items c.other.inside.grants.items) same_job c.other.invariant in
    rw (c.in_ok-append.ensures.items, c.in-Ok.ensures.items)
    (append_grants c.self.inside.job c.self.inside.leaves.items c.other.inside.leaves.items c.self.inside.grants.items c.other.inside.grants.items c.self.invariant others)

pub returns-in-Ok : goal.returns-in-Ok
returns-in-Ok c =
    rw (c.in_ok-append.ensures.items, c.in-Ok.ensures.items, ← c.self.view_is, ← c.other.view_is)
    (ap (λ ps. record { job = c.self.inside.job; placements = ps })
    (placements-append c.self.inside.job c.self.inside.leaves.items c.other.inside.leaves.items c.self.inside.grants.items c.other.inside.grants.items c.self.invariant))
