use Rattle.std.proofs.Common.{◌≡◌, ◌∙◌, ℕ, List, All, AllPairs, ◌<◌, length, ap, sym, subst}
use Rattle.std.specs.Prelude.{◌≤ℤ◌}
use Rattle.std.specs.List.Sorted.{IsNonDecreasingBy}
use Rattle.std.proofs.lemmas.Result.{IfOk-weaker}
use lib.IntN.{pos}
use Rattle.tetri_strl.specs.declared.grants.Grant.{Grant}
use Rattle.tetri_ip.specs.Points.{objective}
use Rattle.tetri_space.specs.GrantOrder.{ComesBefore}
use Rattle.tetri_space.specs.Lawful.{IsLawful}
use Rattle.tetri_space.specs.Total.{total_in}
use Rattle.tetri_assign.specs.Granting.{GrantsCounts}
use Rattle.tetri_space.specs.Partitions.{partitions}
use Rattle.tetri_space.specs.Space.{space}
use Rattle.tetri_assign.specs.Assigned.{assigned, gathered}
use Rattle.tetri_assign.specs.steps.Taking.{backs, taken_from, wants_from}
use Rattle.tetri_assign.specs.declared.wants.Want.{Want}
use Rattle.tetri_assign.proofs.AssignLemmas.{counts_right, gathered_assigned, wants_last, wants_there, wants_turn}
use Rattle.tetri_assign.proofs.Law.{assigned_counts, assigned_lawful, assigned_ordered, assigned_worth}
use Rattle.tetri_assign.proofs.assigning.assign.Goals as goal

pub counts_of-requires-clause-counts : goal.counts_of-requires-clause-counts
counts_of-requires-clause-counts c = counts_right (space c.args.inst.now) c.requires.sound c.args.c.now c.requires.compiled c.args.point.now c.requires.point

pub take_nodes-requires-clause-there : goal.take_nodes-requires-clause-there
take_nodes-requires-clause-there c =
    let s = space c.args.inst.now in
    let there : All (λ w. w.part < length (partitions s)) c.sort.new.self.items =
    wants_there s c.requires.sound c.args.c.now c.requires.compiled c.args.point.now c.requires.point
    c.in_ok-counts.counts.items c.in_ok-wants.wants.items c.sort.new.self.items c.in_ok-counts.ensures (c.in_ok-wants.ensures ∙ ap (wants_from s.bids) c.deref.ensures.value)
    c.in_ok-sort.ensures.permutation c.in_ok-sort.ensures.sorted in
    subst (λ (ws : List Want). All (λ w. w.part < length c.args.parts.now.groups.items) ws) (sym c.deref-2.ensures.value)
    (subst (λ (k : ℕ). All (λ w. w.part < k) c.sort.new.self.items) (sym (ap length c.requires.partitions.groups)) there)

pub take_nodes-requires-clause-some_slots : goal.take_nodes-requires-clause-some_slots
take_nodes-requires-clause-some_slots c =
    let s = space c.args.inst.now in
    subst (λ (ws : List Want). All (λ w. w.start < w.end) ws) (sym c.deref-2.ensures.value)
    (wants_last s c.requires.sound c.args.c.now c.requires.compiled c.args.point.now c.requires.point
    c.in_ok-counts.counts.items c.in_ok-wants.wants.items c.sort.new.self.items c.in_ok-counts.ensures (c.in_ok-wants.ensures ∙ ap (wants_from s.bids) c.deref.ensures.value)
    c.in_ok-sort.ensures.permutation c.in_ok-sort.ensures.sorted)

pub take_nodes-requires-clause-in_turn : goal.take_nodes-requires-clause-in_turn
take_nodes-requires-clause-in_turn c =
    let s = space c.args.inst.now in
    subst (IsNonDecreasingBy (λ (w : Want). w.start)) (sym c.deref-2.ensures.value)
    (wants_turn s c.requires.sound c.args.c.now c.requires.compiled c.args.point.now c.requires.point
    c.in_ok-counts.counts.items c.in_ok-wants.wants.items c.sort.new.self.items c.in_ok-counts.ensures (c.in_ok-wants.ensures ∙ ap (wants_from s.bids) c.deref.ensures.value)
    c.in_ok-sort.ensures.permutation c.in_ok-sort.ensures.sorted)

pub returns-clause-assigned : goal.returns-clause-assigned
returns-clause-assigned c =
    let s = space c.args.inst.now in
    let is : gathered c.deref-3.result.now ≡ assigned s c.args.point.now =
    ap gathered c.deref-3.ensures.value
    ∙ gathered_assigned s c.requires.sound c.args.c.now c.requires.compiled c.args.point.now c.requires.point
    c.in_ok-counts.counts.items c.in_ok-wants.wants.items c.sort.new.self.items c.in_ok-counts.ensures (c.in_ok-wants.ensures ∙ ap (wants_from s.bids) c.deref.ensures.value)
    c.in_ok-sort.ensures.permutation c.in_ok-sort.ensures.sorted
    c.in_ok-held.held.items c.sort-2.new.self.items (c.in_ok-held.ensures ∙ ap (taken_from (partitions s) (backs s)) c.deref-2.ensures.value)
    c.in_ok-sort-2.ensures.permutation c.in_ok-sort-2.ensures.sorted in
    IfOk-weaker c.gather.result (λ a. a ≡ gathered c.deref-3.result.now) (λ a. a ≡ assigned s c.args.point.now) (λ a e. e ∙ is) c.gather.ensures

pub returns-clause-counts : goal.returns-clause-counts
returns-clause-counts c =
    let s = space c.args.inst.now in
    let point = c.args.point.now in
    IfOk-weaker c.gather.result (λ a. a ≡ assigned s point) (GrantsCounts s point)
    (λ a e. subst (GrantsCounts s point) (sym e) (assigned_counts s c.requires.sound c.args.c.now.program c.requires.compiled.program point c.requires.point)) (returns-clause-assigned c)

pub returns-clause-lawful : goal.returns-clause-lawful
returns-clause-lawful c =
    let s = space c.args.inst.now in
    let point = c.args.point.now in
    IfOk-weaker c.gather.result (λ a. a ≡ assigned s point) (IsLawful s)
    (λ a e. subst (IsLawful s) (sym e) (assigned_lawful s c.requires.sound c.args.c.now.program c.requires.compiled.program point c.requires.point)) (returns-clause-assigned c)

pub returns-clause-ordered : goal.returns-clause-ordered
returns-clause-ordered c =
    let s = space c.args.inst.now in
    let point = c.args.point.now in
    IfOk-weaker c.gather.result (λ a. a ≡ assigned s point) (λ a. AllPairs ComesBefore a)
    (λ a e. subst (λ (z : List Grant). AllPairs ComesBefore z) (sym e) (assigned_ordered s c.requires.sound c.args.c.now.program c.requires.compiled.program point c.requires.point)) (returns-clause-assigned c)

pub returns-clause-worth : goal.returns-clause-worth
returns-clause-worth c =
    let s = space c.args.inst.now in
    let point = c.args.point.now in
    let program = c.args.c.now.program in
    IfOk-weaker c.gather.result (λ a. a ≡ assigned s point) (λ a. objective program point ≤ℤ pos (total_in s a))
    (λ a e. subst (λ (z : List Grant). objective program point ≤ℤ pos (total_in s z)) (sym e) (assigned_worth s c.requires.sound program c.requires.compiled.program point c.requires.point)) (returns-clause-assigned c)
