use Rattle.std.proofs.Common.{ℕ, Vec, Global, ap, sym, ◌∙◌, arith, add-zero}
use Rattle.std.specs.Prelude.{nat_le}
use Rattle.std.proofs.lemmas.List.{drop_all}
use Rattle.std.proofs.lemmas.List.Sorted.{IsNonDecreasingBy-from_sort}
use Rattle.tetri_base.specs.Lists.{bit, count}
use Rattle.tetri_space.specs.Free.{is_idle}
use Rattle.tetri_space.specs.Space.{space}
use Rattle.tetri_space.proofs.InstanceLaws.{count_next}
use Rattle.tetri_compile.proofs.EntryLemmas.{sum_of-moved}
use Rattle.tetri_compile.proofs.RoomLemmas.{count_last, count_step}
use Rattle.tetri_compile.proofs.rooms.slots_of.Goals as goal
use Rattle.tetri_compile.proofs.rooms.slots_of.Goals.{in-Some+in_ok-push, in_default}

pub loop-node-preserved : goal.loop-node-preserved
loop-node-preserved c = λ t.
    let s = space c.args.inst.now in
    let p = λ (n : ℕ). is_idle s n t in
    let before = λ (b : ℕ). nat_le b t in
    let ns = c.args.nodes.now in
    let i = c.loop-node.node-index in
    let next = count_next p ns i c.loop-node-test.true in
    let h = c.loop-node.invariant t in
    elim c.match-idle_since.branch [
      | in-Some+in_ok-push w ↦
          count_step _ _ _ _ _ (bit (nat_le w.in-Some.slot t)) _ h next (ap bit (w.in-Some.ensures.since t))
          (ap (λ (v : Vec ℕ Global). count before v.items) w.slots-is ∙ ap (count before) w.in_ok-push.ensures.items ∙ count_last before c.loop-node.slots.items w.in-Some.slot)
      | in_default w ↦
          count_step _ _ _ _ _ 0 _ h next (ap bit (w.in_default.ensures.never t))
          (ap (λ (v : Vec ℕ Global). count before v.items) w.slots-is ∙ sym (add-zero (count before c.loop-node.slots.items)))
    ]

pub returns-clause-ascending : goal.returns-clause-ascending
returns-clause-ascending c = IsNonDecreasingBy-from_sort (λ (x : ℕ). x) _ c.in_ok-sort.ensures.sorted

pub returns-clause-idle : goal.returns-clause-idle
returns-clause-idle c = λ t.
    let p = λ (n : ℕ). is_idle (space c.args.inst.now) n t in
    let over = drop_all c.loop-node.node-index c.args.nodes.now (omega (arith, c.loop-node-test.false)) in
    let moved = sum_of-moved (λ (b : ℕ). bit (nat_le b t)) c.loop-node.slots.items c.sort.new.self.items c.in_ok-sort.ensures.permutation in
    omega (arith, moved, ap (count p) over, c.loop-node.invariant t)
