use Rattle.std.proofs.Common.{◌≡◌, ◌+◌, ◌∷◌, [], ℕ, List, length, ap, ◌∙◌}
use Rattle.std.specs.Prelude.{nat_le}
use Rattle.std.specs.List.Sorted.{IsNonDecreasing}
use Rattle.std.proofs.lemmas.List.{length-append}
use Rattle.tetri_base.specs.Lists.{count}
use Rattle.tetri_space.specs.Free.{is_idle}
use Rattle.tetri_space.specs.Partitions.{part_at}
use Rattle.tetri_space.specs.Space.{space}
use Rattle.tetri_compile.specs.steps.Room.{idle_count}
use Rattle.tetri_compile.proofs.RoomLemmas.{each_list}
use Rattle.tetri_compile.proofs.rooms.rooms_of.Goals as goal

pub loop-part-preserved : goal.loop-part-preserved
loop-part-preserved c =
    let s = space c.args.inst.now in
    let n = c.loop-part.part in
    let vs = c.loop-part.since.items in
    let new = c.push.new.self.items in
    let h = c.loop-part.invariant in
    let grown = c.in_ok-push.ensures.items in
    let nodes = c.as_slice.ensures ∙ c.nodes_of.ensures ∙ ap (λ (gs : List (List ℕ)). part_at gs n) c.requires.partitions.groups in
    record {
      many = ap length grown ∙ length-append vs (c.in_ok-slots.slots ∷ []) ∙ ap (λ k. k + 1) h.many;
      ascending = each_list (λ p xs. IsNonDecreasing xs) vs new c.in_ok-slots.slots n h.many grown h.ascending c.in_ok-slots.ensures.ascending;
      idle = λ p t. each_list (λ q xs. count (λ b. nat_le b t) xs ≡ idle_count s q t) vs new c.in_ok-slots.slots n h.many grown (λ q lt. h.idle q t lt)
          (c.in_ok-slots.ensures.idle t ∙ ap (λ (ns : List ℕ). count (λ m. is_idle s m t) ns) nodes) p;
    }
