use Rattle.std.proofs.Common.{◌≡◌, ◌<◌, ℕ, List, length, ap, sym, ◌∙◌, subst, rules, arith}
use Rattle.std.specs.Prelude.{nat_le}
use Rattle.std.specs.List.Sorted.{IsNonDecreasing}
use Rattle.std.proofs.lemmas.List.Sorted.{IsPartitionPoint-from_clause, IsPartitionedBy-leb}
use Rattle.tetri_base.specs.Lists.{count, list_at}
use Rattle.tetri_space.specs.Space.{space}
use Rattle.tetri_space.proofs.InstanceLaws.{list_is}
use Rattle.tetri_compile.proofs.RoomLemmas.{count_point}
use Rattle.tetri_compile.proofs.rooms.idle_at.Goals as goal

pub returns : goal.returns
returns c =
    let s = space c.args.inst.now in
    let rooms = c.requires.rooms in
    let p = c.args.part in
    let slot = c.args.slot in
    let lists = c.args.rooms.now.since.items in
    let xs = c.as_slice-since.result.now in
    let within : p < length lists = omega (arith, c.requires.there, rooms.many) in
    let same : xs ≡ list_at lists p = c.as_slice-since.ensures.value ∙ sym (list_is lists p c.index.result.now within c.index.ensures) in
    let parted = IsPartitionedBy-leb (λ (x : ℕ). x) xs slot (subst IsNonDecreasing (sym same) (rooms.ascending p c.requires.there)) in
    let point = IsPartitionPoint-from_clause (λ (b : ℕ). nat_le b slot) xs c.partition_point.result c.partition_point.ensures.partitioned parted (λ a r q k. search rules) in
    sym (count_point (λ (b : ℕ). nat_le b slot) xs c.partition_point.result c.partition_point.ensures.bound (λ j d lt. point.0 j d (omega arith) lt) (λ j d low high. point.1 j d low high))
    ∙ ap (λ (ys : List ℕ). count (λ (b : ℕ). nat_le b slot) ys) same ∙ rooms.idle p slot c.requires.there
