use Rattle.std.proofs.Common.{◌<◌, ◌/◌, ◌%◌, ◌-◌, ◌^◌, arith}
use Rattle.std.proofs.lemmas.List.{get_or-replicate}
use Rattle.std.proofs.lemmas.Nat.Bits.{bit_at-zero}
use Rattle.tetri_workload.specs.Marks.{is_marked}
use Rattle.tetri_workload.proofs.marks.Marks.new.Goals as goal

pub returns : goal.returns
unfolding is_marked
returns c = λ place within.
    let word : place / 64 < 16384 = omega arith in
    rw (c.in_ok-vec.ensures.items_if_clones_equal (λ y e. e), get_or-replicate 16384 (place / 64) 0 (2 ^ 64 - 1) word, bit_at-zero (place % 64))
