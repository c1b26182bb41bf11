use Rattle.std.proofs.Common.{◌≤◌, ◌*◌, arith}
use Rattle.std.proofs.lemmas.Nat.{mul-le}
use Rattle.tetri_delay.proofs.charge.cost.Goals as goal

pub overflow_mul-result-2 : goal.overflow_mul-result-2
overflow_mul-result-2 c =
    let a = c.from-3.result in
    let b = c.from-4.result in
    let k = c.from-5.result in
    let w = c.from-6.result in
    let first : a * b ≤ 1000000000000 * 100000000000000000 = mul-le a b 1000000000000 100000000000000000 (omega arith) (omega arith) in
    let second : k * w ≤ 4096 * 20000 = mul-le k w 4096 20000 (omega arith) (omega arith) in
    let whole = mul-le (a * b) (k * w) (1000000000000 * 100000000000000000) (4096 * 20000) first second in
    omega (arith, whole)
