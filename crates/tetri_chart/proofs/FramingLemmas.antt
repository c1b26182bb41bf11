-- How the longest name is found.
use Rattle.std.proofs.Common.{◌≡◌, ℕ, ◌+◌, ◌<◌, ◌≤◌, true, List, [], ◌∷◌, length, drop, refl, ap, arith, suc, zero}
use Rattle.std.specs.Prelude.{max}
use Rattle.std.proofs.lemmas.Bool.Decides.{nat_tests}
use Rattle.tetri_cluster.specs.Cluster.{name_at}
use Rattle.tetri_cluster.specs.Names.{is_name}
use Rattle.tetri_cluster.specs.declared.cluster.NodeText.{NodeText}
use Rattle.tetri_chart.specs.Framing.{longest}

next_name : (ns : List NodeText) (i : ℕ) → i < length ns → longest (drop i ns) ≡ max (length (name_at ns i)) (longest (drop (suc i) ns))
next_name [] i lt = absurd (omega (arith, lt))
next_name (n ∷ ns) zero lt = refl
next_name (n ∷ ns) (suc i) lt = next_name ns i (omega (arith, lt))

-- the longest of those so far, of a name and of those behind it
pub longest_next : (ns : List NodeText) (i so_far most : ℕ) → i < length ns → most ≡ max so_far (length (name_at ns i)) →
    max most (longest (drop (i + 1) ns)) ≡ max so_far (longest (drop i ns))
longest_next ns i so_far most lt is =
    let next : suc i ≡ i + 1 = omega arith in
    omega (arith, is, next_name ns i lt, ap (λ k. longest (drop k ns)) next)

-- a name has at most 64 letters
pub name_short : (bytes : List ℕ) → is_name bytes ≡ true → length bytes ≤ 64
name_short bytes named = grind (arith, nat_tests)
