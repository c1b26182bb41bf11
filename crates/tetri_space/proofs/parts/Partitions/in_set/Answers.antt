use Rattle.std.proofs.Common.{◌≡◌, ◌<◌, ℕ, List, Bool, Contains, length, sym, subst, arith}
use Rattle.std.specs.Prelude.{◌↔◌, IsTrue, is_ok}
use Rattle.std.specs.List.Sorted.{IsStrictlyIncreasing}
use Rattle.std.proofs.lemmas.List.{length-map}
use Rattle.tetri_cluster.proofs.ClusterLaws.{search_finds}
use Rattle.tetri_space.specs.Partitions.{parts_found, parts_of}
use Rattle.tetri_space.proofs.PartsLemmas.{rise_at}
use Rattle.tetri_space.proofs.parts.Partitions.in_set.Goals as goal

-- an answer about a list, said of the same list
moved : (b c : Bool) (ns ms : List ℕ) (n : ℕ) → c ≡ b → ns ≡ ms → IsTrue b ↔ Contains ns n → IsTrue c ↔ Contains ms n
moved b c ns ms n e f h = subst (λ d. IsTrue d ↔ Contains ms n) (sym e) (subst (λ (ks : List ℕ). IsTrue b ↔ Contains ks n) f h)

pub returns : goal.returns
returns c =
    let inside = c.args.self.now.inside.items in
    let lt : c.args.set < length inside = omega (arith, c.requires, length-map inside (λ v. v.items)) in
    let rising = subst IsStrictlyIncreasing (sym c.parts_in.ensures) (rise_at inside c.args.set c.args.self.now.ascending lt) in
    moved (is_ok c.binary_search.result) c.is_ok.result c.parts_in.result.now (parts_found (parts_of c.args.self.now) c.args.set) c.args.part c.is_ok.ensures.value c.parts_in.ensures
    (search_finds c.parts_in.result.now c.args.part c.binary_search.result rising c.binary_search.ensures.position)
