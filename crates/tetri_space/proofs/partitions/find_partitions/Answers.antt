use Rattle.std.proofs.Common.{◌<◌, ◌∙◌, List, Vec, Global, ℕ, length, ap, arith}
use Rattle.std.specs.List.{filter, range_with_len}
use Rattle.std.proofs.lemmas.List.{length-map}
use Rattle.tetri_base.specs.Lists.{has, list_at}
use Rattle.tetri_space.specs.Space.{space}
use Rattle.tetri_space.proofs.partitions.find_partitions.Goals as goal

pub returns : goal.returns
returns c =
    let s = space c.args.inst.now in
    let signed = c.in_ok-grouped.ensures.signatures in
    record {
      bids = c.in_ok-offers.ensures;
      groups = c.in_ok-grouped.ensures.groups;
      inside = λ k at.
          let here = signed.parts k at in
          let within : k < c.len.result = omega (arith, here.0, c.len.ensures.value, ap length c.deref-2.ensures) in
          record {
            known = omega (arith, within, c.in_ok-inside.ensures.count, length-map c.in_ok-inside.inside.items (λ (v : Vec ℕ Global). v.items));
            parts = c.in_ok-inside.ensures.parts k within
                ∙ ap (λ (vs : List (Vec ℕ Global)). filter (λ p. has (list_at vs p) k) (range_with_len 0 (length vs))) c.as_slice.ensures.keys ∙ here.1;
          };
    }
