use Rattle.std.proofs.Common.{ℕ, List, Option, map, subst, sym}
use Rattle.tetri_space.specs.declared.instance.Offer.{Offer}
use Rattle.tetri_space.specs.Space.{bid, space}
use Rattle.tetri_split.specs.Grouped.{AreGroups, key_of}
use Rattle.tetri_split.specs.Parts.{ArePartsOf, jobs_in}
use Rattle.tetri_split.proofs.SplitLemmas.{parts_from}
use Rattle.tetri_split.proofs.splitting.split.Goals as goal

pub returns : goal.returns
returns c =
    let s = space c.args.inst.now in
    let keys = c.in_ok-keys.keys.items in
    let groups = c.in_ok-groups.groups.items in
    let first = subst (λ (os : List Offer). AreGroups (key_of c.deref-2.result.now (jobs_in (map bid os))) (jobs_in (map bid os)) groups) c.deref.ensures.value c.in_ok-groups.ensures.groups in
    let made = subst (λ (ks : List (Option ℕ)). AreGroups (key_of ks (jobs_in s.bids)) (jobs_in s.bids) groups) c.deref-2.ensures.value first in
    subst (ArePartsOf s) (sym c.of.ensures) (parts_from s c.requires keys c.in_ok-keys.ensures groups made)
