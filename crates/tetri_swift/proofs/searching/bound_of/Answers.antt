use Rattle.std.proofs.Common.{◌≡◌, Err}
use Rattle.tetri_cert.specs.declared.faults.TreeFault.TheVariants.{Bad, Past}
use Rattle.tetri_cert.specs.Trees.{tree_bound}
use Rattle.tetri_swift.proofs.FollowLemmas.{follows_proper}
use Rattle.tetri_swift.proofs.searching.bound_of.Goals as goal

pub unreachable-requires : goal.unreachable-requires
unreachable-requires c =
    let r = follows_proper c.args.p.now c.args.low c.args.budget c.args.marks.now c.requires.follows in
    let e : tree_bound c.args.p.now c.args.marks.now ≡ Err (Bad c.in-Err-Bad.field-0-0 c.in-Err-Bad.field-0-1) = rw c.in-Err-Bad.field-0-is at c.in-Err-Bad.ensures in
    cc (r.bound_is, e)

pub unreachable-requires-in-Err-Past : goal.unreachable-requires-in-Err-Past
unreachable-requires-in-Err-Past c =
    let r = follows_proper c.args.p.now c.args.low c.args.budget c.args.marks.now c.requires.follows in
    let e : tree_bound c.args.p.now c.args.marks.now ≡ Err (Past c.in-Err-Past.field-0-0 c.in-Err-Past.field-0-1) = rw c.in-Err-Past.field-0-is at c.in-Err-Past.ensures in
    cc (r.bound_is, e)
