use Rattle.std.proofs.Common.{◌∙◌, List, Option, ap, arith, subst, sym}
use Rattle.std.specs.Prelude.{IfSome, ◌≤ℤ◌}
use Rattle.std.specs.Global.{Vec}
use Rattle.std.proofs.lemmas.Int.{ints}
use lib.IntN.{ℤ, pos}
use Rattle.tetri_ip.specs.Points.{objective}
use Rattle.tetri_space.specs.Lawful.{IsLawful}
use Rattle.tetri_space.specs.Space.{space}
use Rattle.tetri_space.specs.Total.{total_in}
use Rattle.tetri_space.specs.Trimmed.{IsThriftyForAll}
use Rattle.tetri_space.proofs.InstanceLaws.{lawful_trimmed, thrifty_trimmed, total_trimmed}
use Rattle.tetri_by_swift.proofs.planning.better_at.Goals as goal

pub better-requires-clause-lawful : goal.better-requires-clause-lawful
better-requires-clause-lawful c =
    let s = space c.args.inst.now in
    subst (IsLawful s) (sym c.in_ok-trimmed-in-Some.ensures) (lawful_trimmed s c.requires.sound _ c.in_ok-assigned-in-Some.ensures.lawful)

pub better-requires-clause-thrifty : goal.better-requires-clause-thrifty
better-requires-clause-thrifty c =
    let s = space c.args.inst.now in
    subst (IsThriftyForAll s) (sym c.in_ok-trimmed-in-Some.ensures) (thrifty_trimmed s c.requires.sound _)

pub returns-in_ok-trimmed-in-Some-clause-reached : goal.returns-in_ok-trimmed-in-Some-clause-reached
returns-in_ok-trimmed-in-Some-clause-reached c =
    let s = space c.args.inst.now in
    let p = c.args.compiled.now.program in
    let a = c.in_ok-assigned-in-Some.assigned in
    let had = subst (λ (x : List ℤ). objective p x ≤ℤ pos (total_in s a)) c.deref.ensures.value c.in_ok-assigned-in-Some.ensures.worth in
    let same = ap (total_in s) c.in_ok-trimmed-in-Some.ensures ∙ total_trimmed s c.requires.sound a in
    subst (λ (o : Option (Vec ℤ)). IfSome o (λ v. objective p v.items ≤ℤ pos c.better.result.worth)) (sym c.in-Some.is) (omega (arith, ints, had, same, c.better.ensures.later))
