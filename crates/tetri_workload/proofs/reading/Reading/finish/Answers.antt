use Rattle.std.proofs.Common.{◌≡◌, ◌∙◌, ◌++◌, ap, arith, false, refl, rules, subst, sym, true}
use Rattle.std.proofs.lemmas.List.{append-nil}
use Rattle.tetri_workload.specs.Reading.{IsRead, behind}
use Rattle.tetri_workload.proofs.reading.Reading.finish.Goals as goal

pub loop-done-preserved : goal.loop-done-preserved
loop-done-preserved c =
    let s = c.args.settings.now in
    let nodes = c.args.nodes.now in
    let inv = c.loop-done.invariant in
    let released = c.in_ok-release_most.ensures in
    let added = c.in_ok-done.ensures in
    let more_lines : c.loop-done.done ≡ false = search (rules, c.loop-done-test.true) in
    record {
      known = added.known;
      noted = added.noted;
      facts = added.facts ∙ released.facts ∙ inv.facts;
      early = added.early ∙ released.early ∙ inv.early;
      few = λ more. omega (arith, added.few more, released.comments, inv.few more_lines);
      read = λ o es given.
          let read = inv.read o es given in
          added.read s.origin (λ _. refl) o es
          (read.0, ap (λ b. read.0 ++ behind b c.loop-done.walk.entries) (sym more_lines) ∙ read.1, released.read o nodes read.0 read.2);
    }

pub returns-clause-read : goal.returns-clause-read
returns-clause-read c = λ o es given.
    let s = c.args.settings.now in
    let nodes = c.args.nodes.now in
    let ended : c.loop-done.done ≡ true = search (rules, c.loop-done-test.false) in
    let read = c.loop-done.invariant.read o es given in
    let all : read.0 ≡ es = sym (append-nil read.0) ∙ ap (λ b. read.0 ++ behind b c.loop-done.walk.entries) (sym ended) ∙ read.1 in
    subst (λ xs. IsRead s o nodes xs c.release.new.self) all (c.in_ok-release.ensures.read o nodes read.0 read.2)
