use Rattle.std.proofs.Common.{◌≡◌, ◌<◌, ◌≤◌, ◌∙◌, ◌++◌, [], ap, rules, subst, sym, arith}
use Rattle.tetri_base.specs.Lists.{count}
use Rattle.tetri_logs.specs.Entry.{entries_in}
use Rattle.tetri_logs.specs.Origin.{begun_at}
use Rattle.tetri_logs.specs.Reading.{is_comment}
use Rattle.tetri_workload.specs.Reading.{IsRead}
use Rattle.tetri_workload.proofs.ReadLemmas.{read-line}
use Rattle.tetri_workload.proofs.reading.Reading.add_lines.Goals as goal

pub loop-alloc-preserved-then-branch : goal.loop-alloc-preserved-then-branch
loop-alloc-preserved-then-branch c =
    let inv = c.loop-alloc.invariant in
    let ahead = c.pass_ahead.ensures in
    let done = c.in_ok-passes.ensures in
    let got = done.read (search (rules, c.if-branch.true)) in
    let found = entries_in got.0 in
    let rest = c.next-read.new.self.entries in
    let shorter : c.next-read.new.self.bytes < c.pass_ahead.new.walk.bytes = search (rules, c.next-read.ensures.shorter, got.1) in
    let step : c.pass_ahead.new.walk.entries ≡ found ++ rest = search (rules, c.next-read.ensures.entries, got.1) in
    record {
      known = inv.known;
      noted = done.noted;
      facts = done.facts ∙ ahead.facts ∙ inv.facts;
      early = done.early ∙ ahead.early ∙ inv.early;
      few = omega (arith, done.comments, ahead.comments, ahead.within, shorter, inv.few);
      within = omega (arith, ahead.within, shorter, inv.within);
      shorter = λ full before. omega (arith, ahead.within, shorter, inv.within);
      read = λ x at o es given.
          let b = begun_at c.args.settings.now x in
          read-line b o c.args.nodes.now es found rest c.pass_ahead.new.self c.passes.new.self c.pass_ahead.new.walk.entries step
          (λ first read. got.2 x at o first read) (ahead.read b o es (inv.read x at o es given));
    }

pub returns-in_default-clause-read : goal.returns-in_default-clause-read
returns-in_default-clause-read c = λ x at o es given.
    let same : c.passes.new.self ≡ c.pass_ahead.new.self = c.in_ok-passes.ensures.stays (search (rules, c.if-branch.false)) in
    let read = c.pass_ahead.ensures.read (begun_at c.args.settings.now x) o es (c.loop-alloc.invariant.read x at o es given) in
    let none : c.pass_ahead.new.walk.entries ≡ [] = search (rules, c.next-read.ensures.entries, c.in_ok-found.was, c.in_default.is) in
    (read.0, ap (λ xs. read.0 ++ xs) (sym none) ∙ read.1, subst (IsRead (begun_at c.args.settings.now x) o c.args.nodes.now read.0) (sym same) read.2)

pub loop-alloc-preserved : goal.loop-alloc-preserved
loop-alloc-preserved c =
    let ahead = c.pass_ahead.ensures in
    let same : c.passes.new.self ≡ c.pass_ahead.new.self = c.in_ok-passes.ensures.stays (search (rules, c.if-branch.false)) in
    let found = entries_in c.in-Some.found in
    let rest = c.next-read.new.self.entries in
    let few : count is_comment found ≤ 1 = search (rules, c.next-read.ensures.few, c.in_ok-found.was, c.in-Some.is) in
    let shorter : c.next-read.new.self.bytes < c.pass_ahead.new.walk.bytes = search (rules, c.next-read.ensures.shorter, c.in_ok-found.was, c.in-Some.is) in
    let step : c.pass_ahead.new.walk.entries ≡ found ++ rest = search (rules, c.next-read.ensures.entries, c.in_ok-found.was, c.in-Some.is) in
    let inv = c.loop-alloc.invariant in
    let added = c.in_ok-add.ensures in
    record {
      known = added.known;
      noted = added.noted;
      facts = added.facts ∙ ap (λ r. r.facts) same ∙ ahead.facts ∙ inv.facts;
      early = added.early ∙ ap (λ r. r.early) same ∙ ahead.early ∙ inv.early;
      few = omega (arith, added.comments, ap (λ r. r.comments) same, ahead.comments, ahead.within, few, shorter, inv.few);
      within = omega (arith, ahead.within, shorter, inv.within);
      shorter = λ full before. omega (arith, ahead.within, shorter, inv.within);
      read = λ x at o es given.
          let b = begun_at c.args.settings.now x in
          read-line b o c.args.nodes.now es found rest c.pass_ahead.new.self c.add.new.self c.pass_ahead.new.walk.entries step
          (λ first read. added.read x at o first (subst (IsRead b o c.args.nodes.now first) (sym same) read)) (ahead.read b o es (inv.read x at o es given));
    }
