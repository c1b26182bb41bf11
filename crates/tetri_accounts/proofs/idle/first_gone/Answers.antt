use Rattle.std.proofs.Common.{◌≡◌, ◌∙◌, ◌-◌, ◌==◌, ap, arith, drop, get_or, length, replicate, rules, sym, refl}
use Rattle.std.specs.Prelude.{None, Some, find, slice_set}
use Rattle.std.proofs.lemmas.List.{drop_all, get_or-replicate, length-replicate}
use Rattle.tetri_accounts.specs.declared.row.Departure.{Departure}
use Rattle.tetri_accounts.specs.declared.row.Outcome.TheVariants.{Ran}
use Rattle.tetri_accounts.proofs.IdleLemmas.{first_passed, first_put, next_back}
use Rattle.tetri_accounts.proofs.idle.first_gone.Goals as goal

pub loop-place-init : goal.loop-place-init
loop-place-init c =
    let gone = c.args.gone.now in
    let fresh : c.in_ok-first.first.items ≡ replicate c.args.jobs None = search rules in
    record {
      within = omega arith;
      len = ap length fresh ∙ length-replicate c.args.jobs None;
      found = λ job lt.
          ap (λ xs. get_or xs job None) fresh ∙ get_or-replicate c.args.jobs job None None lt
          ∙ ap (find (λ (d : Departure). d.job == job)) (sym (drop_all (length gone) gone (omega arith)));
    }

pub index_mut-requires : goal.index_mut-requires
index_mut-requires c =
    let l = c.loop-place in
    omega (arith, c.in-Some.ensures.some.0, c.in-Some.ensures.some.1, l.invariant.len, l.first.ok.0)

pub loop-place-preserved-in-Some : goal.loop-place-preserved-in-Some
loop-place-preserved-in-Some c =
    let l = c.loop-place in
    let inv = l.invariant in
    let gone = c.args.gone.now in
    let none : Departure = record { job = 0; at = 0; outcome = Ran } in
    let d : Departure = get_or gone (l.place - 1) none in
    record {
      within = omega (arith, inv.within);
      len = search (rules, inv.len);
      found = λ job lt.
          ap (λ k. get_or (slice_set l.first.items k (Some d)) job None) c.in-Some.ensures.some.0
          ∙ first_put (λ (x : Departure). x.job) c.args.jobs d (drop l.place gone) l.first.items inv.len inv.found c.in-Some.ensures.some.1 job lt
          ∙ ap (find (λ (x : Departure). x.job == job)) (sym (next_back gone l.place none c.loop-place-test.true inv.within));
    }

pub loop-place-preserved : goal.loop-place-preserved
loop-place-preserved c =
    let l = c.loop-place in
    let inv = l.invariant in
    let gone = c.args.gone.now in
    let none : Departure = record { job = 0; at = 0; outcome = Ran } in
    let d : Departure = get_or gone (l.place - 1) none in
    record {
      within = omega (arith, inv.within);
      len = inv.len;
      found = λ job lt.
          first_passed (λ (x : Departure). x.job) c.args.jobs d (drop l.place gone) l.first.items inv.len inv.found (c.in-None.ensures.none refl) job lt
          ∙ ap (find (λ (x : Departure). x.job == job)) (sym (next_back gone l.place none c.loop-place-test.true inv.within));
    }
