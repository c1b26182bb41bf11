use Rattle.std.proofs.Common.{◌≡◌, ◌∙◌, ◌-◌, ℕ, ap, arith, drop, false, true, get_or, length, replicate, rules, sym, refl}
use Rattle.std.specs.Prelude.{slice_set}
use Rattle.std.proofs.lemmas.List.{drop_all, get_or-replicate, length-replicate}
use Rattle.tetri_base.specs.Lists.{has}
use Rattle.tetri_accounts.proofs.IdleLemmas.{have_passed, have_put, next_back}
use Rattle.tetri_accounts.proofs.idle.numbers_by_job.Goals as goal

pub loop-place-init : goal.loop-place-init
loop-place-init c =
    let numbers = c.args.numbers.now in
    let fresh : c.in_ok-have.have.items ≡ replicate c.args.jobs false = search rules in
    record {
      within = omega arith;
      len = ap length fresh ∙ length-replicate c.args.jobs false;
      found = λ job lt.
          ap (λ xs. get_or xs job false) fresh ∙ get_or-replicate c.args.jobs job false false lt
          ∙ ap (λ ns. has ns job) (sym (drop_all (length numbers) numbers (omega arith)));
    }

pub index_mut-requires : goal.index_mut-requires
index_mut-requires c =
    let l = c.loop-place in
    omega (arith, c.in-Some.ensures.some.0, c.in-Some.ensures.some.1, l.invariant.len, l.have.ok.0)

pub loop-place-preserved-in-Some : goal.loop-place-preserved-in-Some
loop-place-preserved-in-Some c =
    let l = c.loop-place in
    let inv = l.invariant in
    let numbers = c.args.numbers.now in
    let n : ℕ = get_or numbers (l.place - 1) 0 in
    record {
      within = omega (arith, inv.within);
      len = search (rules, inv.len);
      found = λ job lt.
          ap (λ k. get_or (slice_set l.have.items k true) job false) c.in-Some.ensures.some.0
          ∙ have_put (λ (x : ℕ). x) c.args.jobs n (drop l.place numbers) l.have.items inv.len inv.found c.in-Some.ensures.some.1 job lt
          ∙ ap (λ ns. has ns job) (sym (next_back numbers l.place 0 c.loop-place-test.true inv.within));
    }

pub loop-place-preserved : goal.loop-place-preserved
loop-place-preserved c =
    let l = c.loop-place in
    let inv = l.invariant in
    let numbers = c.args.numbers.now in
    let n : ℕ = get_or numbers (l.place - 1) 0 in
    record {
      within = omega (arith, inv.within);
      len = inv.len;
      found = λ job lt.
          have_passed (λ (x : ℕ). x) c.args.jobs n (drop l.place numbers) l.have.items inv.len inv.found (c.in-None.ensures.none refl) job lt
          ∙ ap (λ ns. has ns job) (sym (next_back numbers l.place 0 c.loop-place-test.true inv.within));
    }
