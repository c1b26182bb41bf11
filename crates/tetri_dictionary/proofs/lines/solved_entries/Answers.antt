use Rattle.std.proofs.Common.{◌<◌, ◌≤◌, length, get_or, sym, ap, subst, ◌∙◌, Some, None, Err}
use Rattle.std.proofs.lemmas.List.{length-map}
use Rattle.tetri_algebra.specs.Rational.{ℚ}
use Rattle.tetri_num.specs.declared.places.Kind.TheVariants as Kind
use Rattle.tetri_num.specs.Frac.{value}
use Rattle.tetri_num.proofs.FractionLaws.{num-value}
use Rattle.tetri_dictionary.specs.declared.lines.Entry.{Entry}
use Rattle.tetri_dictionary.specs.Steps.{place_at as the_place}
use Rattle.tetri_dictionary.proofs.SparsePivots.{places_of, solved_at, solved_done, solved_formed, solved_number, solved_places, solved_stop}
use Rattle.tetri_dictionary.proofs.SparseRows.{entry_read}
use Rattle.tetri_dictionary.proofs.SparseWalks.{walk_done, walk_push, walk_to}
use Rattle.tetri_dictionary.proofs.lines.solved_entries.Goals as goal

pub div-requires : goal.div-requires
div-requires c = λ e. c.requires.some (ap (λ (p : ℚ). p.num) (sym c.requires.pivot) ∙ num-value c.args.pivot ∙ e)

pub returns-in_default-clause-formed : goal.returns-in_default-clause-formed
returns-in_default-clause-formed c =
    let n = c.args.columns in
    let i = c.args.i in
    let j = c.args.j in
    let es = c.args.entries.now in
    let a = c.args.pivot in
    let k = c.loop-k.k in
    let e = c.index-entries-k.result in
    let l = c.loop-k-test.true in
    let m : k < length (places_of es) = subst (λ z. k < z) (sym (length-map es (λ (x : Entry). x.place))) l in
    let ps = solved_places n i j a es c.requires.entries c.requires.place c.requires.some in
    let w = solved_number n j es k e c.whole-minus_one.result c.number_with.result c.requires.entries l c.index-entries-k.is c.requires.place c.whole-minus_one.ensures.rational c.number_with.ensures.same c.number_with.ensures.own in
    solved_stop n i j (value a) es c.loop-k.solved.items (get_or (places_of es) k 0) (the_place Kind.Row i e.place)
    (walk_to (solved_at n i j (value a) es) n (places_of es) k c.loop-k.solved.items ps c.loop-k.invariant m) (c.requires.entries.within k l)
    (solved_formed n i j es k a c.number_with.result c.negated.result None w c.negated.ensures c.in_default.ensures.checked
    ∙ ap (λ z. Err (the_place Kind.Row i z)) (entry_read es k e l c.index-entries-k.is).0)

pub loop-k-preserved : goal.loop-k-preserved
loop-k-preserved c =
    let n = c.args.columns in
    let i = c.args.i in
    let j = c.args.j in
    let es = c.args.entries.now in
    let a = c.args.pivot in
    let k = c.loop-k.k in
    let e = c.index-entries-k.result in
    let l = c.loop-k-test.true in
    let m : k < length (places_of es) = subst (λ z. k < z) (sym (length-map es (λ (x : Entry). x.place))) l in
    let ps = solved_places n i j a es c.requires.entries c.requires.place c.requires.some in
    let w = solved_number n j es k e c.whole-minus_one.result c.number_with.result c.requires.entries l c.index-entries-k.is c.requires.place c.whole-minus_one.ensures.rational c.number_with.ensures.same c.number_with.ensures.own in
    walk_push (solved_at n i j (value a) es) n (places_of es) k c.loop-k.solved.items c.push.new.self.items _ ps c.loop-k.invariant m (sym (entry_read es k e l c.index-entries-k.is).0)
    (solved_formed n i j es k a c.number_with.result c.negated.result (Some (value c.in-Ok.number)) w c.negated.ensures c.in-Ok.ensures.checked) c.in_ok-push.ensures.items

pub returns-clause-formed : goal.returns-clause-formed
returns-clause-formed c =
    let n = c.args.columns in
    let i = c.args.i in
    let j = c.args.j in
    let es = c.args.entries.now in
    let a = c.args.pivot in
    let k = c.loop-k.k in
    let m : length (places_of es) ≤ k = subst (λ z. z ≤ k) (sym (length-map es (λ (x : Entry). x.place))) c.loop-k-test.false in
    solved_done n i j (value a) es c.loop-k.solved.items (walk_done (solved_at n i j (value a) es) n (places_of es) k c.loop-k.solved.items (solved_places n i j a es c.requires.entries c.requires.place c.requires.some) c.loop-k.invariant m)
