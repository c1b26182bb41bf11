use Rattle.std.proofs.Common.{◌≡◌, ◌+◌, ◌*◌, ◌<◌, ◌≤◌, ◌^◌, ◌++◌, ◌∷◌, [], ℕ, All, List, length, drop, map, rules, refl, sym, ap, ◌∙◌, subst, arith}
use Rattle.std.proofs.Math.Nat.{mul-le-mul_left}
use Rattle.std.proofs.lemmas.List.{length-append, map-append}
use Rattle.tetri_strl.specs.declared.expr.Expr.{Expr}
use Rattle.tetri_strl.specs.declared.expr.Leaf.{Leaf}
use Rattle.tetri_strl.specs.Aligned.{EachLeaf, EachLeafOf}
use Rattle.tetri_strl.specs.Tree.{Tree, join, least, added, scale, barrier, more, tree, trees}
use Rattle.tetri_strl.specs.WellMade.{peak, IsSound, AreSound}
use Rattle.tetri_strl.proofs.ExprLaws.{tree-Min, tree-Sum, tree-Scale, tree-Barrier, EachLeaf-both}
use Rattle.tetri_base.specs.Lists.{Each}
use Rattle.tetri_space.specs.Partitions.{parts_of}
use Rattle.tetri_space.specs.Space.{space}
use Rattle.tetri_base.proofs.ListLaws.{Each-map}
use Rattle.tetri_compile.specs.declared.outline.Share.{Share}
use Rattle.tetri_compile.specs.Forms.{Form, limit, run, share, times}
use Rattle.tetri_compile.specs.Walk.{best, ones, uppers_of, form, forms, rows}
use Rattle.tetri_compile.specs.steps.Walked.{IsReady, inside, usable}
use Rattle.tetri_compile.proofs.FormSizes.{form_small}
use Rattle.tetri_compile.proofs.KidLemmas.{kids_next}
use Rattle.tetri_compile.proofs.OutlineLemmas.{ones_are, ones_long, top_is_best}
use Rattle.tetri_wide.specs.declared.outline.Inequality.{Inequality}
use Rattle.tetri_wide.specs.declared.outline.Multiple.{Multiple}
use Rattle.tetri_wide.specs.declared.outline.Outline.{Outline}
use Rattle.tetri_wide.specs.Sketch.{Grows, IsWalked, form_of, limit_of, next_column, share_of, sketch}
use Rattle.tetri_wide.proofs.ListSteps.{each_from_map}
use Rattle.tetri_wide.proofs.SketchLemmas.{rows_pushed, sides_are}
use Rattle.tetri_wide.proofs.WalkedLemmas.{under_walked, sum_walked, place_next, marked_grows}
use Rattle.tetri_wide.proofs.walking.+walk.Goals as goal

pub walk-times_of-requires : goal.walk-times_of-requires
walk-times_of-requires t c =
    let s = space c.args.inst.now in
    let by = c.in-Scale.by in
    let kid = tree c.deref-in-Scale.result.now in
    let same : tree c.args.e.now ≡ scale kid by = ap tree c.in-Scale.is ∙ tree-Scale c.in-Scale.kid by ∙ ap (λ (x : Expr). scale (tree x) by) (sym c.deref-in-Scale.ensures) in
    let sound : IsSound (scale kid by) = subst IsSound same c.requires.tree_sound in
    let made = c.in_ok-part-in-Scale.ensures in
    let n = next_column (sketch c.args.out.now) in
    let small : Each (λ (p : Share). p.by ≤ peak kid) (form (inside s) (usable s) kid c.args.indicator n) = form_small (inside s) (usable s) kid sound.0 c.args.indicator n in
    let each : Each (λ (p : Share). by * p.by < 2 ^ 64) (form_of c.in_ok-part-in-Scale.part.items) =
    subst (λ (f : Form). Each (λ (p : Share). by * p.by < 2 ^ 64) f) (sym made.form)
    (Each-map (λ (p : Share). p.by ≤ peak kid) (λ (p : Share). by * p.by < 2 ^ 64) (λ p le. omega (arith, mul-le-mul_left by le, sound.2))
    (form (inside s) (usable s) kid c.args.indicator n) small) in
    subst (λ (ms : List Multiple). All (λ (m : Multiple). by * m.by < 2 ^ 64) ms) (sym c.deref-in-Scale-2.ensures.value)
    (each_from_map share_of (λ (p : Share). by * p.by < 2 ^ 64) c.in_ok-part-in-Scale.part.items each)

pub walk-returns-in_ok-form-in-Scale : goal.walk-returns-in_ok-form-in-Scale
walk-returns-in_ok-form-in-Scale t c =
    let s = space c.args.inst.now in
    let by = c.in-Scale.by in
    let kid = tree c.deref-in-Scale.result.now in
    let i = c.args.indicator in
    let same : tree c.args.e.now ≡ scale kid by = ap tree c.in-Scale.is ∙ tree-Scale c.in-Scale.kid by ∙ ap (λ (x : Expr). scale (tree x) by) (sym c.deref-in-Scale.ensures) in
    let made = c.in_ok-part-in-Scale.ensures in
    let all : IsWalked s c.args.job (scale kid by) i (sketch c.args.out.now) (sketch c.walk.new.out) (form_of c.in_ok-form-in-Scale.form.items) = record {
      form = c.in_ok-form-in-Scale.ensures ∙ ap (λ (ms : List Multiple). times by (form_of ms)) c.deref-in-Scale-2.ensures.value ∙ ap (times by) made.form;
      grows = made.grows;
    } in
    subst (λ (x : Tree). IsWalked s c.args.job x i (sketch c.args.out.now) (sketch c.walk.new.out) (form_of c.in_ok-form-in-Scale.form.items)) (sym same) all

pub walk-returns-in_ok-form-in-Min : goal.walk-returns-in_ok-form-in-Min
walk-returns-in_ok-form-in-Min t c =
    let s = space c.args.inst.now in
    let e = c.args.e.now in
    let n = next_column (sketch c.args.out.now) in
    let ts = trees c.deref-in-Min.result.now in
    let same : tree e ≡ join least ts = ap tree c.in-Min.is ∙ tree-Min c.in-Min.kids ∙ ap (λ es. join least (trees es)) (sym c.deref-in-Min.ensures.value) in
    let live : EachLeaf (λ (l : Leaf). (s.now ≤ l.start) × (l.start < s.now + s.window)) (tree e) =
    EachLeaf-both (IsReady s (parts_of c.args.parts.now)) (IsReady s (parts_of c.args.parts.now)) (λ l. (s.now ≤ l.start) × (l.start < s.now + s.window))
    (λ l p q. (p.live.not_early, p.live.not_late)) (tree e) c.requires.ready c.requires.ready in
    let top : c.top_in-best.result ≡ best (join least ts) = c.top_in-best.ensures ∙ top_is_best s.now (s.now + s.window) (tree e) live ∙ ap best same in
    let f = c.in_ok-form-in-Min.ensures.form in
    let g = c.in_ok-form-in-Min.ensures.grows in
    subst (λ (x : Tree). IsWalked s c.args.job x c.args.indicator (sketch c.args.out.now) (sketch c.walk_under.new.out) (form_of c.in_ok-form-in-Min.form.items)) (sym same)
    (under_walked s c.args.job ts c.args.indicator c.top_in-best.result (sketch c.args.out.now) (sketch c.walk_under.new.out) (form_of c.in_ok-form-in-Min.form.items) top f g)

pub walk-returns-in_ok-form-in-Sum : goal.walk-returns-in_ok-form-in-Sum
walk-returns-in_ok-form-in-Sum t c =
    let s = space c.args.inst.now in
    let n = next_column (sketch c.args.out.now) in
    let es = c.deref-in-Sum.result.now in
    let ts = trees es in
    let same : tree c.args.e.now ≡ join added ts = ap tree c.in-Sum.is ∙ tree-Sum c.in-Sum.kids ∙ ap (λ xs. join added (trees xs)) (sym c.deref-in-Sum.ensures.value) in
    let f = c.in_ok-form-in-Sum.ensures.form in
    let g = c.in_ok-form-in-Sum.ensures.grows in
    let most : c.len-most.result ≡ length (ones ts) = omega (arith, c.len-most.ensures, ones_long es, ap (λ (xs : List Expr). length xs) c.deref-in-Sum.ensures.value, c.in-Sum.kids.ok.0) in
    subst (λ (x : Tree). IsWalked s c.args.job x c.args.indicator (sketch c.args.out.now) (sketch c.walk_marked-in-Sum.new.out) (form_of c.in_ok-form-in-Sum.form.items)) (sym same)
    (sum_walked s c.args.job ts c.args.indicator c.len-most.result (sketch c.args.out.now) (sketch c.walk_marked-in-Sum.new.out) (form_of c.in_ok-form-in-Sum.form.items) most f g)

pub walk-returns-in_ok-form-in-Barrier-2 : goal.walk-returns-in_ok-form-in-Barrier-2
walk-returns-in_ok-form-in-Barrier-2 t c =
    let s = space c.args.inst.now in
    let i = c.args.indicator in
    let v = c.in-Barrier.least in
    let n = next_column (sketch c.args.out.now) in
    let kid = tree c.deref-in-Barrier.result.now in
    let same : tree c.args.e.now ≡ barrier kid v = ap tree c.in-Barrier.is ∙ tree-Barrier c.in-Barrier.kid v ∙ ap (λ (x : Expr). barrier (tree x) v) (sym c.deref-in-Barrier.ensures) in
    let made = c.in_ok-form-in-Barrier.ensures in
    let g = made.grows in
    let most : form_of c.in_ok-one_share-in-Barrier.field-0.items ≡ share i v ∷ [] = c.in_ok-one_share-in-Barrier.ensures in
    let row : Inequality = record { most = c.in_ok-one_share-in-Barrier.field-0; under = c.in_ok-form-in-Barrier.form; plus = 0 } in
    let said : limit_of row ≡ limit (share i v ∷ []) (form (inside s) (usable s) kid i n) = sides_are row (share i v ∷ []) (form (inside s) (usable s) kid i n) 0 most made.form refl in
    let rs : map limit_of c.push.new.self.items ≡ map limit_of c.args.out.now.rows.items ++ rows (inside s) (usable s) (barrier kid v) i n =
    rows_pushed (map limit_of c.args.out.now.rows.items) c.walk-in-Barrier.new.out.rows.items c.push.new.self.items (rows (inside s) (usable s) kid i n) row (limit (share i v ∷ []) (form (inside s) (usable s) kid i n)) g.rows
    c.in_ok-push-in-Barrier.ensures.items said in
    let new : Outline = record { uppers = c.walk-in-Barrier.new.out.uppers; rows = c.push.new.self; holdings = c.walk-in-Barrier.new.out.holdings } in
    let all : IsWalked s c.args.job (barrier kid v) i (sketch c.args.out.now) (sketch new) (form_of c.in_ok-form-in-Barrier-2.form.items) = record {
      form = c.in_ok-form-in-Barrier-2.ensures;
      grows = record { uppers = g.uppers; rows = rs; tallies = g.tallies };
    } in
    subst (λ (x : Tree). IsWalked s c.args.job x i (sketch c.args.out.now) (sketch new) (form_of c.in_ok-form-in-Barrier-2.form.items)) (sym same) all

pub walk_each-loop-place-preserved : goal.walk_each-loop-place-preserved
walk_each-loop-place-preserved t c =
    let s = space c.args.inst.now in
    let es = c.args.kids.now in
    let k = c.loop-place.place in
    let lt : k < length es = omega (arith, c.loop-place-test.true, c.loop-place.auto.place-end) in
    let e = c.index-kids-place.result in
    let h = c.loop-place.invariant in
    let rest = trees (drop (k + 1) es) in
    let cut : trees (drop k es) ≡ more (tree e) rest = kids_next es k e lt c.index-kids-place.is in
    let said : IsWalked s c.args.job (tree e) (c.args.first + k) (sketch c.loop-place.out) (sketch c.walk.new.out) (form_of c.in_ok-part.part.items) = c.in_ok-part.ensures in
    let next = place_next s c.args.job (tree e) rest (trees (drop k es)) (trees es) c.args.first k (sketch c.args.out.now) (sketch c.loop-place.out) (sketch c.walk.new.out) (form_of c.loop-place.form.items) (form_of c.extend_from_slice.new.self.items) (form_of c.in_ok-part.part.items)
    cut said (ap (λ (ms : List Multiple). form_of ms) (c.in_ok-extend_from_slice.ensures.items ∙ ap (λ (ys : List Multiple). c.loop-place.form.items ++ ys) c.deref.ensures.value)
    ∙ map-append share_of c.loop-place.form.items c.in_ok-part.part.items) h.fits h.form h.uppers h.rows h.tallies in
    record {
      sound = (subst AreSound cut h.sound).1;
      ready = (subst (EachLeafOf (IsReady s (parts_of c.args.parts.now))) cut h.ready).1;
      fits = next.0;
      form = next.1;
      uppers = next.2;
      rows = next.3;
      tallies = next.4;
    }

pub walk_marked-returns-clause-form : goal.walk_marked-returns-clause-form
walk_marked-returns-clause-form t c =
    let s = space c.args.inst.now in
    let ts = trees c.args.kids.now in
    let n = next_column (sketch c.args.out.now) in
    let first : c.len-first.result ≡ n = omega (arith, c.len-first.ensures, c.args.out.now.uppers.ok.0) in
    let marks = c.in_ok-add_marks.ensures in
    let more : next_column (sketch c.add_marks.new.out) ≡ n + length (ones ts) = ap length (marks.uppers ∙ ap (λ (us : List ℕ). c.args.out.now.uppers.items ++ us) (sym (ones_are c.args.kids.now))) ∙ length-append c.args.out.now.uppers.items (ones ts) in
    c.in_ok-form.ensures.form ∙ ap (λ j. forms (inside s) (usable s) ts j (next_column (sketch c.add_marks.new.out))) first ∙ ap (λ m. forms (inside s) (usable s) ts n m) more

pub walk_marked-returns-clause-grows : goal.walk_marked-returns-clause-grows
walk_marked-returns-clause-grows t c =
    let s = space c.args.inst.now in
    let ts = trees c.args.kids.now in
    let old = c.args.out.now in
    let n = next_column (sketch old) in
    let first : c.len-first.result ≡ n = omega (arith, c.len-first.ensures, c.args.out.now.uppers.ok.0) in
    let marks = c.in_ok-add_marks.ensures in
    let us : c.add_marks.new.out.uppers.items ≡ old.uppers.items ++ ones ts = marks.uppers ∙ ap (λ (us : List ℕ). old.uppers.items ++ us) (sym (ones_are c.args.kids.now)) in
    let most : form_of c.in_ok-run_of.field-0.items ≡ run 1 n (ones ts) = c.in_ok-run_of.ensures (ones ts) (ones_long c.args.kids.now) ∙ ap (λ m. run 1 m (ones ts)) first in
    let under : form_of c.in_ok-one_share.field-0.items ≡ share c.args.indicator c.args.most ∷ [] = c.in_ok-one_share.ensures in
    let row : Inequality = record { most = c.in_ok-run_of.field-0; under = c.in_ok-one_share.field-0; plus = 0 } in
    let mid : Outline = record { uppers = c.add_marks.new.out.uppers; rows = c.push.new.self; holdings = c.add_marks.new.out.holdings } in
    let ahead : Grows (sketch old) (sketch mid) (ones ts) (limit (run 1 n (ones ts)) (share c.args.indicator c.args.most ∷ []) ∷ []) [] = record {
      uppers = us;
      rows = rows_pushed (map limit_of old.rows.items) c.add_marks.new.out.rows.items c.push.new.self.items [] row (limit (run 1 n (ones ts)) (share c.args.indicator c.args.most ∷ [])) marks.rows c.in_ok-push.ensures.items
          (sides_are row (run 1 n (ones ts)) (share c.args.indicator c.args.most ∷ []) 0 most under refl);
      tallies = marks.tallies;
    } in
    marked_grows s c.args.job ts c.args.indicator c.args.most c.len-first.result (sketch old) (sketch mid) (sketch c.walk_each.new.out) (form_of c.in_ok-form.form.items) first ahead c.in_ok-form.ensures

pub walk_marked-run_of-requires : goal.walk_marked-run_of-requires
walk_marked-run_of-requires t c =
    let s = space c.args.inst.now in
    let ts = trees c.args.kids.now in
    let long = length-append (ones ts) (uppers_of (inside s) (usable s) ts) in
    omega (arith, c.len-first.ensures, c.args.out.now.uppers.ok.0, c.requires.fits, long, ones_long c.args.kids.now)

pub walk_marked-walk_each-requires : goal.walk_marked-walk_each-requires
walk_marked-walk_each-requires t c =
    let s = space c.args.inst.now in
    let ts = trees c.args.kids.now in
    let long = length-append (ones ts) (uppers_of (inside s) (usable s) ts) in
    let marks = c.in_ok-add_marks.ensures in
    let more : next_column (sketch c.add_marks.new.out) ≡ next_column (sketch c.args.out.now) + length (ones ts) = ap length (marks.uppers ∙ ap (λ (us : List ℕ). c.args.out.now.uppers.items ++ us) (sym (ones_are c.args.kids.now))) ∙ length-append c.args.out.now.uppers.items (ones ts) in (
      search rules,
      (
        c.requires.sound,
        (
          c.requires.partitions,
          (
            c.requires.kids_sound,
            (
              c.requires.ready,
              (
                omega (arith, c.requires.fits, long, more),
                omega (arith, c.len-first.ensures, c.args.out.now.uppers.ok.0, c.requires.fits, long, ones_long c.args.kids.now),
              ),
            ),
          ),
        ),
      ),
    )
