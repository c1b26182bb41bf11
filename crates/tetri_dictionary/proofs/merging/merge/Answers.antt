use Rattle.std.proofs.Common.{◌≡◌, ◌+◌, ◌<◌, length, refl, sym, ap, subst, ◌∙◌, arith, Ok, Err}
use Rattle.tetri_algebra.specs.Rational.{ℚ}
use Rattle.tetri_num.specs.Frac.{value}
use Rattle.tetri_dictionary.specs.Sparse.{place_at}
use Rattle.tetri_dictionary.proofs.MergeWalks.{both_is, both_next, left_is, left_next, next_push, next_skip, next_stop, right_is, right_next}
use Rattle.tetri_dictionary.proofs.SparsePivots.{merged_at, merged_done, merged_zero}
use Rattle.tetri_dictionary.proofs.SparseRows.{entry_read}
use Rattle.tetri_dictionary.proofs.SparseWalks.{merge_done}
use Rattle.tetri_dictionary.proofs.merging.merge.Goals as goal

pub loop-x-preserved-then-left-right : goal.loop-x-preserved-then-left-right
loop-x-preserved-then-left-right c =
    let n = c.args.columns in
    let i = c.args.i in
    let a = c.args.a in
    let xs = c.args.xs.now in
    let ys = c.args.ys.now in
    let x = c.loop-x.x in
    let y = c.loop-x.y in
    let es = c.loop-x.merged.items in
    let e = c.index-xs-x.result in
    let w = c.loop-x.invariant in
    let h : y < length ys → e.place < place_at ys y = λ _. subst (λ z. e.place < z) (sym (entry_read ys y c.index-ys-y.result c.if-y-ys.true c.index-ys-y.is).0) c.if-left-right.true in
    next_push (merged_at n i (value a) xs ys) n xs ys (x + 1) y e.place es c.push.new.self.items e
    (left_next n i a xs ys x y es e c.requires.left c.requires.right w c.loop-x-test.true c.index-xs-x.is h) refl
    (left_is n i a xs ys x y es e c.requires.left c.requires.right w c.loop-x-test.true c.index-xs-x.is h) c.in_ok-push.ensures.items

pub returns-in-Err-clause-formed : goal.returns-in-Err-clause-formed
returns-in-Err-clause-formed c =
    let n = c.args.columns in
    let i = c.args.i in
    let a = c.args.a in
    let xs = c.args.xs.now in
    let ys = c.args.ys.now in
    let x = c.loop-x.x in
    let y = c.loop-x.y in
    let es = c.loop-x.merged.items in
    let e = c.index-ys-y.result in
    let w = c.loop-x.invariant in
    let h : x < length xs → e.place < place_at xs x = λ _. subst (λ z. e.place < z) (sym (entry_read xs x c.index-xs-x.result c.loop-x-test.true c.index-xs-x.is).0) c.if-right-left.true in
    next_stop n i (value a) xs ys x (y + 1) e.place es c.in-Err.fault
    (right_next n i a xs ys x y es e c.requires.left c.requires.right w c.if-y-ys.true c.index-ys-y.is h)
    (right_is n i a xs ys x y es e (Err c.in-Err.fault) c.requires.left c.requires.right w c.if-y-ys.true c.index-ys-y.is h c.in-Err.ensures)

pub loop-x-preserved-then-right-left : goal.loop-x-preserved-then-right-left
loop-x-preserved-then-right-left c =
    let n = c.args.columns in
    let i = c.args.i in
    let a = c.args.a in
    let xs = c.args.xs.now in
    let ys = c.args.ys.now in
    let x = c.loop-x.x in
    let y = c.loop-x.y in
    let es = c.loop-x.merged.items in
    let e = c.index-ys-y.result in
    let w = c.loop-x.invariant in
    let h : x < length xs → e.place < place_at xs x = λ _. subst (λ z. e.place < z) (sym (entry_read xs x c.index-xs-x.result c.loop-x-test.true c.index-xs-x.is).0) c.if-right-left.true in
    next_push (merged_at n i (value a) xs ys) n xs ys x (y + 1) e.place es c.push-then-right-left.new.self.items (record { place = e.place; number = c.in-Ok.number })
    (right_next n i a xs ys x y es e c.requires.left c.requires.right w c.if-y-ys.true c.index-ys-y.is h) refl
    (right_is n i a xs ys x y es e (Ok (value c.in-Ok.number)) c.requires.left c.requires.right w c.if-y-ys.true c.index-ys-y.is h c.in-Ok.ensures) c.in_ok-push-2.ensures.items

pub returns-in-Err-replaced-clause-formed : goal.returns-in-Err-replaced-clause-formed
returns-in-Err-replaced-clause-formed c =
    let n = c.args.columns in
    let i = c.args.i in
    let a = c.args.a in
    let xs = c.args.xs.now in
    let ys = c.args.ys.now in
    let x = c.loop-x.x in
    let y = c.loop-x.y in
    let es = c.loop-x.merged.items in
    let d = c.index-xs-x.result in
    let e = c.index-ys-y.result in
    let s : d.place ≡ e.place = omega (arith, c.if-left-right.false, c.if-right-left.false) in
    next_stop n i (value a) xs ys (x + 1) (y + 1) d.place es c.in-Err-replaced.fault
    (both_next n i a xs ys x y es d e c.requires.left c.requires.right c.loop-x.invariant c.loop-x-test.true c.index-xs-x.is c.if-y-ys.true c.index-ys-y.is s)
    (both_is n i a xs ys x y d e (Err c.in-Err-replaced.fault) c.requires.left c.requires.right c.loop-x-test.true c.index-xs-x.is c.if-y-ys.true c.index-ys-y.is s c.in-Err-replaced.ensures)

pub loop-x-preserved-in-Continue-branch-3 : goal.loop-x-preserved-in-Continue-branch-3
loop-x-preserved-in-Continue-branch-3 c =
    let n = c.args.columns in
    let i = c.args.i in
    let a = c.args.a in
    let xs = c.args.xs.now in
    let ys = c.args.ys.now in
    let x = c.loop-x.x in
    let y = c.loop-x.y in
    let es = c.loop-x.merged.items in
    let d = c.index-xs-x.result in
    let e = c.index-ys-y.result in
    let s : d.place ≡ e.place = omega (arith, c.if-left-right.false, c.if-right-left.false) in
    next_push (merged_at n i (value a) xs ys) n xs ys (x + 1) (y + 1) d.place es c.push-then-not-is_zero.new.self.items (record { place = d.place; number = c.in-Ok-replaced.number })
    (both_next n i a xs ys x y es d e c.requires.left c.requires.right c.loop-x.invariant c.loop-x-test.true c.index-xs-x.is c.if-y-ys.true c.index-ys-y.is s) refl
    (both_is n i a xs ys x y d e (Ok (value c.in-Ok-replaced.number)) c.requires.left c.requires.right c.loop-x-test.true c.index-xs-x.is c.if-y-ys.true c.index-ys-y.is s c.in-Ok-replaced.ensures)
    c.in_ok-push-3.ensures.items

pub loop-x-preserved : goal.loop-x-preserved
loop-x-preserved c =
    let n = c.args.columns in
    let i = c.args.i in
    let a = c.args.a in
    let xs = c.args.xs.now in
    let ys = c.args.ys.now in
    let x = c.loop-x.x in
    let y = c.loop-x.y in
    let es = c.loop-x.merged.items in
    let d = c.index-xs-x.result in
    let e = c.index-ys-y.result in
    let s : d.place ≡ e.place = omega (arith, c.if-left-right.false, c.if-right-left.false) in
    next_skip (merged_at n i (value a) xs ys) n xs ys (x + 1) (y + 1) d.place es
    (both_next n i a xs ys x y es d e c.requires.left c.requires.right c.loop-x.invariant c.loop-x-test.true c.index-xs-x.is c.if-y-ys.true c.index-ys-y.is s)
    (both_is n i a xs ys x y d e (Ok (value c.in-Ok-replaced.number)) c.requires.left c.requires.right c.loop-x-test.true c.index-xs-x.is c.if-y-ys.true c.index-ys-y.is s c.in-Ok-replaced.ensures
    ∙ ap (λ (z : ℚ). Ok z) (c.is_zero.ensures.0 c.if-not-is_zero.false))

pub loop-x-2-preserved : goal.loop-x-2-preserved
loop-x-2-preserved c =
    let n = c.args.columns in
    let i = c.args.i in
    let a = c.args.a in
    let xs = c.args.xs.now in
    let ys = c.args.ys.now in
    let x = c.loop-x-2.x in
    let y = c.loop-x.y in
    let es = c.loop-x-2.merged.items in
    let e = c.index-xs-x-in-loop-x-2.result in
    let w = c.loop-x-2.invariant.merged in
    let r = c.loop-x-2.invariant.rest c.loop-x-2-test.true in
    let h : y < length ys → e.place < place_at ys y = λ m. absurd (omega (arith, r, m)) in
    record {
      merged =
          next_push (merged_at n i (value a) xs ys) n xs ys (x + 1) y e.place es c.push-in-loop-x-2.new.self.items e
          (left_next n i a xs ys x y es e c.requires.left c.requires.right w c.loop-x-2-test.true c.index-xs-x-in-loop-x-2.is h) refl
          (left_is n i a xs ys x y es e c.requires.left c.requires.right w c.loop-x-2-test.true c.index-xs-x-in-loop-x-2.is h) c.in_ok-push-4.ensures.items;
      rest = λ _. r;
    }

pub returns-in-Err-multiple-clause-formed : goal.returns-in-Err-multiple-clause-formed
returns-in-Err-multiple-clause-formed c =
    let n = c.args.columns in
    let i = c.args.i in
    let a = c.args.a in
    let xs = c.args.xs.now in
    let ys = c.args.ys.now in
    let x = c.loop-x-2.x in
    let y = c.loop-y.y in
    let es = c.loop-y.merged.items in
    let e = c.index-ys-y-in-loop-y.result in
    let w = c.loop-y.invariant.merged in
    let h : x < length xs → e.place < place_at xs x = λ m. absurd (omega (arith, c.loop-y.invariant.done, m)) in
    next_stop n i (value a) xs ys x (y + 1) e.place es c.in-Err-multiple.fault
    (right_next n i a xs ys x y es e c.requires.left c.requires.right w c.loop-y-test.true c.index-ys-y-in-loop-y.is h)
    (right_is n i a xs ys x y es e (Err c.in-Err-multiple.fault) c.requires.left c.requires.right w c.loop-y-test.true c.index-ys-y-in-loop-y.is h c.in-Err-multiple.ensures)

pub loop-y-preserved : goal.loop-y-preserved
loop-y-preserved c =
    let n = c.args.columns in
    let i = c.args.i in
    let a = c.args.a in
    let xs = c.args.xs.now in
    let ys = c.args.ys.now in
    let x = c.loop-x-2.x in
    let y = c.loop-y.y in
    let es = c.loop-y.merged.items in
    let e = c.index-ys-y-in-loop-y.result in
    let w = c.loop-y.invariant.merged in
    let h : x < length xs → e.place < place_at xs x = λ m. absurd (omega (arith, c.loop-y.invariant.done, m)) in
    record {
      merged =
          next_push (merged_at n i (value a) xs ys) n xs ys x (y + 1) e.place es c.push-in-loop-y.new.self.items (record { place = e.place; number = c.in-Ok-multiple.number })
          (right_next n i a xs ys x y es e c.requires.left c.requires.right w c.loop-y-test.true c.index-ys-y-in-loop-y.is h) refl
          (right_is n i a xs ys x y es e (Ok (value c.in-Ok-multiple.number)) c.requires.left c.requires.right w c.loop-y-test.true c.index-ys-y-in-loop-y.is h c.in-Ok-multiple.ensures) c.in_ok-push-5.ensures.items;
      done = c.loop-y.invariant.done;
    }

pub returns-clause-formed : goal.returns-clause-formed
returns-clause-formed c =
    let n = c.args.columns in
    let i = c.args.i in
    let a = c.args.a in
    let xs = c.args.xs.now in
    let ys = c.args.ys.now in
    let es = c.loop-y.merged.items in
    merged_done n i (value a) xs ys es (merge_done (merged_at n i (value a) xs ys) n xs ys c.loop-x-2.x c.loop-y.y es (merged_zero n i a xs ys) c.loop-y.invariant.merged c.loop-y.invariant.done c.loop-y-test.false)
