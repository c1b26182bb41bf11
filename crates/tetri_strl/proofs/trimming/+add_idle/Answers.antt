use Rattle.std.proofs.Common.{◌≡◌, ◌≢◌, ℕ, ◌+◌, ◌++◌, drop, Bool, true, false, cond, List, [], sym, ap, subst, ◌∙◌, append_assoc, arith, rules}
use Rattle.std.proofs.lemmas.Bool.Decides.{nat_tests}
use Rattle.std.proofs.lemmas.Grind.{common_steps}
use Rattle.std.proofs.lemmas.List.{append-nil}
use Rattle.tetri_strl.specs.declared.expr.Expr.TheFolds.{the_lemmas}
use Rattle.tetri_strl.specs.declared.expr.Leaf.{Leaf}
use Rattle.tetri_strl.specs.Tree.{Tree, Trees, none, more, numbers, numbers_of, tree, trees}
use Rattle.tetri_strl.specs.Trim.{idle, idle_each, idle_but_first}
use Rattle.tetri_strl.specs.Worth.{leaf_worth, worth_by}
use Rattle.tetri_strl.proofs.TreeLemmas.{trees_more, trees_end, sound_more}
use Rattle.tetri_strl.proofs.trimming.+add_idle.Goals.{add_idle_but_first-then-not-found+then-worth_among-best+in_ok-add_idle, add_idle_but_first-else-not-found+in_ok-add_numbers, add_idle_but_first-else-not-found-via-then-not-found+else-worth_among-best, add_idle_but_first-else-not-found-via-else-not-found}
use Rattle.tetri_strl.proofs.trimming.+add_idle.Goals as goal

pub add_idle-add_idle-requires-in-loop-part : goal.add_idle-add_idle-requires-in-loop-part
add_idle-add_idle-requires-in-loop-part t c =
    let sound = sound_more c.deref-part-items.result.now c.loop-part.part-index c.part-item.result c.loop-part-test.true c.part-item.is c.loop-part.invariant.sound in
    (search (rules, the_lemmas), sound.0)

pub add_idle-loop-part-preserved : goal.add_idle-loop-part-preserved
add_idle-loop-part-preserved t c =
    let items = c.deref-part-items.result.now in
    let i = c.loop-part.part-index in
    let e = c.part-item.result in
    let value = leaf_worth c.args.grants.now c.args.job in
    record {
      sound = (sound_more items i e c.loop-part-test.true c.part-item.is c.loop-part.invariant.sound).1;
      so_far =
          ap (λ xs. xs ++ idle_each value (trees (drop (i + 1) items))) c.in_ok-add_idle-in-Min.ensures ∙ append_assoc c.loop-part.out.items (idle value (tree e)) (idle_each value (trees (drop (i + 1) items)))
          ∙ sym (ap (λ ts. c.loop-part.out.items ++ idle_each value ts) (trees_more items i e c.loop-part-test.true c.part-item.is)) ∙ c.loop-part.invariant.so_far;
    }

pub add_idle-returns-after-loop-part : goal.add_idle-returns-after-loop-part
add_idle-returns-after-loop-part t c =
    let value = leaf_worth c.args.grants.now c.args.job in
    let end = trees_end c.deref-part-items.result.now c.loop-part.part-index c.loop-part-test.false in
    sym (append-nil c.loop-part.out.items) ∙ sym (ap (λ ts. c.loop-part.out.items ++ idle_each value ts) end) ∙ c.loop-part.invariant.so_far

pub add_idle_but_first-worth_among-requires : goal.add_idle_but_first-worth_among-requires
add_idle_but_first-worth_among-requires t c =
    (sound_more c.args.parts.now c.loop-part.part-index c.part-item.result c.loop-part-test.true c.part-item.is c.loop-part.invariant.sound).0

pub add_idle_but_first-add_idle-requires : goal.add_idle_but_first-add_idle-requires
add_idle_but_first-add_idle-requires t c =
    let sound = sound_more c.args.parts.now c.loop-part.part-index c.part-item.result c.loop-part-test.true c.part-item.is c.loop-part.invariant.sound in
    (search (rules, the_lemmas), sound.0)

-- one part on, where the part is the first that is worth `best`
next_best : (value : Leaf → ℕ) (best : ℕ) (t : Tree) (ts : Trees) (found next : Bool) (before after whole : List ℕ) → found ≡ false → worth_by value t ≡ best → next ≡ true → after ≡ before ++ idle value t → before ++ cond found (numbers_of (more t ts)) (idle_but_first value best (more t ts)) ≡ whole → after ++ cond next (numbers_of ts) (idle_but_first value best ts) ≡ whole
next_best value best t ts found next before after whole old is_best new made so_far = grind (arith, nat_tests, common_steps)

-- one part on, where the part is not worth `best`
next_less : (value : Leaf → ℕ) (best : ℕ) (t : Tree) (ts : Trees) (found next : Bool) (before after whole : List ℕ) → found ≡ false → worth_by value t ≢ best → next ≡ found → after ≡ before ++ numbers t → before ++ cond found (numbers_of (more t ts)) (idle_but_first value best (more t ts)) ≡ whole → after ++ cond next (numbers_of ts) (idle_but_first value best ts) ≡ whole
next_less value best t ts found next before after whole old is_less new made so_far = grind (arith, nat_tests, common_steps)

-- one part on, where the first that is worth `best` was found
next_found : (value : Leaf → ℕ) (best : ℕ) (t : Tree) (ts : Trees) (found next : Bool) (before after whole : List ℕ) → found ≡ true → next ≡ found → after ≡ before ++ numbers t → before ++ cond found (numbers_of (more t ts)) (idle_but_first value best (more t ts)) ≡ whole → after ++ cond next (numbers_of ts) (idle_but_first value best ts) ≡ whole
next_found value best t ts found next before after whole old new made so_far = grind (arith, nat_tests, common_steps)

pub add_idle_but_first-loop-part-preserved : goal.add_idle_but_first-loop-part-preserved
add_idle_but_first-loop-part-preserved t c =
    let parts = c.args.parts.now in
    let i = c.loop-part.part-index in
    let e = c.part-item.result in
    let value = leaf_worth c.args.grants.now c.args.job in
    let best = c.args.best in
    let rest = trees (drop (i + 1) parts) in
    let found = c.loop-part.found in
    let next = c.if-not-found.found in
    let before = c.loop-part.out.items in
    let whole = c.args.out.now.items ++ idle_but_first value best (trees parts) in
    let so_far =
    subst (λ ts. before ++ cond found (numbers_of ts) (idle_but_first value best ts) ≡ whole) (trees_more parts i e c.loop-part-test.true c.part-item.is) c.loop-part.invariant.so_far in
    record {
      sound = (sound_more parts i e c.loop-part-test.true c.part-item.is c.loop-part.invariant.sound).1;
      so_far =
          elim c.if-not-found.branch [
            | add_idle_but_first-then-not-found+then-worth_among-best+in_ok-add_idle w ↦ next_best value best (tree e) rest found next before c.if-not-found.out.items whole w.if-not-found.true (sym w.worth_among.ensures ∙ w.if-worth_among-best.true) w.found-is (ap (λ v. v.items) w.out-is ∙ w.in_ok-add_idle.ensures) so_far
            | add_idle_but_first-else-not-found+in_ok-add_numbers w ↦ elim w.else-not-found.branch [
              | add_idle_but_first-else-not-found-via-then-not-found+else-worth_among-best w' ↦ next_less value best (tree e) rest found next before c.if-not-found.out.items whole w'.if-not-found.true (λ same. w'.if-worth_among-best.false (w'.worth_among.ensures ∙ same)) w.found-is (ap (λ v. v.items) w.out-is ∙ w.in_ok-add_numbers.ensures) so_far
              | add_idle_but_first-else-not-found-via-else-not-found w' ↦ next_found value best (tree e) rest found next before c.if-not-found.out.items whole w'.if-not-found.false w.found-is (ap (λ v. v.items) w.out-is ∙ w.in_ok-add_numbers.ensures) so_far
            ]
          ];
    }

-- no part is left
nothing_left : (value : Leaf → ℕ) (best : ℕ) (found : Bool) (ts : Trees) → ts ≡ none → cond found (numbers_of ts) (idle_but_first value best ts) ≡ []
nothing_left value best true ts e = ap numbers_of e
nothing_left value best false ts e = ap (idle_but_first value best) e

pub add_idle_but_first-returns : goal.add_idle_but_first-returns
add_idle_but_first-returns t c =
    let end = trees_end c.args.parts.now c.loop-part.part-index c.loop-part-test.false in
    let left = nothing_left (leaf_worth c.args.grants.now c.args.job) c.args.best c.loop-part.found _ end in
    sym (append-nil c.loop-part.out.items) ∙ ap (λ xs. c.loop-part.out.items ++ xs) (sym left) ∙ c.loop-part.invariant.so_far
