use Rattle.std.proofs.Common.{◌≡◌, ◌≢◌, ◌==◌, ℕ, Bool, true, false, cond, List, ◌+◌, ◌++◌, drop, refl, sym, ap, ◌∙◌, arith, rules}
use Rattle.std.specs.List.{list_any}
use Rattle.std.proofs.lemmas.Bool.Decides.{nat_tests}
use Rattle.std.proofs.lemmas.Grind.{common_steps}
use Rattle.tetri_strl.specs.declared.expr.Expr.TheFolds.{the_lemmas}
use Rattle.tetri_strl.specs.declared.expr.Leaf.{Leaf}
use Rattle.tetri_strl.specs.Tree.{Tree, Trees, none, more, numbers, numbers_of, tree, trees}
use Rattle.tetri_strl.specs.Trim.{idle, idle_each, idle_but_first}
use Rattle.tetri_strl.specs.Worth.{leaf_worth, worth_by}
use Rattle.tetri_strl.proofs.TreeLemmas.{trees_more, trees_end, sound_more}
use Rattle.tetri_strl.proofs.WasteLemmas.{any_left, any_right}
use Rattle.tetri_strl.proofs.wasting.+is_idle.Goals.{is_idle_but_first-then-not-found+then-worth_among-best+else-is_idle, is_idle_but_first-else-not-found+else-has_leaf, is_idle_but_first-else-not-found-via-then-not-found+else-worth_among-best, is_idle_but_first-else-not-found-via-else-not-found}
use Rattle.tetri_strl.proofs.wasting.+is_idle.Goals as goal

pub is_idle-is_idle-requires-in-loop-part : goal.is_idle-is_idle-requires-in-loop-part
is_idle-is_idle-requires-in-loop-part t c =
    let sound = sound_more c.deref-part-items.result.now c.loop-part.part-index c.part-item.result c.loop-part-test.true c.part-item.is c.loop-part.invariant.sound in
    (search (rules, the_lemmas), sound.0)

pub is_idle-returns-then-is_idle : goal.is_idle-returns-then-is_idle
is_idle-returns-then-is_idle t c =
    let items = c.deref-part-items.result.now in
    let i = c.loop-part.part-index in
    let e = c.part-item.result in
    let value = leaf_worth c.args.grants.now c.args.job in
    let asked : ℕ → Bool = λ n. n == c.args.leaf in
    let more = ap (λ ts. list_any asked (idle_each value ts)) (trees_more items i e c.loop-part-test.true c.part-item.is) in
    sym (any_left asked (idle value (tree e)) (idle_each value (trees (drop (i + 1) items))) (sym c.is_idle-in-loop-part.ensures ∙ c.if-is_idle.true)) ∙ sym more
    ∙ c.loop-part.invariant.so_far

pub is_idle-loop-part-preserved : goal.is_idle-loop-part-preserved
is_idle-loop-part-preserved t c =
    let items = c.deref-part-items.result.now in
    let i = c.loop-part.part-index in
    let e = c.part-item.result in
    let value = leaf_worth c.args.grants.now c.args.job in
    let asked : ℕ → Bool = λ n. n == c.args.leaf in
    let more = ap (λ ts. list_any asked (idle_each value ts)) (trees_more items i e c.loop-part-test.true c.part-item.is) in
    record {
      sound = (sound_more items i e c.loop-part-test.true c.part-item.is c.loop-part.invariant.sound).1;
      so_far =
          sym (any_right asked (idle value (tree e)) (idle_each value (trees (drop (i + 1) items))) (sym c.is_idle-in-loop-part.ensures ∙ c.if-is_idle.false)) ∙ sym more
          ∙ c.loop-part.invariant.so_far;
    }

pub is_idle-returns-after-loop-part : goal.is_idle-returns-after-loop-part
is_idle-returns-after-loop-part t c =
    let value = leaf_worth c.args.grants.now c.args.job in
    let asked : ℕ → Bool = λ n. n == c.args.leaf in
    let end = trees_end c.deref-part-items.result.now c.loop-part.part-index c.loop-part-test.false in
    sym (ap (λ ts. list_any asked (idle_each value ts)) end) ∙ c.loop-part.invariant.so_far

pub is_idle_but_first-worth_among-requires : goal.is_idle_but_first-worth_among-requires
is_idle_but_first-worth_among-requires t c =
    (sound_more c.args.parts.now c.loop-part.part-index c.part-item.result c.loop-part-test.true c.part-item.is c.loop-part.invariant.sound).0

pub is_idle_but_first-is_idle-requires : goal.is_idle_but_first-is_idle-requires
is_idle_but_first-is_idle-requires t c =
    let sound = sound_more c.args.parts.now c.loop-part.part-index c.part-item.result c.loop-part-test.true c.part-item.is c.loop-part.invariant.sound in
    (search (rules, the_lemmas), sound.0)

-- the leaves that are idle among the parts that are left
abbrev left : (Leaf → ℕ) → ℕ → Bool → Trees → List ℕ
left value best found ts = cond found (numbers_of ts) (idle_but_first value best ts)

-- the next part is the first that is worth `best`
left_best : (value : Leaf → ℕ) (best : ℕ) (t : Tree) (ts : Trees) (found : Bool) → found ≡ false → worth_by value t ≡ best → left value best found (more t ts) ≡ idle value t ++ numbers_of ts
left_best value best t ts found not_yet is_best = grind (arith, nat_tests, common_steps)

-- the next part is not worth `best`
left_less : (value : Leaf → ℕ) (best : ℕ) (t : Tree) (ts : Trees) (found : Bool) → found ≡ false → worth_by value t ≢ best → left value best found (more t ts) ≡ numbers t ++ left value best found ts
left_less value best t ts found not_yet is_less = grind (arith, nat_tests, common_steps)

-- the first part that is worth `best` was found before
left_found : (value : Leaf → ℕ) (best : ℕ) (t : Tree) (ts : Trees) (found : Bool) → found ≡ true → left value best found (more t ts) ≡ numbers t ++ left value best found ts
left_found value best t ts found was = grind (arith, common_steps)

left_none : (value : Leaf → ℕ) (best : ℕ) (found : Bool) (asked : ℕ → Bool) → list_any asked (left value best found none) ≡ false
left_none value best true asked = refl
left_none value best false asked = refl

pub is_idle_but_first-returns-then-is_idle : goal.is_idle_but_first-returns-then-is_idle
is_idle_but_first-returns-then-is_idle t c =
    let parts = c.args.parts.now in
    let i = c.loop-part.part-index in
    let e = c.part-item.result in
    let rest = trees (drop (i + 1) parts) in
    let found = c.loop-part.found in
    let best = c.args.best in
    let value = leaf_worth c.args.grants.now c.args.job in
    let asked : ℕ → Bool = λ n. n == c.args.leaf in
    let next = ap (left value best found) (trees_more parts i e c.loop-part-test.true c.part-item.is) in
    let split = left_best value best (tree e) rest found c.if-not-found.true (sym c.worth_among.ensures ∙ c.if-worth_among-best.true) in
    sym (any_left asked (idle value (tree e)) (numbers_of rest) (sym c.is_idle.ensures ∙ c.if-is_idle.true)) ∙ sym (ap (list_any asked) (next ∙ split)) ∙ c.loop-part.invariant.so_far

pub is_idle_but_first-returns-then-has_leaf : goal.is_idle_but_first-returns-then-has_leaf
is_idle_but_first-returns-then-has_leaf t c =
    let parts = c.args.parts.now in
    let i = c.loop-part.part-index in
    let e = c.part-item.result in
    let rest = trees (drop (i + 1) parts) in
    let found = c.loop-part.found in
    let best = c.args.best in
    let value = leaf_worth c.args.grants.now c.args.job in
    let asked : ℕ → Bool = λ n. n == c.args.leaf in
    let next = ap (left value best found) (trees_more parts i e c.loop-part-test.true c.part-item.is) in
    let split : left value best found (more (tree e) rest) ≡ numbers (tree e) ++ left value best found rest =
    elim c.else-not-found.branch [
      | is_idle_but_first-else-not-found-via-then-not-found+else-worth_among-best w ↦ left_less value best (tree e) rest found w.if-not-found.true (λ same. w.if-worth_among-best.false (w.worth_among.ensures ∙ same))
      | is_idle_but_first-else-not-found-via-else-not-found w ↦ left_found value best (tree e) rest found w.if-not-found.false
    ] in
    sym (any_left asked (numbers (tree e)) (left value best found rest) (sym c.has_leaf.ensures ∙ c.if-has_leaf.true)) ∙ sym (ap (list_any asked) (next ∙ split)) ∙ c.loop-part.invariant.so_far

pub is_idle_but_first-loop-part-preserved : goal.is_idle_but_first-loop-part-preserved
is_idle_but_first-loop-part-preserved t c =
    let parts = c.args.parts.now in
    let i = c.loop-part.part-index in
    let e = c.part-item.result in
    let rest = trees (drop (i + 1) parts) in
    let found = c.loop-part.found in
    let best = c.args.best in
    let value = leaf_worth c.args.grants.now c.args.job in
    let asked : ℕ → Bool = λ n. n == c.args.leaf in
    let next = ap (left value best found) (trees_more parts i e c.loop-part-test.true c.part-item.is) in
    record {
      sound = (sound_more parts i e c.loop-part-test.true c.part-item.is c.loop-part.invariant.sound).1;
      so_far =
          elim c.if-not-found.branch [
            | is_idle_but_first-then-not-found+then-worth_among-best+else-is_idle w ↦ let split = left_best value best (tree e) rest found w.if-not-found.true (sym w.worth_among.ensures ∙ w.if-worth_among-best.true) in
                ap (λ b. list_any asked (left value best b rest)) w.found-is ∙ sym (any_right asked (idle value (tree e)) (numbers_of rest) (sym w.is_idle.ensures ∙ w.if-is_idle.false)) ∙ sym (ap (list_any asked) (next ∙ split)) ∙ c.loop-part.invariant.so_far
            | is_idle_but_first-else-not-found+else-has_leaf w ↦ let split : left value best found (more (tree e) rest) ≡ numbers (tree e) ++ left value best found rest =
                elim w.else-not-found.branch [
                  | is_idle_but_first-else-not-found-via-then-not-found+else-worth_among-best w' ↦ left_less value best (tree e) rest found w'.if-not-found.true (λ same. w'.if-worth_among-best.false (w'.worth_among.ensures ∙ same))
                  | is_idle_but_first-else-not-found-via-else-not-found w' ↦ left_found value best (tree e) rest found w'.if-not-found.false
                ] in
                ap (λ b. list_any asked (left value best b rest)) w.found-is ∙ sym (any_right asked (numbers (tree e)) (left value best found rest) (sym w.has_leaf.ensures ∙ w.if-has_leaf.false)) ∙ sym (ap (list_any asked) (next ∙ split)) ∙ c.loop-part.invariant.so_far
          ];
    }

pub is_idle_but_first-returns : goal.is_idle_but_first-returns
is_idle_but_first-returns t c =
    let found = c.loop-part.found in
    let best = c.args.best in
    let value = leaf_worth c.args.grants.now c.args.job in
    let asked : ℕ → Bool = λ n. n == c.args.leaf in
    let end = trees_end c.args.parts.now c.loop-part.part-index c.loop-part-test.false in
    sym (ap (λ ts. list_any asked (left value best found ts)) end ∙ left_none value best found asked) ∙ c.loop-part.invariant.so_far
