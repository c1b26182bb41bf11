use Rattle.std.proofs.Common.{◌≡◌, arith, refl, ◌∙◌, rules, ◌⊎◌, inl, inr}
use Rattle.std.specs.Int.{int_div_euclid, int_rem_euclid}
use Rattle.std.specs.Ordering.{int_cmp}
use Rattle.std.proofs.lemmas.Int.{to_z-of_z, ints}
use lib.IntN.{pos, ◌*ℤ◌}
use mir.Val.{SFits, to_z, of_z}
use mir.Syntax.{w128}
use Rattle.tetri_num.proofs.Signed.{signed}
use Rattle.tetri_num.proofs.Words.{word_product_fits, word_product_is}
use Rattle.tetri_num.proofs.Compares.{via, cross_cmp, cmp_floor, cmp_rest, cmp_ends}
use Rattle.tetri_num.proofs.fractions.+compare_parts.Goals as goal
use Rattle.tetri_num.proofs.fractions.+compare_parts.Goals.{then-r-eq0-via-then-r-eq0, then-r-eq0-via-else-r-eq0+then-s-eq0}

pub overflow_mul-a : goal.overflow_mul-a
overflow_mul-a t c = word_product_fits c.args.a c.args.d _ _ (to_z-of_z _ _ c.ranges.a) (to_z-of_z _ _ c.ranges.d) (grind (arith, signed)) (grind (arith, signed))

pub overflow_mul-c : goal.overflow_mul-c
overflow_mul-c t c = word_product_fits c.args.c c.args.b _ _ (to_z-of_z _ _ c.ranges.c) (to_z-of_z _ _ c.ranges.b) (grind (arith, signed)) (grind (arith, signed))

pub returns-then-is_word-4 : goal.returns-then-is_word-4
returns-then-is_word-4 t c =
    cross_cmp (c.args.a *ℤ c.args.d) (c.args.c *ℤ c.args.b) _ _ c.cmp.result c.cmp.ensures
    (word_product_is c.args.a c.args.d _ _ (to_z-of_z _ _ c.ranges.a) (to_z-of_z _ _ c.ranges.d) (grind (arith, signed)) (grind (arith, signed)))
    (word_product_is c.args.c c.args.b _ _ (to_z-of_z _ _ c.ranges.c) (to_z-of_z _ _ c.ranges.b) (grind (arith, signed)) (grind (arith, signed)))

pub returns-then-q-p : goal.returns-then-q-p
returns-then-q-p t c =
    let ea = to_z-of_z _ _ c.ranges.a in let eb = to_z-of_z _ _ c.ranges.b in let ec = to_z-of_z _ _ c.ranges.c in let ed = to_z-of_z _ _ c.ranges.d in
    let q = c.div_euclid-q.result in
    let p = c.div_euclid-p.result in
    let fq : SFits w128 c.div_euclid-q.result = search rules in
    let fp : SFits w128 c.div_euclid-p.result = search rules in
    let n : q ≡ p → ⊥ = grind (arith, signed) in
    via int_cmp q _ p _ c.cmp-then-q-p.result c.cmp-then-q-p.ensures (to_z-of_z _ _ fq) (to_z-of_z _ _ fp)
    ∙ cmp_floor c.args.a c.args.b c.args.c c.args.d q p c.requires.left c.requires.right
    (via int_div_euclid c.args.a _ c.args.b _ q c.div_euclid-q.ensures ea eb) (via int_div_euclid c.args.c _ c.args.d _ p c.div_euclid-p.ensures ec ed) n

pub returns-then-r-eq0 : goal.returns-then-r-eq0
returns-then-r-eq0 t c =
    let ea = to_z-of_z _ _ c.ranges.a in let eb = to_z-of_z _ _ c.ranges.b in let ec = to_z-of_z _ _ c.ranges.c in let ed = to_z-of_z _ _ c.ranges.d in
    let q = c.div_euclid-q.result in
    let p = c.div_euclid-p.result in
    let r = c.rem_euclid-r.result in
    let s = c.rem_euclid-s.result in
    let fr : SFits w128 c.rem_euclid-r.result = search rules in
    let fs : SFits w128 c.rem_euclid-s.result = search rules in
    let n : q ≡ p = grind (arith, signed) in
    let z : (r ≡ pos 0) ⊎ (s ≡ pos 0) = elim c.then-r-eq0.branch [ then-r-eq0-via-then-r-eq0 w ↦ inl (omega (arith, ints)) | then-r-eq0-via-else-r-eq0+then-s-eq0 w ↦ inr (omega (arith, ints)) ] in
    via int_cmp r _ s _ c.cmp-then-r-eq0.result c.cmp-then-r-eq0.ensures (to_z-of_z _ _ fr) (to_z-of_z _ _ fs)
    ∙ cmp_ends c.args.a c.args.b c.args.c c.args.d q p r s c.requires.left c.requires.right
    (via int_div_euclid c.args.a _ c.args.b _ q c.div_euclid-q.ensures ea eb) (via int_div_euclid c.args.c _ c.args.d _ p c.div_euclid-p.ensures ec ed) n
    (via int_rem_euclid c.args.a _ c.args.b _ r c.rem_euclid-r.ensures.value ea eb) (via int_rem_euclid c.args.c _ c.args.d _ s c.rem_euclid-s.ensures.value ec ed) z

pub returns : goal.returns
returns t c =
    let ea = to_z-of_z _ _ c.ranges.a in let eb = to_z-of_z _ _ c.ranges.b in let ec = to_z-of_z _ _ c.ranges.c in let ed = to_z-of_z _ _ c.ranges.d in
    let q = c.div_euclid-q.result in
    let p = c.div_euclid-p.result in
    let r = c.rem_euclid-r.result in
    let s = c.rem_euclid-s.result in
    let fr : SFits w128 c.rem_euclid-r.result = search rules in
    let fs : SFits w128 c.rem_euclid-s.result = search rules in
    let er = to_z-of_z _ _ fr in let es = to_z-of_z _ _ fs in
    let n : q ≡ p = grind (arith, signed) in
    c.compare_parts.ensures
    ∙ via (λ y z. int_cmp (y *ℤ z) (to_z w128 (of_z w128 c.args.b) *ℤ to_z w128 (of_z w128 s))) c.args.d _ r _ _ refl ed er
    ∙ via (λ y z. int_cmp (c.args.d *ℤ r) (y *ℤ z)) c.args.b _ s _ _ refl eb es
    ∙ cmp_rest c.args.a c.args.b c.args.c c.args.d q p r s c.requires.left c.requires.right
    (via int_div_euclid c.args.a _ c.args.b _ q c.div_euclid-q.ensures ea eb) (via int_div_euclid c.args.c _ c.args.d _ p c.div_euclid-p.ensures ec ed) n
    (via int_rem_euclid c.args.a _ c.args.b _ r c.rem_euclid-r.ensures.value ea eb) (via int_rem_euclid c.args.c _ c.args.d _ s c.rem_euclid-s.ensures.value ec ed)
