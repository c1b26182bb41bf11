use Rattle.std.proofs.Common.{◌≡◌, ◌<◌, ◌^◌, List, length, map, ap, ◌∙◌, sym, subst, arith}
use Rattle.std.specs.List.{range_with_len}
use lib.IntN.{pos}
use Rattle.tetri_base.specs.Lists.{Each, sum_of}
use Rattle.tetri_compile.specs.declared.outline.Share.{Share}
use Rattle.tetri_compile.specs.Flat.{terms_at}
use Rattle.tetri_compile.specs.Small.{IsSmallLimit}
use Rattle.tetri_compile.proofs.ProgramLemmas.{read_back}
use Rattle.tetri_wide.specs.declared.outline.Inequality.{Inequality}
use Rattle.tetri_wide.specs.declared.outline.Multiple.{Multiple}
use Rattle.tetri_wide.specs.Sketch.{form_of, limit_of}
use Rattle.tetri_wide.proofs.FlatLemmas.{flat_row_next, small_at, sum_small}
use Rattle.tetri_wide.proofs.flattening.rows_from.Goals as goal

pub terms_between-requires-clause-most : goal.terms_between-requires-clause-most
terms_between-requires-clause-most c =
    let n = length c.args.out.now.uppers.items in
    let all = subst (λ (rs : List Inequality). Each (IsSmallLimit n) (map limit_of rs)) (sym c.deref-limit-items.ensures.value) c.requires.small in
    let small = small_at n c.deref-limit-items.result.now c.loop-limit.limit-index c.limit-item.result c.loop-limit-test.true c.limit-item.is all in
    subst (λ (ms : List Multiple). sum_of (λ s. s.by) (form_of ms) < 2 ^ 100) (sym c.deref.ensures.value) (sum_small n _ c.requires.few small.most)

pub terms_between-requires-clause-under : goal.terms_between-requires-clause-under
terms_between-requires-clause-under c =
    let n = length c.args.out.now.uppers.items in
    let all = subst (λ (rs : List Inequality). Each (IsSmallLimit n) (map limit_of rs)) (sym c.deref-limit-items.ensures.value) c.requires.small in
    let small = small_at n c.deref-limit-items.result.now c.loop-limit.limit-index c.limit-item.result c.loop-limit-test.true c.limit-item.is all in
    subst (λ (ms : List Multiple). sum_of (λ s. s.by) (form_of ms) < 2 ^ 100) (sym c.deref-in-loop-limit.ensures.value) (sum_small n _ c.requires.few small.under)

pub loop-limit-preserved : goal.loop-limit-preserved
loop-limit-preserved c =
    let n = length c.args.out.now.uppers.items in
    let items = c.deref-limit-items.result.now in
    let r = c.limit-item.result in
    let all = subst (λ (rs : List Inequality). Each (IsSmallLimit n) (map limit_of rs)) (sym c.deref-limit-items.ensures.value) c.requires.small in
    let small = small_at n items c.loop-limit.limit-index r c.loop-limit-test.true c.limit-item.is all in
    let most = c.deref.ensures.value in
    let under = c.deref-in-loop-limit.ensures.value in
    let made = c.in_ok-terms_between.ensures n
    (subst (λ (ms : List Multiple). Each (λ (s : Share). s.column < n) (form_of ms)) (sym most) small.most.columns)
    (subst (λ (ms : List Multiple). Each (λ (s : Share). s.column < n) (form_of ms)) (sym under) small.under.columns)
    ∙ ap (λ (ms : List Multiple). terms_at (form_of ms) (form_of c.deref-in-loop-limit.result.now) (range_with_len 0 n)) most
    ∙ ap (λ (ms : List Multiple). terms_at (form_of r.most.items) (form_of ms) (range_with_len 0 n)) under in
    let right = read_back c.from.result (pos r.plus) c.from.ensures (omega (arith, small.plus)) in
    flat_row_next n items c.loop-limit.limit-index r c.loop-limit.rows.items c.push.new.self.items _ _ c.loop-limit-test.true c.limit-item.is c.in_ok-push.ensures.items made right
    c.loop-limit.invariant
