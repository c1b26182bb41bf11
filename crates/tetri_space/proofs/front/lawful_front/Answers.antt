use Rattle.std.proofs.Common.{◌≡◌, ◌≤◌, ◌-◌, ◌++◌, ◌∷◌, ◌∙◌, [], List, get_or, take, sym, ap, subst, arith}
use Rattle.std.proofs.lemmas.List.{get_or_default, take_more}
use Rattle.tetri_strl.specs.declared.grants.Grant.{Grant}
use Rattle.tetri_space.specs.GrantOrder.{ComesBefore}
use Rattle.tetri_space.specs.Space.{space}
use Rattle.tetri_space.proofs.FrontLemmas.{IsFront, all_before, before_from_test, front_more, front_none}
use Rattle.tetri_space.proofs.front.lawful_front.Goals as goal
use Rattle.tetri_space.proofs.front.lawful_front.Goals.{else-place-gt0-via-then-place-gt0+else-not-comes_first, else-place-gt0-via-else-place-gt0}

pub loop-place-init : goal.loop-place-init
loop-place-init c = front_none (space c.args.inst.now) _

pub loop-place-preserved : goal.loop-place-preserved
loop-place-preserved c =
    let s = space c.args.inst.now in
    let grants = c.args.grants.now in
    let i = c.loop-place.place in
    let g = c.index-grants-place.result in
    let last : (d : Grant) → 1 ≤ i → ComesBefore (get_or grants (i - 1) d) g =
    λ d some. elim c.else-place-gt0.branch [
      | else-place-gt0-via-then-place-gt0+else-not-comes_first w ↦
          let h = w.index-grants-place-then-place-gt0.result in
          let is : h ≡ get_or grants (i - 1) d = w.index-grants-place-then-place-gt0.is ∙ get_or_default grants (i - 1) h d (omega (arith, c.loop-place-test.true)) in
          subst (λ (k : Grant). ComesBefore k g) is (before_from_test h g (sym w.comes_first.ensures ∙ w.if-not-comes_first.false))
      | else-place-gt0-via-else-place-gt0 w ↦ absurd (omega (arith, some, w.if-place-gt0.false))
    ] in
    subst (λ (gs : List Grant). IsFront s gs c.takes.new.masks) (sym (take_more grants i g c.loop-place-test.true ∙ ap (λ (h : Grant). take i grants ++ h ∷ []) (sym c.index-grants-place.is)))
    (front_more s c.requires c.loop-place.masks c.takes.new.masks g (c.takes.ensures c.if-not-takes.false) c.else-place-gt0.array_long (take i grants) c.loop-place.invariant
    (all_before grants i g c.loop-place.invariant.ordered (omega (arith, c.loop-place-test.true)) last))
