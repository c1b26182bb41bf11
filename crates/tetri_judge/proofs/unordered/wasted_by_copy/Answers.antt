use Rattle.std.proofs.Common.{◌≡◌, ◌∙◌, ℕ, List, Vec, map, ap, subst, sym}
use Rattle.std.specs.Global.{Global}
use Rattle.std.specs.Prelude.{◌↔◌, None, Option}
use Rattle.std.specs.List.{position_from}
use Rattle.std.specs.List.Sorted.{IsNonDecreasingBy}
use Rattle.tetri_strl.specs.declared.grants.Grant.{Grant}
use Rattle.tetri_claims.specs.Good.{IsThriftyForAll}
use Rattle.tetri_judge.specs.Wasted.{idle_of, is_idle_among}
use Rattle.tetri_space.specs.Space.{space}
use Rattle.tetri_judge.proofs.WastedLemmas.{none_wasted}
use Rattle.tetri_judge.proofs.UnorderedLemmas.{idles_in_order, ordered_rises, wasted_is_idle}
use Rattle.tetri_judge.proofs.unordered.wasted_by_copy.Goals as goal

abbrev items_of : Vec ℕ Global → List ℕ
items_of ns = ns.items

pub idle_by_offer-requires-clause-ascending : goal.idle_by_offer-requires-clause-ascending
idle_by_offer-requires-clause-ascending c =
    subst (IsNonDecreasingBy (λ (g : Grant). g.job)) (sym (c.as_slice.ensures ∙ c.requires.copy)) (ordered_rises c.args.grants.now)

pub returns-clause-place : goal.returns-clause-place
returns-clause-place c =
    let bids = (space c.args.inst.now).bids in
    let a = c.args.grants.now in
    let lists = ap (map items_of) c.deref.ensures.value ∙ c.in_ok-idle.ensures ∙ ap (λ (gs : List Grant). map (idle_of gs) bids) (c.as_slice.ensures ∙ c.requires.copy) ∙ idles_in_order a bids in
    c.first_idle.ensures
    ∙ ap (λ (gs : List Grant). position_from (is_idle_among bids (map items_of c.deref.result.now)) 0 gs) c.as_slice-2.ensures
    ∙ ap (λ (ls : List (List ℕ)). position_from (is_idle_among bids ls) 0 a) lists
    ∙ sym (wasted_is_idle bids a)

pub returns-clause-thrifty : goal.returns-clause-thrifty
returns-clause-thrifty c =
    let s = space c.args.inst.now in
    let a = c.args.grants.now in
    subst (λ (place : Option ℕ). (place ≡ None) ↔ IsThriftyForAll s a) (sym (returns-clause-place c)) (none_wasted s c.requires.sound a)
