use Rattle.std.proofs.Common.{◌≡◌, ◌<◌, ◌∙◌, ◌&&◌, All, List, Vec, Global, Bool, ℕ, false, length, map, slice_index_or, subst, sym, ap, arith}
use Rattle.std.specs.List.{filter, range_with_len}
use Rattle.tetri_space.specs.steps.Finding.{IsSigned, firsts, grouped}
use Rattle.tetri_base.specs.Lists.{has, list_at}
use Rattle.tetri_space.specs.Partitions.{live_bids, set_at, sets_in}
use Rattle.tetri_space.specs.Space.{Bid, space}
use Rattle.tetri_space.proofs.PartsLemmas.{live_within, live_there, are_signatures, groups_few, groups_are}
use Rattle.tetri_space.proofs.finding.group_alike.Goals as goal

pub used_sets-requires : goal.used_sets-requires
used_sets-requires c =
    let s = space c.args.inst.now in
    let count : c.len.result ≡ length s.sets = c.len.ensures.value ∙ ap length c.deref.ensures in
    subst (λ (bs : List Bid). All (λ k. k < c.len.result) (sets_in bs)) (sym c.requires.live)
    (subst (λ n. All (λ k. k < n) (sets_in (live_bids s))) (sym count) (live_within s c.requires.sound))

pub signatures_of-requires : goal.signatures_of-requires
signatures_of-requires c = record {
  sound = c.requires.sound;
  count = ap length c.deref-2.ensures.value ∙ c.in_ok-used.ensures.count ∙ c.len.ensures.value ∙ ap length c.deref.ensures;
  there = λ k e. live_there (space c.args.inst.now) k c.requires.sound
      (sym (ap (λ (us : List Bool). slice_index_or us k false) c.deref-2.ensures.value ∙ c.in_ok-used.ensures.marks k ∙ ap (λ (bs : List Bid). has (sets_in bs) k) c.requires.live) ∙ e);
}

pub group_nodes-requires : goal.group_nodes-requires
group_nodes-requires c = omega (arith, ap length c.deref-4.ensures.value, c.in_ok-sign_each.ensures.count, c.requires.sound.few_nodes)

pub returns : goal.returns
returns c =
    let s = space c.args.inst.now in
    let sigs = c.deref-4.result.now in
    let used = c.deref-2.result.now in
    let count : length used ≡ length s.sets = ap length c.deref-2.ensures.value ∙ c.in_ok-used.ensures.count ∙ c.len.ensures.value ∙ ap length c.deref.ensures in
    let marks : (k : ℕ) → slice_index_or used k false ≡ has (sets_in (live_bids s)) k =
    λ k. ap (λ (us : List Bool). slice_index_or us k false) c.deref-2.ensures.value ∙ c.in_ok-used.ensures.marks k ∙ ap (λ (bs : List Bid). has (sets_in bs) k) c.requires.live in
    let long : length sigs ≡ s.nodes = ap length c.deref-4.ensures.value ∙ c.in_ok-sign_each.ensures.count in
    let base : c.len-2.result ≡ length s.sets = c.len-2.ensures.value ∙ ap length c.deref-3.ensures in
    let is : (n : ℕ) → n < s.nodes →
    IsSigned s (length s.sets) n (filter (λ k. slice_index_or used k false && has (set_at s k) n) (range_with_len 0 (length used))) (list_at sigs n) =
    λ n lt.
    subst (λ (b : ℕ). IsSigned s b n (filter (λ k. slice_index_or used k false && has (set_at s k) n) (range_with_len 0 (length used))) (list_at sigs n)) base
    (subst (λ (ns : List ℕ). IsSigned s c.len-2.result n ns (list_at sigs n)) (c.in_ok-signatures.ensures.sets n lt)
    (subst (λ (vs : List (Vec ℕ Global)). IsSigned s c.len-2.result n (list_at c.in_ok-signatures.signatures.items n) (list_at vs n)) (sym c.deref-4.ensures.value)
    (c.in_ok-sign_each.ensures.signed n lt))) in
    let groups : c.in_ok-grouped.grouped.groups.items ≡ grouped (list_at sigs) s.nodes = c.in_ok-grouped.ensures.groups ∙ ap (grouped (list_at sigs)) long in
    let known : map (λ (v : Vec ℕ Global). v.items) c.in_ok-grouped.grouped.signatures.keys ≡ map (list_at sigs) (firsts (list_at sigs) s.nodes) =
    c.in_ok-grouped.ensures.signatures ∙ ap (λ n. map (list_at sigs) (firsts (list_at sigs) n)) long in
    record {
      groups = groups ∙ groups_are s c.requires.sound sigs used count marks is;
      few = groups_few s c.requires.sound sigs used count marks is c.in_ok-grouped.grouped.signatures.keys known c.in_ok-grouped.grouped.groups.items groups;
      signatures = are_signatures s c.requires.sound sigs used count marks is c.in_ok-grouped.grouped.signatures.keys known;
    }
