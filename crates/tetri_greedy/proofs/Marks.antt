-- The marks tell what placements hold of idle nodes.
use Rattle.std.proofs.Common.{◌≡◌, ℕ, ◌+◌, ◌-◌, ◌^◌, ◌<◌, ◌≤◌, ◌==◌, ◌&&◌, ◌||◌, ◌⊎◌, inl, inr, Bool, true, false, not, min, cond, List, [], ◌∷◌, ◌++◌, length, get_or, All, refl, sym, ap, ◌∙◌, subst, arith, append_assoc, nat_le, nat_lt}
use Rattle.std.specs.Int.{bit_at}
use Rattle.std.specs.List.{list_any}
use Rattle.std.proofs.lemmas.Bool.{and_parts, cases_lt, false_from_ne_true}
use Rattle.std.proofs.lemmas.Bool.Decides.{nat_tests}
use Rattle.std.proofs.lemmas.List.{append-nil}
use Rattle.std.proofs.lemmas.List.Folds.{list_any-append}
use Rattle.std.proofs.lemmas.Nat.Bits.{bit_at_mask_above, bit_at_mask_below}
use Rattle.tetri_strl.specs.declared.expr.Leaf.{Leaf}
use Rattle.tetri_space.specs.Free.{is_idle}
use Rattle.tetri_space.specs.Slots.{marked, meets, slots_of}
use Rattle.tetri_space.specs.Space.{Space}
use Rattle.tetri_space.proofs.InstanceLaws.{IsInWindow, and_left, and_right, bit_of_meeting, length-marked, marked_meets, meets_overlap, slots_bound}
use Rattle.tetri_advice.specs.Fit.{Placement, is_held, is_held_by, is_live}
use Rattle.tetri_greedy.specs.Held.{AreBusy, AreHoldable, IsHoldable, TellsOf, all_marked}

pub length-all_marked : (now : ℕ) (ps : List Placement) (masks : List ℕ) → length (all_marked now masks ps) ≡ length masks
length-all_marked now [] masks = refl
length-all_marked now (p ∷ ps) masks =
    length-all_marked now ps (marked masks (slots_of now p.leaf) p.nodes) ∙ length-marked (slots_of now p.leaf) p.nodes masks

-- what an idle node is
record IsIdle (s : Space) (n t : ℕ) : Type 0 where
  there : n < s.nodes
  not_drained : get_or s.drained n true ≡ false
  until : get_or s.busy_until n 0 ≤ t

idle_parts : (s : Space) (n t : ℕ) → is_idle s n t ≡ true → IsIdle s n t
idle_parts s n t e =
    let both = and_parts (nat_lt n s.nodes && not (get_or s.drained n true)) (nat_le (get_or s.busy_until n 0) t) e in
    let first = and_parts (nat_lt n s.nodes) (not (get_or s.drained n true)) both.0 in
    record { there = below n s.nodes first.0; not_drained = flip (get_or s.drained n true) first.1; until = at_most (get_or s.busy_until n 0) t both.1 }
  where
    flip : (b : Bool) → not b ≡ true → b ≡ false
    flip true f = sym f
    flip false f = refl

    below : (x y : ℕ) → nat_lt x y ≡ true → x < y
    below x y f = grind (arith, nat_tests)

    at_most : (x y : ℕ) → nat_le x y ≡ true → x ≤ y
    at_most x y f = grind (arith, nat_tests)

-- the slots of a leaf and those before it have none in common
before_leaf : (now until : ℕ) (l : Leaf) → now ≤ l.start → until ≤ l.start → meets (2 ^ min 64 (until - now) - 1) (slots_of now l) ≡ false
before_leaf now until l live early =
    false_from_ne_true (meets (2 ^ min 64 (until - now) - 1) (slots_of now l))
    (λ t.
    let w = bit_of_meeting (2 ^ min 64 (until - now) - 1) (slots_of now l) (slots_bound now l) t in
    absurd (not_both w.0 w.1 w.2 (cases_lt w.0 (l.start - now))))
  where
    not_both : (i : ℕ) → bit_at (2 ^ min 64 (until - now) - 1) i ≡ 1 → bit_at (slots_of now l) i ≡ 1 → (i < l.start - now) ⊎ (l.start - now ≤ i) → ⊥
    not_both i busy own (inl lt) = let none = bit_at_mask_below (l.start - now) (min 64 (l.start - now + l.dur)) i lt in absurd (omega (arith, none, own))
    not_both i busy own (inr le) =
        let none = bit_at_mask_above 0 (min 64 (until - now)) i (omega (arith, le, live, early)) in
        absurd (omega (arith, none, busy))

module _ (s : Space) (few : s.window ≤ 64) where
  pub in_window : (l : Leaf) → is_live s l ≡ true → 1 ≤ l.dur → IsInWindow s.now l
  in_window l live some = record {
    live = le_from s.now l.start (and_left (nat_le s.now l.start) (nat_lt l.start (s.now + s.window)) live);
    window = below_from l.start (s.now + s.window) (s.now + 64) (and_right (nat_le s.now l.start) (nat_lt l.start (s.now + s.window)) live) (omega (arith, few));
    some_slots = some;
  }
    where
      le_from : (x y : ℕ) → nat_le x y ≡ true → x ≤ y
      le_from x y e = grind (arith, nat_tests)

      below_from : (x y z : ℕ) → nat_lt x y ≡ true → y ≤ z → x < z
      below_from x y z e le = let lt : x < y = grind (arith, nat_tests) in omega (arith, lt, le)

  -- one placement more
  tells_one : (held : List Placement) (masks : List ℕ) (p : Placement) → length masks ≡ s.nodes → TellsOf s held masks → IsHoldable s.now s.nodes p →
      TellsOf s (held ++ p ∷ []) (marked masks (slots_of s.now p.leaf) p.nodes)
  tells_one held masks p as_many before holdable = record {
    tells = λ l n live some idle.
        let known : All (λ m. m < length masks) p.nodes = λ k d at. omega (arith, as_many, holdable.known k d at) in
        let there = (idle_parts s n l.start idle).there in
        marked_meets (slots_of s.now p.leaf) (slots_of s.now l) n (slots_bound s.now l) p.nodes masks known (omega (arith, as_many, there))
        ∙ ap (λ b. b || (list_any (λ m. m == n) p.nodes && meets (slots_of s.now p.leaf) (slots_of s.now l))) (before.tells l n live some idle)
        ∙ ap (λ b. is_held held l n || (list_any (λ m. m == n) p.nodes && b))
        (meets_overlap s.now l p.leaf (in_window l live some) (record { live = holdable.live; window = holdable.window; some_slots = holdable.some_slots }))
        ∙ ap (λ b. is_held held l n || b) (sym (or_false (is_held_by l n p)))
        ∙ sym (list_any-append (is_held_by l n) held (p ∷ []));
  }
    where
      or_false : (a : Bool) → (a || false) ≡ a
      or_false true = refl
      or_false false = refl

  pub tells_all : (held ps : List Placement) (masks : List ℕ) → length masks ≡ s.nodes → TellsOf s held masks → AreHoldable s.now s.nodes ps →
      TellsOf s (held ++ ps) (all_marked s.now masks ps)
  tells_all held [] masks as_many before holdable = subst (λ h. TellsOf s h masks) (sym (append-nil held)) before
  tells_all held (p ∷ ps) masks as_many before holdable =
      subst (λ h. TellsOf s h (all_marked s.now (marked masks (slots_of s.now p.leaf) p.nodes) ps)) (append_assoc held (p ∷ []) ps)
      (tells_all (held ++ p ∷ []) ps (marked masks (slots_of s.now p.leaf) p.nodes) (length-marked (slots_of s.now p.leaf) p.nodes masks ∙ as_many)
      (tells_one held masks p as_many before holdable.0) holdable.1)

  -- where nodes are held in the slots in which they are not idle, nothing is held of idle nodes
  pub tells_none : (masks : List ℕ) → AreBusy s masks → TellsOf s [] masks
  tells_none masks busy = record {
    tells = λ l n live some idle.
        let node = idle_parts s n l.start idle in
        ap (λ m. meets m (slots_of s.now l)) (busy.busy n node.there ∙ ap (λ b. cond b (2 ^ 64 - 1) (2 ^ min 64 (get_or s.busy_until n 0 - s.now) - 1)) node.not_drained)
        ∙ before_leaf s.now (get_or s.busy_until n 0) l (in_window l live some).live node.until;
  }
