-- The marks before which no node may be used.
use Rattle.std.proofs.Common.{◌≡◌, ◌⊎◌, ℕ, zero, suc, ◌+◌, ◌-◌, ◌<◌, ◌≤◌, ◌==◌, nat_le, map, get_or, Bool, true, false, cond, List, [], ◌∷◌, ◌++◌, length, take, drop, filter, replicate, All, refl, sym, ap, ◌∙◌, subst, arith, true≢false, inl, inr, le_trans, length-drop, append_assoc}
use Rattle.std.specs.Prelude.{slice_index_or, slice_set}
use Rattle.std.specs.List.Sorted.{IsNonDecreasingBy}
use Rattle.std.proofs.Math.Seq.{take-add}
use Rattle.std.proofs.lemmas.Bool.{and_from, cases_eq, cases_lt}
use Rattle.std.proofs.lemmas.Bool.Decides.{nat_tests}
use Rattle.std.proofs.lemmas.List.{take-append-drop, take_more, get_or-set_same, get_or-set_other, get_or-replicate, length-replicate, length-set, take_all, get_or-drop, get_or_default}
use Rattle.std.proofs.lemmas.List.Elements.{filter-append, All-filter, All-take, All-drop, All-contains}
use Rattle.tetri_base.specs.Lists.{has, Each}
use Rattle.tetri_space.specs.Partitions.{alike, asked, closed_sets, leads, live_bids, nodes_of, part_at, partitions}
use Rattle.tetri_space.specs.Space.{Space}
use Rattle.tetri_base.proofs.ListLaws.{Each-map, Each-append, Each-both, Each-from, Each-get, Each-filter, has-filter, range_from}
use Rattle.tetri_assign.specs.steps.Taking.{AreMarks, IsMark, held_by, hold, may_use, ready, taken_from}
use Rattle.tetri_assign.specs.declared.held.Held.{Held}
use Rattle.tetri_assign.specs.declared.backs.Mark.{Mark}
use Rattle.tetri_assign.specs.declared.wants.Want.{Want}
use Rattle.tetri_assign.proofs.BackLemmas.{get_or-hold}
use Rattle.tetri_assign.proofs.Pieces.{has_own}

pub each_of : {X : Type 0} (P : X → Type 0) (xs : List X) → All P xs → Each P xs
each_of P xs h = Each-from P xs (λ x at. All-contains P xs x h at)

-- ---- a list that is looked at item by item
module _ (p : ℕ → Bool) (ns : List ℕ) (i : ℕ) (lt : i < length ns) where
  pub seen_passes : (got : List ℕ) → p (get_or ns i 0) ≡ true → filter p (take i ns) ≡ got → filter p (take (i + 1) ns) ≡ got ++ get_or ns i 0 ∷ []
  seen_passes got e is =
      ap (filter p) (take_more ns i 0 lt) ∙ filter-append p (take i ns) (get_or ns i 0 ∷ [])
      ∙ ap (λ b. filter p (take i ns) ++ cond b (get_or ns i 0 ∷ []) []) e ∙ ap (λ xs. xs ++ get_or ns i 0 ∷ []) is

  pub seen_fails : (got : List ℕ) → p (get_or ns i 0) ≡ false → filter p (take i ns) ≡ got → filter p (take (i + 1) ns) ≡ got
  seen_fails got e is =
      ap (filter p) (take_more ns i 0 lt) ∙ filter-append p (take i ns) (get_or ns i 0 ∷ [])
      ∙ ap (λ b. filter p (take i ns) ++ cond b (get_or ns i 0 ∷ []) []) e ∙ append_none (filter p (take i ns)) ∙ is
    where
      append_none : (xs : List ℕ) → xs ++ [] ≡ xs
      append_none [] = refl
      append_none (x ∷ xs) = ap (λ ys. x ∷ ys) (append_none xs)

none_pass : (p : ℕ → Bool) (ns : List ℕ) → Each (λ n. p n ≡ false) ns → filter p ns ≡ []
none_pass p [] h = refl
none_pass p (n ∷ ns) h = ap (λ b. cond b (n ∷ filter p ns) (filter p ns)) h.0 ∙ none_pass p ns h.1

-- ---- where the search begins
module _ (back ns : List ℕ) (m : Mark) (slot from : ℕ) (mark : IsMark back ns m) (is : from ≡ cond (m.slot == slot) m.place 0) where
  -- no node before it may be used
  pub skipped : (from ≤ length ns) × Each (λ n. may_use back slot n ≡ false) (take from ns)
  skipped = by_slot (m.slot == slot) refl is
    where
      later : (b s t : ℕ) → s ≡ t → s < b → nat_le b t ≡ false
      later b s t e lt = grind (arith, nat_tests)

      same : (a b : ℕ) → (a == b) ≡ true → a ≡ b
      same a b e = grind (arith, nat_tests)

      by_slot : (b : Bool) → (m.slot == slot) ≡ b → from ≡ cond b m.place 0 → (from ≤ length ns) × Each (λ n. may_use back slot n ≡ false) (take from ns)
      by_slot true e f =
          subst (λ (k : ℕ). (k ≤ length ns) × Each (λ n. may_use back slot n ≡ false) (take k ns)) (sym f)
          (mark.within, Each-map (λ n. m.slot < slice_index_or back n 0) (λ n. may_use back slot n ≡ false) (λ n lt. later (slice_index_or back n 0) m.slot slot (same m.slot slot e) lt) (take m.place ns) mark.none)
      by_slot false e f = subst (λ (k : ℕ). (k ≤ length ns) × Each (λ n. may_use back slot n ≡ false) (take k ns)) (sym f) (omega arith, tt)

  -- what is ready from there on is all that is ready
  pub ready_from : (many : ℕ) → ready back slot many (drop from ns) ≡ ready back slot many ns
  ready_from many =
      let p = may_use back slot in
      let all : filter p ns ≡ filter p (drop from ns) =
      ap (filter p) (sym (take-append-drop from ns)) ∙ filter-append p (take from ns) (drop from ns) ∙ ap (λ xs. xs ++ filter p (drop from ns)) (none_pass p (take from ns) skipped.1) in
      ap (take many) (sym all)

  -- ---- the next mark
  module _ (seen end : ℕ) (got : List ℕ) (there : All (λ n. n < length back) ns) (within : seen ≤ length (drop from ns))
      (found : filter (may_use back slot) (take seen (drop from ns)) ≡ got) (ends : slot < end) where
    pub got_there : All (λ n. n < length back) got
    got_there =
        subst (All (λ n. n < length back)) found
        (All-filter (may_use back slot) (λ n. n < length back) (take seen (drop from ns)) (All-take (λ n. n < length back) seen (drop from ns) (All-drop (λ n. n < length back) from ns there)))

    -- what was looked at is held, or was not to be used
    later_back : (n : ℕ) → n < length back → (may_use back slot n ≡ true → has got n ≡ true) → slot < slice_index_or (hold back end got) n 0
    later_back n inside held = subst (λ (k : ℕ). slot < k) (sym (get_or-hold back end got n inside)) (by_tests (has got n) (may_use back slot n) refl held)
      where
        not_le : (a b : ℕ) → nat_le a b ≡ false → b < a
        not_le a b e = grind (arith, nat_tests)

        by_tests : (b c : Bool) → may_use back slot n ≡ c → (c ≡ true → b ≡ true) → slot < cond b end (slice_index_or back n 0)
        by_tests true c e h = ends
        by_tests false true e h = absurd (true≢false (sym (h refl)))
        by_tests false false e h = not_le (slice_index_or back n 0) slot e

    held_there : (xs : List ℕ) → filter (may_use back slot) xs ≡ got → Each (λ n. may_use back slot n ≡ true → has got n ≡ true) xs
    held_there xs e =
        Each-map (λ n. has xs n ≡ true) (λ n. may_use back slot n ≡ true → has got n ≡ true)
        (λ n among t. ap (λ ys. has ys n) (sym e) ∙ has-filter (may_use back slot) xs n ∙ and_from (has xs n) (may_use back slot n) among t) xs (has_own xs)

    pub next_mark : IsMark (hold back end got) ns (record { slot = slot; place = from + seen })
    next_mark = record {
      within = omega (arith, within, length-drop from ns, skipped.0);
      none = subst (λ (xs : List ℕ). Each (λ n. slot < slice_index_or (hold back end got) n 0) xs) (sym (take-add from seen ns))
          (Each-append (λ n. slot < slice_index_or (hold back end got) n 0) (take from ns) (take seen (drop from ns))
          (Each-both (λ n. n < length back) (λ n. may_use back slot n ≡ false) (λ n. slot < slice_index_or (hold back end got) n 0)
          (λ n inside e. later_back n inside (λ t. absurd (true≢false (sym t ∙ e)))) (take from ns)
          (each_of (λ n. n < length back) (take from ns) (All-take (λ n. n < length back) from ns there)) skipped.1)
          (Each-both (λ n. n < length back) (λ n. may_use back slot n ≡ true → has got n ≡ true) (λ n. slot < slice_index_or (hold back end got) n 0) later_back (take seen (drop from ns))
          (each_of (λ n. n < length back) (take seen (drop from ns)) (All-take (λ n. n < length back) seen (drop from ns) (All-drop (λ n. n < length back) from ns there)))
          (held_there (take seen (drop from ns)) found)));
    }

-- the rest of a list as a slice has it
pub rest_is : (ns : List ℕ) (from : ℕ) → take (length ns - from) (drop from ns) ≡ drop from ns
rest_is ns from = take_all (length ns - from) (drop from ns) (omega (arith, length-drop from ns))

-- ---- all marks
abbrev pub no_mark : Mark
no_mark = record { slot = 0; place = 0 }

pub first_marks : (parts : List (List ℕ)) (back : List ℕ) (ws : List Want) (n : ℕ) → n ≡ length parts → AreMarks parts back ws (replicate n no_mark)
first_marks parts back ws n e = record {
  as_many = length-replicate n no_mark ∙ e;
  marks = λ p d lt. subst (IsMark back (part_at parts p)) (sym (same_at n p d (omega (arith, lt, length-replicate n no_mark)))) (record { within = omega arith; none = tt });
  early = λ p d lt k f less. subst (λ (z : Mark). z.slot ≤ (get_or ws k f).start) (sym (same_at n p d (omega (arith, lt, length-replicate n no_mark)))) (omega arith);
}
  where
    same_at : (m p : ℕ) (d : Mark) → p < m → get_or (replicate m no_mark) p d ≡ no_mark
    same_at m p d lt = get_or-replicate m p no_mark d lt

-- a mark of an earlier slot stays right
mark_keeps : (back ns : List ℕ) (m : Mark) (end : ℕ) (got : List ℕ) → All (λ n. n < length back) ns → m.slot < end → IsMark back ns m → IsMark (hold back end got) ns m
mark_keeps back ns m end got there early mark = record {
  within = mark.within;
  none = Each-both (λ n. n < length back) (λ n. m.slot < slice_index_or back n 0) (λ n. m.slot < slice_index_or (hold back end got) n 0)
      (λ n inside lt. subst (λ (k : ℕ). m.slot < k) (sym (get_or-hold back end got n inside)) (either (has got n) (slice_index_or back n 0) lt)) (take m.place ns)
      (each_of (λ n. n < length back) (take m.place ns) (All-take (λ n. n < length back) m.place ns there)) mark.none;
}
  where
    either : (b : Bool) (k : ℕ) → m.slot < k → m.slot < cond b end k
    either true k lt = early
    either false k lt = lt

-- the nodes of each partition are nodes
pub parts_small : (s : Space) (p : ℕ) → All (λ n. n < s.nodes) (part_at (partitions s) p)
parts_small s p = all_in (part_at (partitions s) p) (by_number (cases_lt p (length (partitions s))))
  where
    small : (sets : List (List ℕ)) (ms : List ℕ) → Each (Each (λ n. n < s.nodes)) (map (λ m. filter (alike sets m) (nodes_of s)) ms)
    small sets [] = tt
    small sets (m ∷ ms) =
        (Each-filter (λ n. n < s.nodes) (alike sets m) (nodes_of s) (range_from (λ n. n < s.nodes) 0 s.nodes (λ k low high. omega (arith, high))), small sets ms)

    past : (xs : List (List ℕ)) (k : ℕ) → length xs ≤ k → get_or xs k [] ≡ []
    past [] k le = refl
    past (x ∷ xs) zero le = absurd (omega (arith, le))
    past (x ∷ xs) (suc k) le = past xs k (omega (arith, le))

    by_number : (p < length (partitions s)) ⊎ (length (partitions s) ≤ p) → Each (λ n. n < s.nodes) (part_at (partitions s) p)
    by_number (inl lt) =
        Each-get (Each (λ n. n < s.nodes)) (partitions s) p []
        (small (asked s (live_bids s) ++ closed_sets s) (filter (leads (asked s (live_bids s)) (closed_sets s) (nodes_of s)) (nodes_of s))) lt
    by_number (inr ge) = subst (Each (λ n. n < s.nodes)) (sym (past (partitions s) p ge)) tt

    all_in : (ns : List ℕ) → Each (λ n. n < s.nodes) ns → All (λ n. n < s.nodes) ns
    all_in [] h k d lt = absurd (omega (arith, lt))
    all_in (n ∷ ns) h zero d lt = h.0
    all_in (n ∷ ns) h (suc k) d lt = all_in ns h.1 k d (omega (arith, lt))

-- one turn of taking: the mark of the want's partition is new, and the others stay
pub next_marks : (parts : List (List ℕ)) (back : List ℕ) (w : Want) (ws : List Want) (ms : List Mark) (m : Mark) (got : List ℕ) →
    ((p : ℕ) → All (λ n. n < length back) (part_at parts p)) → All (λ v. w.start ≤ v.start) ws → w.start < w.end →
    AreMarks parts back (w ∷ ws) ms → w.part < length ms → IsMark (hold back w.end got) (part_at parts w.part) m → m.slot ≡ w.start →
    AreMarks parts (hold back w.end got) ws (slice_set ms w.part m)
next_marks parts back w ws ms m got there later ends marks inside mark slot = record {
  as_many = length-set ms w.part m ∙ marks.as_many;
  marks = λ p d lt. by_part p d (omega (arith, lt, length-set ms w.part m)) (cases_eq p w.part);
  early = λ p d lt. early_part p d (omega (arith, lt, length-set ms w.part m)) (cases_eq p w.part);
}
  where
    here : (p : ℕ) (d : Mark) → p ≡ w.part → slice_index_or (slice_set ms w.part m) p d ≡ m
    here p d e = ap (λ k. slice_index_or (slice_set ms w.part m) k d) e ∙ get_or-set_same ms w.part m d inside

    away : (p : ℕ) (d : Mark) → (p ≡ w.part → ⊥) → slice_index_or (slice_set ms w.part m) p d ≡ slice_index_or ms p d
    away p d ne = get_or-set_other ms w.part p m d (λ e. ne e)

    old_early : (p : ℕ) (d : Mark) → p < length ms → (slice_index_or ms p d).slot ≤ w.start
    old_early p d lt = marks.early p d lt 0 w (omega arith)

    by_part : (p : ℕ) (d : Mark) → p < length ms → (p ≡ w.part) ⊎ (p ≡ w.part → ⊥) →
        IsMark (hold back w.end got) (part_at parts p) (slice_index_or (slice_set ms w.part m) p d)
    by_part p d lt (inl e) = subst (IsMark (hold back w.end got) (part_at parts p)) (sym (here p d e)) (subst (λ (k : ℕ). IsMark (hold back w.end got) (part_at parts k) m) (sym e) mark)
    by_part p d lt (inr ne) =
        subst (IsMark (hold back w.end got) (part_at parts p)) (sym (away p d ne))
        (mark_keeps back (part_at parts p) (slice_index_or ms p d) w.end got (there p) (omega (arith, old_early p d lt, ends)) (marks.marks p d lt))

    early_part : (p : ℕ) (d : Mark) → p < length ms → (p ≡ w.part) ⊎ (p ≡ w.part → ⊥) →
        All (λ v. (slice_index_or (slice_set ms w.part m) p d).slot ≤ v.start) ws
    early_part p d lt (inl e) k f less = subst (λ (z : Mark). z.slot ≤ (get_or ws k f).start) (sym (here p d e)) (omega (arith, slot, later k f less))
    early_part p d lt (inr ne) k f less = subst (λ (z : Mark). z.slot ≤ (get_or ws k f).start) (sym (away p d ne)) (le_trans (old_early p d lt) (later k f less))

-- the wants after one do not start earlier
pub later_wants : (ws : List Want) (i : ℕ) (d : Want) → i < length ws → IsNonDecreasingBy (λ (w : Want). w.start) ws → All (λ v. (get_or ws i d).start ≤ v.start) (drop (i + 1) ws)
later_wants ws i d lt turn k e less =
    let inside : i + 1 + k < length ws = omega (arith, less, length-drop (i + 1) ws) in
    let here : (get_or ws i d).start ≡ (get_or ws i e).start = ap (λ (w : Want). w.start) (get_or_default ws i d e lt) in
    let there : (get_or (drop (i + 1) ws) k e).start ≡ (get_or ws (i + 1 + k) e).start = ap (λ (w : Want). w.start) (get_or-drop (i + 1) ws k e) in
    omega (arith, here, there, turn i (i + 1 + k) e (omega arith) inside)

-- one turn of taking, of what is held
pub next_taken : (parts : List (List ℕ)) (back new : List ℕ) (w : Want) (ws : List Want) (held more whole : List Held) →
    more ≡ held ++ map (held_by w) (ready back w.start w.nodes (part_at parts w.part)) →
    new ≡ hold back w.end (ready back w.start w.nodes (part_at parts w.part)) →
    held ++ taken_from parts back (w ∷ ws) ≡ whole → more ++ taken_from parts new ws ≡ whole
next_taken parts back new w ws held more whole got held_back is =
    let ns = ready back w.start w.nodes (part_at parts w.part) in
    ap (λ (hs : List Held). hs ++ taken_from parts new ws) got ∙ ap (λ (b : List ℕ). (held ++ map (held_by w) ns) ++ taken_from parts b ws) held_back
    ∙ append_assoc held (map (held_by w) ns) (taken_from parts (hold back w.end ns) ws) ∙ is
