-- What the second pass grants.
use Rattle.std.proofs.Common.{◌≡◌, ◌≢◌, ℕ, zero, suc, ◌+◌, ◌-◌, ◌*◌, ◌%◌, ◌≤◌, ◌<◌, ◌==◌, ◌&&◌, max, Bool, true, false, not, IsTrue, List, [], ◌∷◌, ◌++◌, length, map, get_or, Option, Some, None, Ok, refl, sym, ap, subst, ◌∙◌, arith}
use Rattle.std.specs.Prelude.{All, AllPairs, IfSome}
use Rattle.std.specs.List.{range_with_len}
use Rattle.std.proofs.lemmas.Bool.Decides.{nat_tests}
use Rattle.std.proofs.lemmas.List.{map-append, length-map}
use Rattle.std.proofs.lemmas.List.FromFn.{length-range_with_len, get_or-range_with_len}
use Rattle.std.proofs.Math.ListN.{get_or-map}
use Rattle.tetri_strl.specs.declared.expr.Leaf.{Leaf}
use Rattle.tetri_strl.specs.Aligned.{EachLeaf, EachLeafOf, StartsAt, MeetsAt, IsAligned, AreAligned}
use Rattle.tetri_strl.specs.Tree.{Operator, greatest, least, added, Tree, one, join, scale, barrier, Trees, none, more, row, leaves, leaves_of, numbers, numbers_of}
use Rattle.tetri_strl.specs.WellMade.{peak, peaks, peak_joined, HasChild, IsSound, AreSound, depth, depth_of}
use Rattle.tetri_parse.specs.declared.fault.Fault.TheVariants.{Mixed, Uneven}
use Rattle.tetri_parse.specs.LeafText.{LeafText}
use Rattle.tetri_base.specs.ResultSteps.{◌>>=◌}
use Rattle.tetri_parse.specs.Phrase.{Phrase, Phrases, asked, joined, scaled, barred, nothing, followed}
use Rattle.tetri_parse.specs.TextTree.{IsTextTree}
use Rattle.tetri_cluster.specs.Sets.{HaveNodesBelow}
use Rattle.tetri_parse.specs.Settling.{first_start_of, wanted_below, is_mixed, settled_set, unless_rich, made_of, peak_of, peaks_of, leaf_with, settled_value, settled_leaf, settled, settled_all}
use Rattle.tetri_parse.specs.Written.{HasPart, IsLeafFrom, IsBody, AreSpelled, IsSpelled}
use Rattle.tetri_parse.proofs.Added.{added_all, added_grown, added_number}
use Rattle.tetri_parse.proofs.Steps.{both, passed, same_ok, not_rich, made, set_found}

-- numbers in a row
ranges : (from n m : ℕ) → range_with_len from n ++ range_with_len (from + n) m ≡ range_with_len from (n + m)
ranges from zero m = let e : from + 0 ≡ from = omega arith in let k : 0 + m ≡ m = omega arith in rw (e, k) refl
ranges from (suc n) m =
    let e : from + suc n ≡ from + 1 + n = omega arith in
    let k : suc n + m ≡ suc (n + m) = omega arith in
    rw (e, k) (ap (λ (l : List ℕ). from ∷ l) (ranges (from + 1) n m))

mutual
  numbers_of_leaves : (t : Tree) → numbers t ≡ map (λ l. l.num) (leaves t)
  numbers_of_leaves (one l) = refl
  numbers_of_leaves (join op ts) = numbers_of_all ts
  numbers_of_leaves (scale t s) = numbers_of_leaves t
  numbers_of_leaves (barrier t v) = numbers_of_leaves t

  numbers_of_all : (ts : Trees) → numbers_of ts ≡ map (λ l. l.num) (leaves_of ts)
  numbers_of_all none = refl
  numbers_of_all (more t ts) = let a = numbers_of_leaves t in let b = numbers_of_all ts in rw (a, b) (sym (map-append (λ l. l.num) (leaves t) (leaves_of ts)))

-- leaves that are numbered in a row differ in number
distinct : (ls : List Leaf) (from n : ℕ) → map (λ l. l.num) ls ≡ range_with_len from n → AllPairs (λ l m. l.num ≢ m.num) ls
distinct ls from n e = λ i j d lt short same.
    let count : length ls ≡ n = sym (length-map ls (λ l. l.num)) ∙ ap length e ∙ length-range_with_len from n in
    let here : (get_or ls i d).num ≡ from + i = sym (get_or-map (λ (l : Leaf). l.num) ls i d) ∙ ap (λ ns. get_or ns i d.num) e ∙ get_or-range_with_len from n i d.num (omega arith) in
    let there : (get_or ls j d).num ≡ from + j = sym (get_or-map (λ (l : Leaf). l.num) ls j d) ∙ ap (λ ns. get_or ns j d.num) e ∙ get_or-range_with_len from n j d.num (omega arith) in
    omega arith

-- a leaf has the wanted start
not_mixed : (wanted : Option ℕ) (start : ℕ) → is_mixed wanted start ≡ false → (w : ℕ) → wanted ≡ Some w → start ≡ w
not_mixed None start h w e = absurd (cc)
not_mixed (Some v) start h w e = let same : v ≡ w = cc in grind (arith, nat_tests, h)

even : (linear : Bool) (v k : ℕ) → (linear && not (v % k == 0)) ≡ false → IsTrue linear → v % k ≡ 0
even true v k h l = grind (arith, nat_tests, h)
even false v k h l = absurd (cc)

kept_wanted : (op : Operator) (wanted : Option ℕ) (start w : ℕ) → wanted ≡ Some w → wanted_below op wanted start ≡ Some w
kept_wanted greatest wanted start w e = e
kept_wanted least None start w e = absurd (cc)
kept_wanted least (Some v) start w e = e
kept_wanted added None start w e = absurd (cc)
kept_wanted added (Some v) start w e = e

module _ (arrival : ℕ) where
  -- what a join asks of its leaves
  meets : (op : Operator) (wanted : Option ℕ) (start : ℕ) (ts : Trees) → ((w : ℕ) → wanted_below op wanted start ≡ Some w → EachLeafOf (StartsAt (arrival + w)) ts) → MeetsAt op (join op ts)
  meets greatest wanted start ts h = tt
  meets least None start ts h = (arrival + start, h start refl)
  meets least (Some v) start ts h = (arrival + v, h v refl)
  meets added None start ts h = (arrival + start, h start refl)
  meets added (Some v) start ts h = (arrival + v, h v refl)

-- facts of leaves by which others follow
module _ (P Q : Leaf → Type 0) (f : (l : Leaf) → P l → Q l) where
  mutual
    each : (t : Tree) → EachLeaf P t → EachLeaf Q t
    each (one l) h = f l h
    each (join op ts) h = each_of ts h
    each (scale t s) h = each t h
    each (barrier t v) h = each t h

    each_of : (ts : Trees) → EachLeafOf P ts → EachLeafOf Q ts
    each_of none h = tt
    each_of (more t ts) h = (each t h.0, each_of ts h.1)

module _ (unit arrival count : ℕ) where
  -- the slots in which a leaf of the text may start
  abbrev IsInTime : Leaf → Type 0
  IsInTime l = (arrival ≤ l.start) × (l.start ≤ arrival + 10000)

  abbrev IsAmongSets : ℕ → Leaf → Type 0
  IsAmongSets sets l = l.set < sets

  pub record IsSettled (below from : ℕ) (wanted : Option ℕ) (p : Phrase) (to : ℕ) (sets : List (List ℕ)) (x : Tree × List (List ℕ)) : Type 0 where
    pub sound : IsSound x.0
    pub same_peak : peak x.0 ≡ peak_of unit p
    pub aligned : IsAligned x.0
    pub starts : (w : ℕ) → wanted ≡ Some w → EachLeaf (StartsAt (arrival + w)) x.0
    pub shallow : depth x.0 ≤ below + 1
    pub in_time : EachLeaf IsInTime x.0
    pub known : EachLeaf (IsAmongSets (length x.1)) x.0
    pub leaf_count : ℕ
    pub ends : to ≡ from + leaf_count
    pub numbered : numbers x.0 ≡ range_with_len from leaf_count
    pub few : to ≤ 128
    pub grown : length sets ≤ length x.1
    pub within : HaveNodesBelow count sets → HaveNodesBelow count x.1

  pub record AreSettled (levels from : ℕ) (wanted : Option ℕ) (ps : Phrases) (to : ℕ) (sets : List (List ℕ)) (x : List Tree × List (List ℕ)) : Type 0 where
    pub sound : AreSound (row x.0)
    pub some : HasPart ps → HasChild (row x.0)
    pub same_peaks : peaks (row x.0) ≡ peaks_of unit ps
    pub aligned : AreAligned (row x.0)
    pub starts : (w : ℕ) → wanted ≡ Some w → EachLeafOf (StartsAt (arrival + w)) (row x.0)
    pub shallow : depth_of (row x.0) ≤ levels
    pub in_time : EachLeafOf IsInTime (row x.0)
    pub known : EachLeafOf (IsAmongSets (length x.1)) (row x.0)
    pub leaf_count : ℕ
    pub ends : to ≡ from + leaf_count
    pub numbered : numbers_of (row x.0) ≡ range_with_len from leaf_count
    pub few : HasPart ps → to ≤ 128
    pub grown : length sets ≤ length x.1
    pub within : HaveNodesBelow count sets → HaveNodesBelow count x.1

  few_after : (levels mid to : ℕ) (ps : Phrases) → AreSpelled count levels mid ps to → mid ≤ 128 → (HasPart ps → to ≤ 128) → to ≤ 128
  few_after levels mid to nothing h le further = omega (arith, h)
  few_after levels mid to (followed p ps) h le further = further tt

  module _ (early : arrival ≤ 10000) where
    leaf_settled : (below from : ℕ) (wanted : Option ℕ) (l : LeafText) (to : ℕ) (sets : List (List ℕ)) (x : Leaf × List (List ℕ)) → IsLeafFrom count from l to → settled_leaf unit arrival wanted l sets ≡ Ok x → IsSettled below from wanted (asked l) to sets (one x.0, x.1)
    unfolding settled_leaf
    leaf_settled below from wanted l to sets x good h =
        let p = passed (is_mixed wanted l.start) (record { fault = Mixed; left = l.left }) (unless_rich (l.v * unit) l.left (settled_set l.set_left l.nodes sets >>= settled_value unit arrival l)) x h in
        let q = not_rich (l.v * unit) l.left (settled_set l.set_left l.nodes sets >>= settled_value unit arrival l) x p.1 in
        let r = both (settled_set l.set_left l.nodes sets) (settled_value unit arrival l) x q.1 in
        let s = passed (l.linear && not (l.v * unit % l.k == 0)) (record { fault = Uneven; left = l.value_left }) (Ok (leaf_with unit arrival r.0.0 l, r.0.1)) x r.2 in
        let found = set_found l.set_left l.nodes sets r.0 r.1 in
        let nodes_known : All (λ n. n < count) found.0 = subst (λ o. IfSome o (All (λ n. n < count))) found.1 good.known in
        subst (λ (z : Leaf × List (List ℕ)). IsSettled below from wanted (asked l) to sets (one z.0, z.1)) (same_ok (leaf_with unit arrival r.0.0 l, r.0.1) x s.1) (record {
          sound = (
            record {
              some_nodes = good.written.some_nodes;
              few_nodes = good.written.few_nodes;
              within = let small = good.written.within in omega arith;
              some_slots = good.written.some_slots;
              few_slots = good.written.few_slots;
              whole = even l.linear (l.v * unit) l.k s.0;
            },
            q.0,
          );
          same_peak = refl;
          aligned = tt;
          starts = λ w e. ap (λ n. arrival + n) (not_mixed wanted l.start p.0 w e);
          shallow = omega arith;
          in_time = let small = good.written.within in (omega arith, omega arith);
          known = added_number found.0 sets r.0 found.2;
          leaf_count = 1;
          ends = good.next;
          numbered = ap (λ n. n ∷ []) good.number;
          few = good.few;
          grown = added_grown found.0 sets r.0 found.2;
          within = λ before. added_all found.0 sets r.0 found.2 (All (λ n. n < count)) before nodes_known;
        })

    mutual
      pub is_settled : (below from : ℕ) (wanted : Option ℕ) (p : Phrase) (to : ℕ) (sets : List (List ℕ)) (x : Tree × List (List ℕ)) → IsBody count below from p to → settled unit arrival wanted p sets ≡ Ok x → IsSettled below from wanted p to sets x
      is_settled below from wanted (asked l) to sets x good h =
          let m = made one (settled_leaf unit arrival wanted l sets) x h in
          subst (IsSettled below from wanted (asked l) to sets) m.2 (leaf_settled below from wanted l to sets m.0 good m.1)
      is_settled below from wanted (joined op left ps) to sets x good h =
          let q = not_rich (peak_joined op (peaks_of unit ps)) left (made_of (λ ts. join op (row ts)) (settled_all unit arrival (wanted_below op wanted (first_start_of ps)) ps sets)) x h in
          let m = made (λ ts. join op (row ts)) (settled_all unit arrival (wanted_below op wanted (first_start_of ps)) ps sets) x q.1 in
          let a = are_settled below from (wanted_below op wanted (first_start_of ps)) ps to sets m.0 good.1 m.1 in
          subst (IsSettled below from wanted (joined op left ps) to sets) m.2 (record {
            sound = (a.some good.0, a.sound, rw a.same_peaks q.0);
            same_peak = ap (peak_joined op) a.same_peaks;
            aligned = (meets arrival op wanted (first_start_of ps) (row m.0.0) a.starts, a.aligned);
            starts = λ w e. a.starts w (kept_wanted op wanted (first_start_of ps) w e);
            shallow = let d = a.shallow in omega arith;
            in_time = a.in_time;
            known = a.known;
            leaf_count = a.leaf_count;
            ends = a.ends;
            numbered = a.numbered;
            few = a.few good.0;
            grown = a.grown;
            within = a.within;
          })
      is_settled below from wanted (scaled left p s) to sets x good h =
          let q = not_rich (s * peak_of unit p) left (made_of (λ t. scale t s) (settled unit arrival wanted p sets)) x h in
          let m = made (λ t. scale t s) (settled unit arrival wanted p sets) x q.1 in
          let a = is_settled (below - 1) from wanted p to sets m.0 good.0.1 m.1 in
          subst (IsSettled below from wanted (scaled left p s) to sets) m.2 (record {
            sound = (a.sound, good.1, rw a.same_peak q.0);
            same_peak = ap (λ n. s * n) a.same_peak;
            aligned = a.aligned;
            starts = a.starts;
            shallow = let d = a.shallow in let e = good.0.0 in omega arith;
            in_time = a.in_time;
            known = a.known;
            leaf_count = a.leaf_count;
            ends = a.ends;
            numbered = a.numbered;
            few = a.few;
            grown = a.grown;
            within = a.within;
          })
      is_settled below from wanted (barred left p v) to sets x good h =
          let q = not_rich (max (v * unit) (peak_of unit p)) left (made_of (λ t. barrier t (v * unit)) (settled unit arrival wanted p sets)) x h in
          let m = made (λ t. barrier t (v * unit)) (settled unit arrival wanted p sets) x q.1 in
          let a = is_settled (below - 1) from wanted p to sets m.0 good.0.1 m.1 in
          subst (IsSettled below from wanted (barred left p v) to sets) m.2 (record {
            sound = (a.sound, omega (arith, q.0));
            same_peak = ap (λ n. max (v * unit) n) a.same_peak;
            aligned = a.aligned;
            starts = a.starts;
            shallow = let d = a.shallow in let e = good.0.0 in omega arith;
            in_time = a.in_time;
            known = a.known;
            leaf_count = a.leaf_count;
            ends = a.ends;
            numbered = a.numbered;
            few = a.few;
            grown = a.grown;
            within = a.within;
          })

      are_settled : (levels from : ℕ) (wanted : Option ℕ) (ps : Phrases) (to : ℕ) (sets : List (List ℕ)) (x : List Tree × List (List ℕ)) → AreSpelled count levels from ps to → settled_all unit arrival wanted ps sets ≡ Ok x → AreSettled levels from wanted ps to sets x
      are_settled levels from wanted nothing to sets x good h =
          subst (AreSettled levels from wanted nothing to sets) (same_ok ([], sets) x h) (record {
            sound = tt;
            some = λ none. none;
            same_peaks = refl;
            aligned = tt;
            starts = λ w e. tt;
            shallow = omega arith;
            in_time = tt;
            known = tt;
            leaf_count = 0;
            ends = omega (arith, good);
            numbered = refl;
            few = λ none. absurd none;
            grown = omega arith;
            within = λ before. before;
          })
      are_settled levels from wanted (followed p ps) to sets x good h =
          let b = both (settled unit arrival wanted p sets) (λ first. made_of (λ ts. first.0 ∷ ts) (settled_all unit arrival wanted ps first.1)) x h in
          let m = made (λ ts. b.0.0 ∷ ts) (settled_all unit arrival wanted ps b.0.1) x b.2 in
          let a = is_settled (levels - 1) from wanted p good.0 sets b.0 good.1.1 b.1 in
          let r = are_settled levels good.0 wanted ps to b.0.1 m.0 good.2 m.1 in
          subst (AreSettled levels from wanted (followed p ps) to sets) m.2 (record {
            sound = (a.sound, r.sound);
            some = λ _. tt;
            same_peaks = rw (a.same_peak, r.same_peaks) refl;
            aligned = (a.aligned, r.aligned);
            starts = λ w e. (a.starts w e, r.starts w e);
            shallow = let d = a.shallow in let e = good.1.0 in let f = r.shallow in omega arith;
            in_time = (a.in_time, r.in_time);
            known = (each (IsAmongSets (length b.0.1)) (IsAmongSets (length m.0.1)) (λ l lt. let g = r.grown in omega arith) b.0.0 a.known, r.known);
            leaf_count = a.leaf_count + r.leaf_count;
            ends = let e = a.ends in let f = r.ends in omega arith;
            numbered = ap (λ ns. ns ++ numbers_of (row m.0.0)) a.numbered ∙ ap (λ ns. range_with_len from a.leaf_count ++ ns) (r.numbered ∙ ap (λ k. range_with_len k r.leaf_count) a.ends) ∙ ranges from a.leaf_count r.leaf_count;
            few = λ _. few_after levels good.0 to ps good.2 a.few r.few;
            grown = let e = a.grown in let f = r.grown in omega arith;
            within = λ before. r.within (a.within before);
          })

    -- the tree that was made, and the sets afterwards
    pub is_read : (p : Phrase) (to : ℕ) (sets : List (List ℕ)) (x : Tree × List (List ℕ)) → IsSpelled count 64 0 p to → settled unit arrival None p sets ≡ Ok x → IsTextTree arrival (length x.1) x.0 × (HaveNodesBelow count sets → HaveNodesBelow count x.1)
    is_read p to sets x good h =
        let a = is_settled 63 0 None p to sets x good.1 h in
        let leaf_numbers : map (λ l. l.num) (leaves x.0) ≡ range_with_len 0 a.leaf_count = sym (numbers_of_leaves x.0) ∙ a.numbered in
        let count_is : length (leaves x.0) ≡ a.leaf_count = sym (length-map (leaves x.0) (λ l. l.num)) ∙ ap length leaf_numbers ∙ length-range_with_len 0 a.leaf_count in (
          record {
            well_made = record {
              sound = a.sound;
              aligned = a.aligned;
              distinct = distinct (leaves x.0) 0 a.leaf_count leaf_numbers;
              few_leaves = let f = a.few in let e = a.ends in omega arith;
              shallow = let d = a.shallow in omega arith;
            };
            starts = a.in_time;
            numbered = a.numbered ∙ ap (range_with_len 0) (sym count_is);
            known = a.known;
          },
          a.within,
        )
