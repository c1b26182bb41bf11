-- Printed trees are read back.
use Rattle.std.proofs.Common.{◌≡◌, ℕ, zero, suc, ◌+◌, ◌-◌, ◌*◌, ◌≤◌, ◌<◌, max, false, nat_lt, List, [], ◌∷◌, ◌++◌, length, Option, Some, None, Result, Ok, refl, sym, ap, ◌∙◌, subst, append_assoc, append-nil, length-append, arith}
use Rattle.std.specs.Prelude.{All, codes, decimal, flat_map}
use Rattle.std.specs.List.{range_with_len}
use Rattle.std.specs.List.Sorted.{IsStrictlyIncreasing}
use Rattle.std.proofs.lemmas.Bool.Decides.{nat_tests}
use Rattle.std.proofs.lemmas.List.Elements.{All-get_or}
use Rattle.std.proofs.lemmas.List.FromFn.{length-range_with_len}
use Rattle.tetri_strl.specs.declared.expr.Leaf.{Leaf}
use Rattle.tetri_strl.specs.Aligned.{EachLeaf, EachLeafOf, StartsAt, MeetsAt, IsAligned, AreAligned}
use Rattle.tetri_strl.specs.Tree.{Operator, greatest, least, added, Tree, one, join, scale, barrier, Trees, none, more, row, leaves, numbers, numbers_of}
use Rattle.tetri_strl.specs.WellMade.{PEAK, peak, peaks, peak_joined, HasChild, IsSound, AreSound, depth, depth_of}
use Rattle.tetri_cluster.specs.declared.cluster.NodeText.{NodeText}
use Rattle.tetri_cluster.specs.Sets.{AreSets, HaveNodesBelow}
use Rattle.tetri_parse.specs.declared.fault.Fault.TheVariants.{TooRich}
use Rattle.tetri_parse.specs.declared.fault.Miss.{Miss}
use Rattle.tetri_base.specs.ResultSteps.{◌>>=◌}
use Rattle.tetri_parse.specs.Expression.{expression, expression_left}
use Rattle.tetri_parse.specs.Grammar.{part_with_number, goes_on_to_child, children_at, body_at, expr_at, whole_at}
use Rattle.tetri_parse.specs.Phrase.{Phrase, asked, joined, scaled, barred, line_up}
use Rattle.tetri_parse.specs.Printing.{after_comma, with_commas, nodes_of, leaf_word, join_word, set_text, leaf_text, text_of, texts_of, IsNamed, AreNamed}
use Rattle.tetri_parse.specs.Rows.{row_at}
use Rattle.tetri_parse.specs.SetText.{IsNodeSet}
use Rattle.tetri_parse.specs.Settling.{at, is_mixed, first_start, first_start_of, wanted_below, unless_rich, made_of, peak_of, peaks_of, settled, settled_all}
use Rattle.tetri_parse.specs.TextTree.{IsTextTree}
use Rattle.tetri_parse.proofs.LeavesBack.{numbers_onto, leaf_read, leaf_back, leaf_settles}
use Rattle.tetri_parse.proofs.TokensBack.{test_false, number_back}

-- the parts of a join as a list
abbrev trees_in : Trees → List Tree
trees_in none = []
trees_in (more t ts) = t ∷ trees_in ts

row-trees_in : (ts : Trees) → row (trees_in ts) ≡ ts
row-trees_in none = refl
row-trees_in (more t ts) = ap (more t) (row-trees_in ts)

abbrev children_in : Trees → ℕ
children_in none = 0
children_in (more t ts) = suc (children_in ts)

-- numbers in a row, cut in two
cut : (a b : List ℕ) (from : ℕ) → a ++ b ≡ range_with_len from (length (a ++ b)) → (a ≡ range_with_len from (length a)) × (b ≡ range_with_len (from + length a) (length b))
cut [] b from h = let e : from + 0 ≡ from = omega arith in (refl, rw e h)
cut (x ∷ xs) b from h =
    let first : x ≡ from = cc in
    let others : xs ++ b ≡ range_with_len (from + 1) (length (xs ++ b)) = cc in
    let ih = cut xs b (from + 1) others in
    let e : from + suc (length xs) ≡ from + 1 + length xs = omega arith in
    (ap (λ n. n ∷ xs) first ∙ ap (λ (l : List ℕ). from ∷ l) ih.0, rw e ih.1)

poor : {A : Type 0} (peak left : ℕ) (made : Result A Miss) → peak ≤ PEAK → unless_rich peak left made ≡ made
poor peak left made le = let small : nat_lt PEAK peak ≡ false = grind (arith, nat_tests) in test_false (nat_lt PEAK peak) (at TooRich left) made small

module _ (arrival : ℕ) (cluster : List NodeText) (sets : List (List ℕ)) where
  -- what is asked of a leaf
  pub record IsFitLeaf (l : Leaf) : Type 0 where
    pub early : arrival ≤ l.start
    pub late : l.start ≤ arrival + 10000
    pub known : l.set < length sets
    pub named : IsNamed cluster sets l

  pub record Fits (levels taken : ℕ) (t : Tree) : Type 0 where
    pub sound : IsSound t
    pub aligned : IsAligned t
    pub each : EachLeaf IsFitLeaf t
    pub shallow : depth t ≤ levels
    pub numbered : numbers t ≡ range_with_len taken (length (numbers t))
    pub few : taken + length (numbers t) ≤ 128

  record AllFit (levels taken : ℕ) (ts : Trees) : Type 0 where
    pub sound : AreSound ts
    pub aligned : AreAligned ts
    pub each : EachLeafOf IsFitLeaf ts
    pub shallow : depth_of ts ≤ levels
    pub numbered : numbers_of ts ≡ range_with_len taken (length (numbers_of ts))
    pub few : taken + length (numbers_of ts) ≤ 128

  -- the written start of the first leaf
  abbrev mutual
    first_written : Tree → ℕ
    first_written (one l) = l.start - arrival
    first_written (join op ts) = first_written_of ts
    first_written (scale t s) = first_written t
    first_written (barrier t v) = first_written t

    first_written_of : Trees → ℕ
    first_written_of none = 0
    first_written_of (more t ts) = first_written t

  -- where all leaves have one start, it is the first one's
  mutual
    same_start : (t : Tree) (s : ℕ) → IsSound t → EachLeaf IsFitLeaf t → EachLeaf (StartsAt s) t → arrival + first_written t ≡ s
    same_start (one l) s sound each start = let low = each.early in omega arith
    same_start (join op ts) s sound each start = same_start_of ts s sound.0 sound.1 each start
    same_start (scale t n) s sound each start = same_start t s sound.0 each start
    same_start (barrier t v) s sound each start = same_start t s sound.0 each start

    same_start_of : (ts : Trees) (s : ℕ) → HasChild ts → AreSound ts → EachLeafOf IsFitLeaf ts → EachLeafOf (StartsAt s) ts → arrival + first_written_of ts ≡ s
    same_start_of none s some sound each start = absurd some
    same_start_of (more t ts) s some sound each start = same_start t s sound.0 each.0 start.0

  -- the second pass makes the tree of what is spelled
  record Settles (t : Tree) (p : Phrase) : Type 0 where
    pub same_peak : peak_of 1 p ≡ peak t
    pub start : first_start p ≡ first_written t
    pub settles : (wanted : Option ℕ) → ((w : ℕ) → wanted ≡ Some w → EachLeaf (StartsAt (arrival + w)) t) → settled 1 arrival wanted p sets ≡ Ok (t, sets)

  record AllSettle (ts : Trees) (ps : List Phrase) : Type 0 where
    pub same_peaks : peaks_of 1 (line_up ps) ≡ peaks ts
    pub start : first_start_of (line_up ps) ≡ first_written_of ts
    pub settles : (wanted : Option ℕ) → ((w : ℕ) → wanted ≡ Some w → EachLeafOf (StartsAt (arrival + w)) ts) → settled_all 1 arrival wanted (line_up ps) sets ≡ Ok (trees_in ts, sets)

  record IsRead (levels taken : ℕ) (t : Tree) (rest : List ℕ) : Type 0 where
    pub spelled : Phrase
    pub reads : expr_at cluster levels (taken, text_of arrival cluster sets t ++ rest) ≡ Ok (spelled, (taken + length (numbers t), rest))
    pub makes : Settles t spelled

  -- the texts of parts with commas between, and the closing parenthesis
  abbrev tail_onto : Trees → List ℕ → List ℕ
  tail_onto none rest = 41 ∷ rest
  tail_onto (more t ts) rest = 44 ∷ (text_of arrival cluster sets t ++ tail_onto ts rest)

  abbrev row_onto : Trees → List ℕ → List ℕ
  row_onto none rest = 41 ∷ rest
  row_onto (more t ts) rest = text_of arrival cluster sets t ++ tail_onto ts rest

  tail_is : (ts : Trees) (rest : List ℕ) → flat_map after_comma (texts_of arrival cluster sets ts) ++ 41 ∷ rest ≡ tail_onto ts rest
  tail_is none rest = refl
  tail_is (more t ts) rest = let ih = tail_is ts rest in ap (λ (l : List ℕ). 44 ∷ l) (append_assoc (text_of arrival cluster sets t) (flat_map after_comma (texts_of arrival cluster sets ts)) (41 ∷ rest) ∙ ap (λ l. text_of arrival cluster sets t ++ l) ih)

  row_is : (ts : Trees) (rest : List ℕ) → with_commas (texts_of arrival cluster sets ts) ++ 41 ∷ rest ≡ row_onto ts rest
  row_is none rest = refl
  row_is (more t ts) rest = append_assoc (text_of arrival cluster sets t) (flat_map after_comma (texts_of arrival cluster sets ts)) (41 ∷ rest) ∙ ap (λ l. text_of arrival cluster sets t ++ l) (tail_is ts rest)

  tail_long : (ts : Trees) (rest : List ℕ) → children_in ts < length (tail_onto ts rest)
  tail_long none rest = omega arith
  tail_long (more t ts) rest = let ih = tail_long ts rest in let e = length-append (text_of arrival cluster sets t) (tail_onto ts rest) in omega arith

  record AreRead (levels taken n : ℕ) (ts : Trees) (rest : List ℕ) : Type 0 where
    pub spelled : List Phrase
    pub reads : row_at (expr_at cluster levels) (goes_on_to_child cluster) n (taken, row_onto ts rest) ≡ Ok (spelled, (taken + length (numbers_of ts), rest))
    pub makes : AllSettle ts spelled

  -- words
  join_back : (op : Operator) (levels taken : ℕ) (text : List ℕ) → expr_at cluster (suc levels) (taken, join_word op ++ text) ≡ (row_at (expr_at cluster levels) (goes_on_to_child cluster) (length text) (taken, text) >>= λ parts. Ok (joined op (length (join_word op ++ text)) (line_up parts.0), parts.1))
  unfolding expr_at body_at children_at
  join_back greatest levels taken text = refl
  join_back least levels taken text = refl
  join_back added levels taken text = refl

  scale_back : (levels taken : ℕ) (text : List ℕ) → expr_at cluster (suc levels) (taken, codes "scale(" ++ text) ≡ (part_with_number cluster (expr_at cluster levels) taken (40 ∷ text) >>= λ part. Ok (scaled (length (codes "scale(" ++ text)) part.0.0 part.0.1, part.1))
  unfolding expr_at body_at
  scale_back levels taken text = refl

  barrier_back : (levels taken : ℕ) (text : List ℕ) → expr_at cluster (suc levels) (taken, codes "barrier(" ++ text) ≡ (part_with_number cluster (expr_at cluster levels) taken (40 ∷ text) >>= λ part. Ok (barred (length (codes "barrier(" ++ text)) part.0.0 part.0.1, part.1))
  unfolding expr_at body_at
  barrier_back levels taken text = refl

  number_part : (levels taken to s : ℕ) (text rest : List ℕ) (p : Phrase) → s ≤ PEAK → expr_at cluster levels (taken, text ++ 44 ∷ (decimal s ++ 41 ∷ rest)) ≡ Ok (p, (to, 44 ∷ (decimal s ++ 41 ∷ rest)))
      → part_with_number cluster (expr_at cluster levels) taken (40 ∷ (text ++ 44 ∷ (decimal s ++ 41 ∷ rest))) ≡ Ok ((p, s), (to, rest))
  unfolding part_with_number
  number_part levels taken to s text rest p small read = let number = number_back 0 PEAK s 41 rest (omega arith) (omega arith) small refl in rw (read, number) refl

  row_long : (ts : Trees) (rest : List ℕ) → HasChild ts → children_in ts ≤ length (row_onto ts rest)
  row_long none rest some = absurd some
  row_long (more t ts) rest some = let lt = tail_long ts rest in let e = length-append (text_of arrival cluster sets t) (tail_onto ts rest) in omega arith

  sound_peak : (t : Tree) → IsSound t → peak t ≤ PEAK
  sound_peak (one l) h = h.1
  sound_peak (join op ts) h = h.2
  sound_peak (scale t s) h = h.2
  sound_peak (barrier t v) h = let low = sound_peak t h.0 in let high = h.1 in omega arith

  -- a leaf that starts where it is wanted is not mixed
  agrees : (wanted : Option ℕ) (start : ℕ) → ((w : ℕ) → wanted ≡ Some w → start ≡ arrival + w) → is_mixed wanted (start - arrival) ≡ false
  agrees None start h = refl
  agrees (Some w) start h = let e = h w refl in let same : w ≡ start - arrival = omega arith in grind (arith, nat_tests)

  -- what a join wants of its parts holds where they have one start
  below : (op : Operator) (wanted : Option ℕ) (start : ℕ) (ts : Trees) → HasChild ts → AreSound ts → EachLeafOf IsFitLeaf ts → MeetsAt op (join op ts) → start ≡ first_written_of ts → ((w : ℕ) → wanted ≡ Some w → EachLeafOf (StartsAt (arrival + w)) ts)
      → (w : ℕ) → wanted_below op wanted start ≡ Some w → EachLeafOf (StartsAt (arrival + w)) ts
  below greatest wanted start ts some sound each meets first h w e = h w e
  below least (Some v) start ts some sound each meets first h w e = h w e
  below added (Some v) start ts some sound each meets first h w e = h w e
  below least None start ts some sound each meets first h w e =
      let same : start ≡ w = cc in
      let s_is = same_start_of ts meets.0 some sound each meets.1 in
      subst (λ s. EachLeafOf (StartsAt s) ts) (sym s_is ∙ ap (λ n. arrival + n) (sym first ∙ same)) meets.1
  below added None start ts some sound each meets first h w e =
      let same : start ≡ w = cc in
      let s_is = same_start_of ts meets.0 some sound each meets.1 in
      subst (λ s. EachLeafOf (StartsAt s) ts) (sym s_is ∙ ap (λ n. arrival + n) (sym first ∙ same)) meets.1

  deeper : (levels : ℕ) → 1 ≤ levels → levels ≡ suc (levels - 1)
  deeper levels h = omega arith

  module _ (within : HaveNodesBelow (length cluster) sets) where
    node_set : (l : Leaf) → AreSets sets → l.set < length sets → IsNodeSet (length cluster) (nodes_of sets l)
    node_set l lawful lt = record {
      ascending = All-get_or IsStrictlyIncreasing sets l.set [] lt lawful.ascending;
      within = All-get_or (All (λ n. n < length cluster)) sets l.set [] lt within;
    }

    leaf_is_read : (l : Leaf) (levels taken : ℕ) (rest : List ℕ) → Fits levels taken (one l) → IsRead levels taken (one l) rest
    unfolding leaf_text
    leaf_is_read l levels taken rest f =
        let good = f.sound.0 in
        let nodes = node_set l f.each.named.lawful f.each.known in
        let start : l.start - arrival ≤ 10000 = let late = f.each.late in omega arith in
        let room : taken < 128 = let few = f.few in omega arith in
        let num : taken ≡ l.num = let e : l.num ∷ [] ≡ taken ∷ [] = f.numbered in cc in
        let inner = levels - 1 in
        let left = length (leaf_word l.linear ++ (set_text cluster (nodes_of sets l) ++ 44 ∷ numbers_onto l.k (l.start - arrival) l.dur l.v rest)) in
        let m = leaf_read cluster f.each.named.apart (nodes_of sets l) nodes f.each.named.nodes l.k (l.start - arrival) l.dur l.v rest l.linear taken left in
        record {
          spelled = asked m;
          reads = ap (λ n. expr_at cluster n (taken, text_of arrival cluster sets (one l) ++ rest)) (deeper levels f.shallow) ∙ leaf_back cluster f.each.named.apart (nodes_of sets l) nodes f.each.named.nodes l.k (l.start - arrival) l.dur l.v rest l.linear inner taken room good.some_nodes good.few_nodes start good.some_slots good.few_slots f.sound.1;
          makes = record {
            same_peak = omega arith;
            start = refl;
            settles = λ wanted h. ap (made_of one) (leaf_settles arrival sets f.each.named.lawful l f.each.known f.each.early good f.sound.1 m num refl refl refl refl refl wanted refl (agrees wanted l.start h));
          };
        }

    -- the facts of a first part, and those of the others
    first_fit : (levels taken : ℕ) (t : Tree) (ts : Trees) → AllFit levels taken (more t ts) → Fits levels taken t
    first_fit levels taken t ts f =
        let count = length-append (numbers t) (numbers_of ts) in
        record {
          sound = f.sound.0;
          aligned = f.aligned.0;
          each = f.each.0;
          shallow = let shallow = f.shallow in omega arith;
          numbered = (cut (numbers t) (numbers_of ts) taken f.numbered).0;
          few = let few = f.few in omega arith;
        }

    others_fit : (levels taken : ℕ) (t : Tree) (ts : Trees) → AllFit levels taken (more t ts) → AllFit levels (taken + length (numbers t)) ts
    others_fit levels taken t ts f =
        let count = length-append (numbers t) (numbers_of ts) in
        record {
          sound = f.sound.1;
          aligned = f.aligned.1;
          each = f.each.1;
          shallow = let shallow = f.shallow in omega arith;
          numbered = (cut (numbers t) (numbers_of ts) taken f.numbered).1;
          few = let few = f.few in omega arith;
        }

    inner_fit : (levels taken : ℕ) (op : Operator) (ts : Trees) → Fits levels taken (join op ts) → AllFit (levels - 1) taken ts
    inner_fit levels taken op ts f = record {
      sound = f.sound.1;
      aligned = f.aligned.1;
      each = f.each;
      shallow = let shallow = f.shallow in omega arith;
      numbered = f.numbered;
      few = f.few;
    }

    join_is_read : (levels taken : ℕ) (op : Operator) (ts : Trees) (rest : List ℕ) → Fits levels taken (join op ts) → AreRead (levels - 1) taken (length (row_onto ts rest)) ts rest → IsRead levels taken (join op ts) rest
    join_is_read levels taken op ts rest f r =
        let text : text_of arrival cluster sets (join op ts) ++ rest ≡ join_word op ++ row_onto ts rest = simp append_assoc (ap (λ l. join_word op ++ l) (row_is ts rest)) in
        let left = length (join_word op ++ row_onto ts rest) in
        let some : 1 ≤ levels = let shallow = f.shallow in omega arith in
        let low : peak_joined op (peaks_of 1 (line_up r.spelled)) ≤ PEAK = rw r.makes.same_peaks f.sound.2 in
        record {
          spelled = joined op left (line_up r.spelled);
          reads =
              ap (λ l. expr_at cluster levels (taken, l)) text
              ∙ ap (λ n. expr_at cluster n (taken, join_word op ++ row_onto ts rest)) (deeper levels some)
              ∙ join_back op (levels - 1) taken (row_onto ts rest)
              ∙ ap (λ row. row >>= λ parts. Ok (joined op left (line_up parts.0), parts.1)) r.reads;
          makes = record {
            same_peak = ap (peak_joined op) r.makes.same_peaks;
            start = r.makes.start;
            settles = λ wanted h.
                poor (peak_joined op (peaks_of 1 (line_up r.spelled))) left (made_of (λ us. join op (row us)) (settled_all 1 arrival (wanted_below op wanted (first_start_of (line_up r.spelled))) (line_up r.spelled) sets)) low
                ∙ ap (made_of (λ us. join op (row us))) (r.makes.settles (wanted_below op wanted (first_start_of (line_up r.spelled))) (below op wanted (first_start_of (line_up r.spelled)) ts f.sound.0 f.sound.1 f.each f.aligned.0 r.makes.start h))
                ∙ ap (λ us. Ok (join op us, sets)) (row-trees_in ts);
          };
        }

    scale_is_read : (levels taken : ℕ) (t : Tree) (s : ℕ) (rest : List ℕ) → Fits levels taken (scale t s) → IsRead (levels - 1) taken t (44 ∷ (decimal s ++ 41 ∷ rest)) → IsRead levels taken (scale t s) rest
    scale_is_read levels taken t s rest f r =
        let inner = text_of arrival cluster sets t ++ 44 ∷ (decimal s ++ 41 ∷ rest) in
        let text : text_of arrival cluster sets (scale t s) ++ rest ≡ codes "scale(" ++ inner = simp append_assoc in
        let left = length (codes "scale(" ++ inner) in
        let some : 1 ≤ levels = let shallow = f.shallow in omega arith in
        let low : s * peak_of 1 r.spelled ≤ PEAK = rw r.makes.same_peak f.sound.2 in
        record {
          spelled = scaled left r.spelled s;
          reads =
              ap (λ l. expr_at cluster levels (taken, l)) text
              ∙ ap (λ n. expr_at cluster n (taken, codes "scale(" ++ inner)) (deeper levels some)
              ∙ scale_back (levels - 1) taken inner
              ∙ ap (λ part. part >>= λ x. Ok (scaled left x.0.0 x.0.1, x.1)) (number_part (levels - 1) taken (taken + length (numbers t)) s (text_of arrival cluster sets t) rest r.spelled f.sound.1 r.reads);
          makes = record {
            same_peak = ap (λ n. s * n) r.makes.same_peak;
            start = r.makes.start;
            settles = λ wanted h. poor (s * peak_of 1 r.spelled) left (made_of (λ u. scale u s) (settled 1 arrival wanted r.spelled sets)) low ∙ ap (made_of (λ u. scale u s)) (r.makes.settles wanted h);
          };
        }

    barrier_is_read : (levels taken : ℕ) (t : Tree) (v : ℕ) (rest : List ℕ) → Fits levels taken (barrier t v) → IsRead (levels - 1) taken t (44 ∷ (decimal v ++ 41 ∷ rest)) → IsRead levels taken (barrier t v) rest
    barrier_is_read levels taken t v rest f r =
        let inner = text_of arrival cluster sets t ++ 44 ∷ (decimal v ++ 41 ∷ rest) in
        let text : text_of arrival cluster sets (barrier t v) ++ rest ≡ codes "barrier(" ++ inner = simp append_assoc in
        let left = length (codes "barrier(" ++ inner) in
        let some : 1 ≤ levels = let shallow = f.shallow in omega arith in
        let one_v : v * 1 ≡ v = omega arith in
        let low : max (v * 1) (peak_of 1 r.spelled) ≤ PEAK = let small = f.sound.1 in let part = sound_peak t f.sound.0 in let same = r.makes.same_peak in omega arith in
        record {
          spelled = barred left r.spelled v;
          reads =
              ap (λ l. expr_at cluster levels (taken, l)) text
              ∙ ap (λ n. expr_at cluster n (taken, codes "barrier(" ++ inner)) (deeper levels some)
              ∙ barrier_back (levels - 1) taken inner
              ∙ ap (λ part. part >>= λ x. Ok (barred left x.0.0 x.0.1, x.1)) (number_part (levels - 1) taken (taken + length (numbers t)) v (text_of arrival cluster sets t) rest r.spelled f.sound.1 r.reads);
          makes = record {
            same_peak = ap (λ n. max n (peak_of 1 r.spelled)) one_v ∙ ap (λ n. max v n) r.makes.same_peak;
            start = r.makes.start;
            settles = λ wanted h.
                poor (max (v * 1) (peak_of 1 r.spelled)) left (made_of (λ u. barrier u (v * 1)) (settled 1 arrival wanted r.spelled sets)) low
                ∙ ap (made_of (λ u. barrier u (v * 1))) (r.makes.settles wanted h)
                ∙ ap (λ n. Ok (barrier t n, sets)) one_v;
          };
        }

    inside_scale : (levels taken : ℕ) (t : Tree) (s : ℕ) → Fits levels taken (scale t s) → Fits (levels - 1) taken t
    inside_scale levels taken t s f = record {
      sound = f.sound.0;
      aligned = f.aligned;
      each = f.each;
      shallow = let shallow = f.shallow in omega arith;
      numbered = f.numbered;
      few = f.few;
    }

    inside_barrier : (levels taken : ℕ) (t : Tree) (v : ℕ) → Fits levels taken (barrier t v) → Fits (levels - 1) taken t
    inside_barrier levels taken t v f = record {
      sound = f.sound.0;
      aligned = f.aligned;
      each = f.each;
      shallow = let shallow = f.shallow in omega arith;
      numbered = f.numbered;
      few = f.few;
    }

    last_is_read : (levels taken n : ℕ) (t : Tree) (rest : List ℕ) → IsRead levels taken t (41 ∷ rest) → AreRead levels taken (suc n) (more t none) rest
    unfolding row_at
    last_is_read levels taken n t rest a =
        let count : taken + length (numbers t) ≡ taken + length (numbers t ++ []) = omega (arith, length-append (numbers t) []) in
        record {
          spelled = a.spelled ∷ [];
          reads = rw a.reads (ap (λ k. Ok (a.spelled ∷ [], (k, rest))) count);
          makes = record {
            same_peaks = ap (λ n. n ∷ []) a.makes.same_peak;
            start = a.makes.start;
            settles = λ wanted h. let one = a.makes.settles wanted (λ w e. (h w e).0) in rw one refl;
          };
        }

    next_is_read : (levels taken n : ℕ) (t u : Tree) (us : Trees) (rest : List ℕ) → IsRead levels taken t (44 ∷ row_onto (more u us) rest) → AreRead levels (taken + length (numbers t)) n (more u us) rest → AreRead levels taken (suc n) (more t (more u us)) rest
    unfolding row_at
    next_is_read levels taken n t u us rest a r =
        let count : taken + length (numbers t) + length (numbers_of (more u us)) ≡ taken + length (numbers t ++ numbers_of (more u us)) = omega (arith, length-append (numbers t) (numbers_of (more u us))) in
        record {
          spelled = a.spelled ∷ r.spelled;
          reads = rw (a.reads, r.reads) (ap (λ k. Ok (a.spelled ∷ r.spelled, (k, rest))) count);
          makes = record {
            same_peaks = rw (a.makes.same_peak, r.makes.same_peaks) refl;
            start = a.makes.start;
            settles = λ wanted h.
                let one = a.makes.settles wanted (λ w e. (h w e).0) in
                let others = r.makes.settles wanted (λ w e. (h w e).1) in
                rw (one, others) refl;
          };
        }

    mutual
      is_read : (t : Tree) (levels taken : ℕ) (rest : List ℕ) → Fits levels taken t → IsRead levels taken t rest
      is_read (one l) levels taken rest f = leaf_is_read l levels taken rest f
      is_read (join op ts) levels taken rest f =
          join_is_read levels taken op ts rest f (are_read ts (levels - 1) taken (length (row_onto ts rest)) rest f.sound.0 (row_long ts rest f.sound.0) (inner_fit levels taken op ts f))
      is_read (scale t s) levels taken rest f = scale_is_read levels taken t s rest f (is_read t (levels - 1) taken (44 ∷ (decimal s ++ 41 ∷ rest)) (inside_scale levels taken t s f))
      is_read (barrier t v) levels taken rest f = barrier_is_read levels taken t v rest f (is_read t (levels - 1) taken (44 ∷ (decimal v ++ 41 ∷ rest)) (inside_barrier levels taken t v f))

      are_read : (ts : Trees) (levels taken n : ℕ) (rest : List ℕ) → HasChild ts → children_in ts ≤ n → AllFit levels taken ts → AreRead levels taken n ts rest
      are_read none levels taken n rest some enough f = absurd some
      are_read (more t ts) levels taken zero rest some enough f = absurd (omega arith)
      are_read (more t none) levels taken (suc n) rest some enough f = last_is_read levels taken n t rest (is_read t levels taken (41 ∷ rest) (first_fit levels taken t none f))
      are_read (more t (more u us)) levels taken (suc n) rest some enough f =
          next_is_read levels taken n t u us rest (is_read t levels taken (44 ∷ row_onto (more u us) rest) (first_fit levels taken t (more u us) f)) (are_read (more u us) levels (taken + length (numbers t)) n rest tt (omega arith) (others_fit levels taken t (more u us) f))

    pub whole_back : (t : Tree) → Fits 64 0 t → expression (text_of arrival cluster sets t) 1 arrival cluster sets ≡ Ok (t, sets)
    unfolding expression_left whole_at
    whole_back t f =
        let r = is_read t 64 0 [] f in
        let text : text_of arrival cluster sets t ++ [] ≡ text_of arrival cluster sets t = simp append-nil in
        let reads : expr_at cluster 64 (0, text_of arrival cluster sets t) ≡ Ok (r.spelled, (0 + length (numbers t), [])) = ap (λ l. expr_at cluster 64 (0, l)) (sym text) ∙ r.reads in
        let makes = r.makes.settles None (λ w e. absurd (cc)) in
        rw (reads, makes) refl

-- what is asked of each leaf, from its parts
module _ (arrival : ℕ) (cluster : List NodeText) (sets : List (List ℕ)) where
  mutual
    fit_leaves : (t : Tree) → EachLeaf (λ l. (arrival ≤ l.start) × (l.start ≤ arrival + 10000)) t → EachLeaf (λ l. l.set < length sets) t → AreNamed cluster sets t → EachLeaf (IsFitLeaf arrival cluster sets) t
    fit_leaves (one l) start known named = record { early = start.0; late = start.1; known = known; named = named }
    fit_leaves (join op ts) start known named = fit_all ts start known named
    fit_leaves (scale t s) start known named = fit_leaves t start known named
    fit_leaves (barrier t v) start known named = fit_leaves t start known named

    fit_all : (ts : Trees) → EachLeafOf (λ l. (arrival ≤ l.start) × (l.start ≤ arrival + 10000)) ts → EachLeafOf (λ l. l.set < length sets) ts → EachLeafOf (IsNamed cluster sets) ts → EachLeafOf (IsFitLeaf arrival cluster sets) ts
    fit_all none start known named = tt
    fit_all (more t ts) start known named = (fit_leaves t start.0 known.0 named.0, fit_all ts start.1 known.1 named.1)

  pub reads_back : (t : Tree) → IsTextTree arrival (length sets) t → HaveNodesBelow (length cluster) sets → AreNamed cluster sets t → expression (text_of arrival cluster sets t) 1 arrival cluster sets ≡ Ok (t, sets)
  reads_back t h within named =
      let count : length (numbers t) ≡ length (leaves t) = ap length h.numbered ∙ length-range_with_len 0 (length (leaves t)) in
      whole_back arrival cluster sets within t (record {
        sound = h.well_made.sound;
        aligned = h.well_made.aligned;
        each = fit_leaves t h.starts h.known named;
        shallow = h.well_made.shallow;
        numbered = h.numbered ∙ ap (range_with_len 0) (sym count);
        few = let few = h.well_made.few_leaves in omega arith;
      })
