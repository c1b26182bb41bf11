-- A charged expression has the same leaves but for their worths, and is as well made.
use Rattle.std.proofs.Common.{◌≡◌, ℕ, zero, suc, ◌+◌, ◌-◌, ◌*◌, ◌/◌, ◌%◌, ◌≤◌, ◌==◌, max, Bool, true, false, cond, IsTrue, List, [], ◌∷◌, ◌++◌, length, map, get_or, refl, sym, ap, subst, ◌∙◌, arith, true≢false}
use Rattle.std.specs.Prelude.{All, AllPairs, ◌≢◌}
use Rattle.std.proofs.Math.Nat.{div-mul-le_self, mul-mod_left, mul_left_comm}
use Rattle.std.proofs.Math.ListN.{get_or-map}
use Rattle.std.proofs.lemmas.List.{length-map, map-append}
use Rattle.std.proofs.lemmas.Nat.{mul-le}
use Rattle.tetri_delay.specs.Charge.{charged, charged_leaf, charged_of, cost, factor, free, multiplied, rounded}
use Rattle.tetri_delay.specs.declared.charge.Charge.{Charge}
use Rattle.tetri_strl.proofs.ExprLaws.{eq_from_test}
use Rattle.tetri_strl.specs.Aligned.{AreAligned, EachLeaf, EachLeafOf, IsAligned, MeetsAt, StartsAt}
use Rattle.tetri_strl.specs.Tree.{Operator, greatest, least, added, Tree, one, join, scale, barrier, Trees, none, more, leaves, leaves_of}
use Rattle.tetri_strl.specs.WellMade.{AreSound, HasChild, IsGoodLeaf, IsSound, IsWellMade, PEAK, depth, depth_of, peak, peak_joined, peaks}
use Rattle.tetri_strl.specs.Worth.{added_of, greatest_of}
use Rattle.tetri_strl.specs.declared.expr.Leaf.{Leaf}

-- ---- the leaves
module _ {X : Type 0} (f : Leaf → X) (keeps : (c : Charge) (by : ℕ) (l : Leaf) → f (charged_leaf c by l) ≡ f l) where
  mutual
    pub leaves_alike : (c : Charge) (by : ℕ) (t : Tree) → map f (leaves (charged c by t)) ≡ map f (leaves t)
    leaves_alike c by (one l) = ap (λ x. x ∷ []) (keeps c by l)
    leaves_alike c by (join op ts) = leaves_of_alike c by ts
    leaves_alike c by (scale t s) = by_test (s == 0) (leaves_alike c (factor by s) t)
      where
        by_test : (b : Bool) → map f (leaves (charged c (factor by s) t)) ≡ map f (leaves t) → map f (leaves (cond b (scale t s) (scale (charged c (factor by s) t) s))) ≡ map f (leaves t)
        by_test true e = refl
        by_test false e = e
    leaves_alike c by (barrier t v) = leaves_alike (free c) by t

    leaves_of_alike : (c : Charge) (by : ℕ) (ts : Trees) → map f (leaves_of (charged_of c by ts)) ≡ map f (leaves_of ts)
    leaves_of_alike c by none = refl
    leaves_of_alike c by (more t ts) =
        let first = leaves_alike c by t in
        let rest = leaves_of_alike c by ts in
        map-append f (leaves (charged c by t)) (leaves_of (charged_of c by ts)) ∙ ap (λ xs. xs ++ map f (leaves_of (charged_of c by ts))) first ∙ ap (λ xs. map f (leaves t) ++ xs) rest
        ∙ sym (map-append f (leaves t) (leaves_of ts))

  pub same_at : (c : Charge) (by : ℕ) (t : Tree) (k : ℕ) (d : Leaf) → f (get_or (leaves (charged c by t)) k d) ≡ f (get_or (leaves t) k d)
  same_at c by t k d =
      sym (get_or-map f (leaves (charged c by t)) k d) ∙ ap (λ xs. get_or xs k (f d)) (leaves_alike c by t) ∙ get_or-map f (leaves t) k d

pub same_count : (c : Charge) (by : ℕ) (t : Tree) → length (leaves (charged c by t)) ≡ length (leaves t)
same_count c by t =
    sym (length-map (leaves (charged c by t)) (λ l. l.num)) ∙ ap length (leaves_alike (λ l. l.num) (λ c b l. refl) c by t) ∙ length-map (leaves t) (λ l. l.num)

pub same_distinct : (c : Charge) (by : ℕ) (t : Tree) → AllPairs (λ l m. l.num ≢ m.num) (leaves t) → AllPairs (λ l m. l.num ≢ m.num) (leaves (charged c by t))
same_distinct c by t apart = λ i j d lt within same.
    let num = same_at (λ l. l.num) (λ c b l. refl) c by t in
    apart i j d lt (omega (arith, within, same_count c by t)) (sym (num i d) ∙ same ∙ num j d)

-- what is said of a leaf's set
module _ (P : ℕ → Type 0) where
  pub same_sets : (c : Charge) (by : ℕ) (t : Tree) → All (λ l. P l.set) (leaves t) → All (λ l. P l.set) (leaves (charged c by t))
  same_sets c by t all = λ k d within.
      subst P (sym (same_at (λ l. l.set) (λ c b l. refl) c by t k d)) (all k d (omega (arith, within, same_count c by t)))

-- ---- their starts
module _ (P : Leaf → Type 0) (keeps : (c : Charge) (by : ℕ) (l : Leaf) → P l → P (charged_leaf c by l)) where
  mutual
    pub each_alike : (c : Charge) (by : ℕ) (t : Tree) → EachLeaf P t → EachLeaf P (charged c by t)
    each_alike c by (one l) h = keeps c by l h
    each_alike c by (join op ts) h = each_of_alike c by ts h
    each_alike c by (scale t s) h = by_test (s == 0) (each_alike c (factor by s) t h)
      where
        by_test : (b : Bool) → EachLeaf P (charged c (factor by s) t) → EachLeaf P (cond b (scale t s) (scale (charged c (factor by s) t) s))
        by_test true e = h
        by_test false e = e
    each_alike c by (barrier t v) h = each_alike (free c) by t h

    each_of_alike : (c : Charge) (by : ℕ) (ts : Trees) → EachLeafOf P ts → EachLeafOf P (charged_of c by ts)
    each_of_alike c by none h = tt
    each_of_alike c by (more t ts) h = (each_alike c by t h.0, each_of_alike c by ts h.1)

meets_alike : (c : Charge) (by : ℕ) (op : Operator) (ts : Trees) → MeetsAt op (join op ts) → MeetsAt op (join op (charged_of c by ts))
meets_alike c by greatest ts h = tt
meets_alike c by least ts h = (h.0, each_alike (StartsAt h.0) (λ c b l e. e) c by (join least ts) h.1)
meets_alike c by added ts h = (h.0, each_alike (StartsAt h.0) (λ c b l e. e) c by (join added ts) h.1)

mutual
  aligned_alike : (c : Charge) (by : ℕ) (t : Tree) → IsAligned t → IsAligned (charged c by t)
  aligned_alike c by (one l) h = tt
  aligned_alike c by (join op ts) h = (meets_alike c by op ts h.0, aligned_of_alike c by ts h.1)
  aligned_alike c by (scale t s) h = by_test (s == 0) (aligned_alike c (factor by s) t h)
    where
      by_test : (b : Bool) → IsAligned (charged c (factor by s) t) → IsAligned (cond b (scale t s) (scale (charged c (factor by s) t) s))
      by_test true e = h
      by_test false e = e
  aligned_alike c by (barrier t v) h = aligned_alike (free c) by t h

  aligned_of_alike : (c : Charge) (by : ℕ) (ts : Trees) → AreAligned ts → AreAligned (charged_of c by ts)
  aligned_of_alike c by none h = tt
  aligned_of_alike c by (more t ts) h = (aligned_alike c by t h.0, aligned_of_alike c by ts h.1)

-- ---- their depth
mutual
  depth_alike : (c : Charge) (by : ℕ) (t : Tree) → depth (charged c by t) ≡ depth t
  depth_alike c by (one l) = refl
  depth_alike c by (join op ts) = ap (λ n. n + 1) (depth_of_alike c by ts)
  depth_alike c by (scale t s) = by_test (s == 0) (depth_alike c (factor by s) t)
    where
      by_test : (b : Bool) → depth (charged c (factor by s) t) ≡ depth t → depth (cond b (scale t s) (scale (charged c (factor by s) t) s)) ≡ depth t + 1
      by_test true e = refl
      by_test false e = ap (λ n. n + 1) e
  depth_alike c by (barrier t v) = ap (λ n. n + 1) (depth_alike (free c) by t)

  depth_of_alike : (c : Charge) (by : ℕ) (ts : Trees) → depth_of (charged_of c by ts) ≡ depth_of ts
  depth_of_alike c by none = refl
  depth_of_alike c by (more t ts) = ap (λ n. max n (depth_of (charged_of c by ts))) (depth_alike c by t) ∙ ap (max (depth t)) (depth_of_alike c by ts)

-- ---- numbers
positive : (s : ℕ) → (s == 0) ≡ false → 1 ≤ s
positive zero e = absurd (true≢false e)
positive (suc s) e = omega arith

at_least : (s n : ℕ) → 1 ≤ s → n ≤ s * n
at_least s n some = let h = mul-le 1 n s n some (omega arith) in omega (arith, h)

-- ---- their worths
rounded_le : (l : Leaf) (v : ℕ) → rounded l v ≤ v
rounded_le l v = by_test l.linear
  where
    by_test : (b : Bool) → cond b (v / l.k * l.k) v ≤ v
    by_test true = div-mul-le_self v l.k
    by_test false = omega arith

whole_rounded : (l : Leaf) (v : ℕ) → IsTrue l.linear → rounded l v % l.k ≡ 0
whole_rounded l v = by_test l.linear
  where
    by_test : (b : Bool) → IsTrue b → cond b (v / l.k * l.k) v % l.k ≡ 0
    by_test true h = mul-mod_left (v / l.k) l.k
    by_test false h = absurd (true≢false (sym h))

-- the peaks of parts multiplied bound those of the charged parts
abbrev AreTimes : ℕ → List ℕ → List ℕ → Type 0
AreTimes m [] [] = Unit {0}
AreTimes m [] (y ∷ ys) = ⊥
AreTimes m (x ∷ xs) [] = ⊥
AreTimes m (x ∷ xs) (y ∷ ys) = (x ≤ m * y) × AreTimes m xs ys

times_greatest : (m : ℕ) (xs ys : List ℕ) → AreTimes m xs ys → greatest_of xs ≤ m * greatest_of ys
times_greatest m [] [] h = omega arith
times_greatest m [] (y ∷ ys) h = absurd h
times_greatest m (x ∷ xs) [] h = absurd h
times_greatest m (x ∷ xs) (y ∷ ys) h =
    let first : m * y ≤ m * max y (greatest_of ys) = mul-le m y m (max y (greatest_of ys)) (omega arith) (omega arith) in
    let rest : m * greatest_of ys ≤ m * max y (greatest_of ys) = mul-le m (greatest_of ys) m (max y (greatest_of ys)) (omega arith) (omega arith) in
    omega (arith, h.0, times_greatest m xs ys h.1, first, rest)

times_added : (m : ℕ) (xs ys : List ℕ) → AreTimes m xs ys → added_of xs ≤ m * added_of ys
times_added m [] [] h = omega arith
times_added m [] (y ∷ ys) h = absurd h
times_added m (x ∷ xs) [] h = absurd h
times_added m (x ∷ xs) (y ∷ ys) h = grind (arith, h.0, times_added m xs ys h.1)

times_joined : (op : Operator) (m : ℕ) (xs ys : List ℕ) → AreTimes m xs ys → peak_joined op xs ≤ m * peak_joined op ys
times_joined greatest m xs ys h = times_greatest m xs ys h
times_joined least m xs ys h = times_greatest m xs ys h
times_joined added m xs ys h = times_added m xs ys h

mutual
  pub peak_times : (c : Charge) (by : ℕ) (t : Tree) → peak (charged c by t) ≤ c.times * peak t
  peak_times c by (one l) = omega (arith, rounded_le l (multiplied c l.v - cost c by l))
  peak_times c by (join op ts) = times_joined op c.times (peaks (charged_of c by ts)) (peaks ts) (peaks_times c by ts)
  peak_times c by (scale t s) = by_test (peak_times c (factor by s) t) (s == 0) refl
    where
      by_test : peak (charged c (factor by s) t) ≤ c.times * peak t → (b : Bool) → (s == 0) ≡ b → peak (cond b (scale t s) (scale (charged c (factor by s) t) s)) ≤ c.times * (s * peak t)
      by_test h true e = subst (λ n. n * peak t ≤ c.times * (n * peak t)) (sym (eq_from_test s 0 e)) (omega arith)
      by_test h false e =
          let p = peak (charged c (factor by s) t) in
          let scaled : s * p ≤ s * (c.times * peak t) = mul-le s p s (c.times * peak t) (omega arith) h in
          subst (λ n. s * p ≤ n) (mul_left_comm s c.times (peak t)) scaled
  peak_times c by (barrier t v) =
      let first : c.times * v ≤ c.times * max v (peak t) = mul-le c.times v c.times (max v (peak t)) (omega arith) (omega arith) in
      let rest : c.times * peak t ≤ c.times * max v (peak t) = mul-le c.times (peak t) c.times (max v (peak t)) (omega arith) (omega arith) in
      omega (arith, first, rest, peak_times (free c) by t)

  peaks_times : (c : Charge) (by : ℕ) (ts : Trees) → AreTimes c.times (peaks (charged_of c by ts)) (peaks ts)
  peaks_times c by none = tt
  peaks_times c by (more t ts) = (peak_times c by t, peaks_times c by ts)

-- each part's peak stays one once it is multiplied
abbrev Fits : ℕ → Trees → Type 0
Fits m none = Unit {0}
Fits m (more t ts) = (m * peak t ≤ PEAK) × Fits m ts

fits_greatest : (m : ℕ) (ts : Trees) → m * greatest_of (peaks ts) ≤ PEAK → Fits m ts
fits_greatest m none h = tt
fits_greatest m (more t ts) h =
    let most = max (peak t) (greatest_of (peaks ts)) in
    let first : m * peak t ≤ m * most = mul-le m (peak t) m most (omega arith) (omega arith) in
    let rest : m * greatest_of (peaks ts) ≤ m * most = mul-le m (greatest_of (peaks ts)) m most (omega arith) (omega arith) in
    (omega (arith, first, h), fits_greatest m ts (omega (arith, rest, h)))

fits_added : (m : ℕ) (ts : Trees) → m * added_of (peaks ts) ≤ PEAK → Fits m ts
fits_added m none h = tt
fits_added m (more t ts) h =
    let whole = peak t + added_of (peaks ts) in
    let first : m * peak t ≤ m * whole = mul-le m (peak t) m whole (omega arith) (omega arith) in
    let rest : m * added_of (peaks ts) ≤ m * whole = mul-le m (added_of (peaks ts)) m whole (omega arith) (omega arith) in
    (omega (arith, first, h), fits_added m ts (omega (arith, rest, h)))

fits_joined : (op : Operator) (m : ℕ) (ts : Trees) → m * peak_joined op (peaks ts) ≤ PEAK → Fits m ts
fits_joined greatest m ts h = fits_greatest m ts h
fits_joined least m ts h = fits_greatest m ts h
fits_joined added m ts h = fits_added m ts h

has_child : (c : Charge) (by : ℕ) (ts : Trees) → HasChild ts → HasChild (charged_of c by ts)
has_child c by none h = h
has_child c by (more t ts) h = tt

mutual
  sound_alike : (c : Charge) (by : ℕ) (t : Tree) → IsSound t → c.times * peak t ≤ PEAK → IsSound (charged c by t)
  sound_alike c by (one l) h le =
      let left = multiplied c l.v - cost c by l in
      let good : IsGoodLeaf (charged_leaf c by l) = record {
        some_nodes = h.0.some_nodes;
        few_nodes = h.0.few_nodes;
        within = h.0.within;
        some_slots = h.0.some_slots;
        few_slots = h.0.few_slots;
        whole = λ linear. whole_rounded l left linear;
      } in
      (good, omega (arith, rounded_le l left))
  sound_alike c by (join op ts) h le =
      let times = times_joined op c.times (peaks (charged_of c by ts)) (peaks ts) (peaks_times c by ts) in
      (has_child c by ts h.0, sounds_alike c by ts h.1 (fits_joined op c.times ts le), omega (arith, times, le))
  sound_alike c by (scale t s) h le = by_test (λ small. sound_alike c (factor by s) t h.0 small) (s == 0) refl
    where
      by_test : (c.times * peak t ≤ PEAK → IsSound (charged c (factor by s) t)) → (b : Bool) → (s == 0) ≡ b → IsSound (cond b (scale t s) (scale (charged c (factor by s) t) s))
      by_test part_sound true e = h
      by_test part_sound false e =
          let m = c.times in
          let some : 1 ≤ s = positive s e in
          let part : m * peak t ≤ m * (s * peak t) = mul-le m (peak t) m (s * peak t) (omega arith) (at_least s (peak t) some) in
          let p = peak (charged c (factor by s) t) in
          let scaled : s * p ≤ s * (m * peak t) = mul-le s p s (m * peak t) (omega arith) (peak_times c (factor by s) t) in
          let whole : s * p ≤ m * (s * peak t) = subst (λ n. s * p ≤ n) (mul_left_comm s m (peak t)) scaled in
          (part_sound (omega (arith, part, le)), h.1, omega (arith, whole, le))
  sound_alike c by (barrier t v) h le =
      let rest : c.times * peak t ≤ c.times * max v (peak t) = mul-le c.times (peak t) c.times (max v (peak t)) (omega arith) (omega arith) in
      (sound_alike (free c) by t h.0 (omega (arith, rest, le)), omega arith)

  sounds_alike : (c : Charge) (by : ℕ) (ts : Trees) → AreSound ts → Fits c.times ts → AreSound (charged_of c by ts)
  sounds_alike c by none h fits = tt
  sounds_alike c by (more t ts) h fits = (sound_alike c by t h.0 fits.0, sounds_alike c by ts h.1 fits.1)

pub well_made_alike : (c : Charge) (by : ℕ) (t : Tree) → IsWellMade t → c.times * peak t ≤ PEAK → IsWellMade (charged c by t)
well_made_alike c by t h le = record {
  sound = sound_alike c by t h.sound le;
  aligned = aligned_alike c by t h.aligned;
  distinct = same_distinct c by t h.distinct;
  few_leaves = omega (arith, same_count c by t, h.few_leaves);
  shallow = omega (arith, depth_alike c by t, h.shallow);
}
