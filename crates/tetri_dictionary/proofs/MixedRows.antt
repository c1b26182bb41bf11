-- Rows of whole numbers, and rows of fractions, under a pivot.
use Rattle.std.proofs.Common.{◌≡◌, ℕ, ◌+◌, ◌^◌, ◌<◌, ◌≤◌, refl, sym, ap, ◌∙◌, subst, arith, List, [], ◌∷◌, length, get_or, set, Option, Some, None, Ok, MatchOption}
use Rattle.std.specs.Global.{Global}
use Rattle.std.specs.Vec.{with_items}
use Prim.Native.Nat.{zero, suc}
use Rattle.std.specs.Prelude.{All, unsigned_abs, Vec}
use Rattle.std.proofs.lemmas.List.{length-map, get_or-map, set-get_or, get_or_default}
use lib.IntN.{ℤ, pos, negsuc}
use lib.Signed.{lt_z}
use mir.Val.{to_z, of_z}
use mir.Syntax.{w64}
use Rattle.tetri_algebra.specs.Integers.{abs_positive}
use Rattle.tetri_algebra.specs.Rational.{ℚ, fraction}
use Rattle.tetri_algebra.specs.RationalRing.{zero_ℚ, num-whole_ℚ}
use Rattle.tetri_num.specs.Checked.{IsRepresentable, checked_sum}
use Rattle.tetri_num.specs.declared.places.Kind.TheVariants as Kind
use Rattle.tetri_num.proofs.FractionLaws.{checked_product-zero_left, checked_sum-zero_right, value_representable}
use Rattle.tetri_num.specs.declared.fractions.Frac.{Frac}
use Rattle.tetri_num.specs.Frac.{value}
use Rattle.tetri_rows.specs.Rows.{meaning, put_in, solved_for}
use Rattle.tetri_rows.specs.Small.{IsSmall, IsShort, IsDenominator}
use Rattle.tetri_rows.proofs.RowLaws.{fraction_not_zero, negative_number, not_zero_number, positive_number, short_word, small_numbers, zero_number}
use Rattle.tetri_dictionary.specs.declared.mixed.MixedRow.{MixedRow}
use Rattle.tetri_dictionary.specs.declared.mixed.MixedRow.TheVariants.{Whole, Fractions}
use Rattle.tetri_dictionary.specs.Fractions.{values}
use Rattle.tetri_dictionary.specs.Mixed.{mixed_row, AreWholeNumbers, IsMixedRow}
use Rattle.tetri_dictionary.specs.Pivots.{column_of, replaced_entry, replaced_row, solved_row}
use Rattle.tetri_dictionary.specs.Steps.{or_place, each_pair}
use Rattle.tetri_base.specs.ResultSteps.{then_ok}
use Rattle.tetri_dictionary.specs.Tables.{is_negative, is_positive}
use Rattle.tetri_dictionary.proofs.Entries.{value_at_place}
use Rattle.tetri_dictionary.proofs.FullTables.{items_are}
use Rattle.tetri_dictionary.proofs.SmallSteps.{replaced_small, solved_small}

behind : (j : ℕ) → j + 1 ≡ suc j
behind j = omega arith

-- ---- what a row has
pub meaning_length : (d : ℤ) (ns : List ℤ) → length (meaning d ns) ≡ length ns
meaning_length d ns = length-map ns (λ n. fraction n (unsigned_abs d))

pub mixed_wide : (n : ℕ) (r : MixedRow) → IsMixedRow n r → length (mixed_row r) ≡ n + 1
mixed_wide n (Whole den numbers) h = meaning_length den numbers.items ∙ h.wide
mixed_wide n (Fractions numbers) h = length-map numbers.items value ∙ h

small_is_representable : (p : ℚ) → IsSmall p → IsRepresentable p
small_is_representable p h = record { num = within p.num h.num; den = within (pos p.den) h.den }
  where
    within : (z : ℤ) → unsigned_abs z < 2 ^ 42 → unsigned_abs z < 2 ^ 127
    within z h = omega arith

pub mixed_representable : (n : ℕ) (r : MixedRow) → IsMixedRow n r → All IsRepresentable (mixed_row r)
mixed_representable n (Whole den numbers) h q d l = small_is_representable (get_or (meaning den numbers.items) q d) (small_numbers den numbers.items h.over h.short q d l)
mixed_representable n (Fractions numbers) h q d l = fractions_representable numbers.items q d l
  where
    fractions_representable : (xs : List Frac) → All IsRepresentable (values xs)
    fractions_representable [] q d l = absurd (omega arith)
    fractions_representable (x ∷ xs) zero d l = value_representable x
    fractions_representable (x ∷ xs) (suc q) d l = fractions_representable xs q d (omega arith)

-- ---- a row without the variable stays as it is
nothing_times : (n i k : ℕ) (x y : ℚ) → IsRepresentable x → IsRepresentable y → replaced_entry n i zero_ℚ k x y ≡ Ok x
nothing_times n i k x y rx ry =
    ap (λ o. then_ok (or_place o Kind.Entry i (column_of n k)) (λ z. or_place (checked_sum x z) Kind.Entry i (column_of n k))) (checked_product-zero_left y ry)
    ∙ ap (λ o. or_place o Kind.Entry i (column_of n k)) (checked_sum-zero_right x rx)

pairs_stay : (n i k : ℕ) (xs ys : List ℚ) → length ys ≡ length xs → All IsRepresentable xs → All IsRepresentable ys → each_pair (replaced_entry n i zero_ℚ) k xs ys ≡ Ok xs
pairs_stay n i k [] [] e hx hy = refl
pairs_stay n i k [] (y ∷ ys) e hx hy = absurd (omega arith)
pairs_stay n i k (x ∷ xs) [] e hx hy = absurd (omega arith)
pairs_stay n i k (x ∷ xs) (y ∷ ys) e hx hy =
    ap (λ o. then_ok o (λ w. then_ok (each_pair (replaced_entry n i zero_ℚ) (k + 1) xs ys) (λ zs. Ok (w ∷ zs)))) (nothing_times n i k x y (hx 0 zero_ℚ (omega arith)) (hy 0 zero_ℚ (omega arith)))
    ∙ ap (λ o. then_ok o (λ zs. Ok (x ∷ zs))) (pairs_stay n i (k + 1) xs ys (omega arith) (λ q d m. hx (suc q) d (omega arith)) (λ q d m. hy (suc q) d (omega arith)))

pub mixed_stays : (n i j : ℕ) (r s : MixedRow) → IsMixedRow n r → IsMixedRow n s → get_or (mixed_row r) (j + 1) zero_ℚ ≡ zero_ℚ → replaced_row n i j (mixed_row s) (mixed_row r) ≡ Ok (mixed_row r)
mixed_stays n i j r s hr hs ze =
    let xs = mixed_row r in
    let ys = mixed_row s in
    let e : get_or xs (suc j) zero_ℚ ≡ zero_ℚ = ap (λ k. get_or xs k zero_ℚ) (sym (behind j)) ∙ ze in
    ap (λ b. each_pair (replaced_entry n i b) 0 (set xs (suc j) zero_ℚ) ys) e
    ∙ ap (λ b. each_pair (replaced_entry n i zero_ℚ) 0 (set xs (suc j) b) ys) (sym e)
    ∙ ap (λ us. each_pair (replaced_entry n i zero_ℚ) 0 us ys) (set-get_or xs (suc j) zero_ℚ)
    ∙ pairs_stay n i 0 xs ys (mixed_wide n s hs ∙ sym (mixed_wide n r hr)) (mixed_representable n r hr) (mixed_representable n s hs)

-- ---- whole rows under a pivot
pub whole_replaced : (n i j : ℕ) (den pivot_den new : ℤ) (xs ys zs : List ℤ) → AreWholeNumbers n den xs → AreWholeNumbers n pivot_den ys → j < n → meaning new zs ≡ put_in (j + 1) (meaning pivot_den ys) (meaning den xs) →
    replaced_row n i j (meaning pivot_den ys) (meaning den xs) ≡ Ok (meaning new zs)
whole_replaced n i j den pivot_den new xs ys zs hx hy jn e =
    let lx = meaning_length den xs ∙ hx.wide in
    let ly = meaning_length pivot_den ys ∙ hy.wide in
    replaced_small n i j (meaning den xs) (meaning pivot_den ys) (omega (arith, lx, jn)) (ly ∙ sym lx) (small_numbers den xs hx.over hx.short) (small_numbers pivot_den ys hy.over hy.short)
    ∙ ap (λ k. Ok (put_in k (meaning pivot_den ys) (meaning den xs))) (sym (behind j)) ∙ ap Ok (sym e)

pub whole_solved : (n i j : ℕ) (den new : ℤ) (xs zs : List ℤ) → AreWholeNumbers n den xs → j < n → meaning new zs ≡ solved_for (j + 1) (meaning den xs) → solved_row n i j (meaning den xs) ≡ Ok (meaning new zs)
whole_solved n i j den new xs zs hx jn e =
    let lx = meaning_length den xs ∙ hx.wide in
    solved_small n i j (meaning den xs) (omega (arith, lx, jn)) (small_numbers den xs hx.over hx.short)
    ∙ ap (λ k. Ok (solved_for k (meaning den xs))) (sym (behind j)) ∙ ap Ok (sym e)

-- ---- what the code reads of a row
pub as_whole : (n : ℕ) (r : MixedRow) (den : ℤ) (numbers : Vec ℤ Global) → IsMixedRow n r → r ≡ Whole den numbers → AreWholeNumbers n den numbers.items
as_whole n r den numbers h e = subst (λ (y : MixedRow). IsMixedRow n y) e h

pub as_fractions : (n : ℕ) (r : MixedRow) (numbers : Vec Frac Global) → IsMixedRow n r → r ≡ Fractions numbers → length numbers.items ≡ n + 1
as_fractions n r numbers h e = subst (λ (y : MixedRow). IsMixedRow n y) e h

within : (n d : ℕ) (k : ℕ) → d ≡ n + 1 → k ≤ n → k < d
within n d k e h = omega arith

pub short_read : (n : ℕ) (den : ℤ) (ns : List ℤ) (k : ℕ) → AreWholeNumbers n den ns → k ≤ n → to_z w64 (of_z w64 (get_or ns k (pos 0))) ≡ get_or ns k (pos 0)
short_read n den ns k h l = short_word (get_or ns k (pos 0)) (h.short k (pos 0) (within n (length ns) k h.wide l))

pub whole_negative : (n : ℕ) (den : ℤ) (ns : List ℤ) (k : ℕ) (x : ℤ) → AreWholeNumbers n den ns → k ≤ n → x ≡ get_or ns k (pos 0) → lt_z x (pos 0) ≡ is_negative (get_or (meaning den ns) k zero_ℚ)
whole_negative n den ns k x h l e = ap (λ z. lt_z z (pos 0)) e ∙ sym (negative_number den ns k h.over (within n (length ns) k h.wide l))

pub whole_positive : (n : ℕ) (den : ℤ) (ns : List ℤ) (k : ℕ) (x : ℤ) → AreWholeNumbers n den ns → k ≤ n → x ≡ get_or ns k (pos 0) → lt_z (pos 0) x ≡ is_positive (get_or (meaning den ns) k zero_ℚ)
whole_positive n den ns k x h l e = ap (λ z. lt_z (pos 0) z) e ∙ sym (positive_number den ns k h.over (within n (length ns) k h.wide l))

pub whole_zero : (n : ℕ) (den : ℤ) (ns : List ℤ) (k : ℕ) (x : ℤ) → AreWholeNumbers n den ns → k ≤ n → x ≡ get_or ns k (pos 0) → x ≡ pos 0 → get_or (meaning den ns) k zero_ℚ ≡ zero_ℚ
whole_zero n den ns k x h l e z = zero_number den ns k h.over (within n (length ns) k h.wide l) (sym e ∙ z)

-- the number that a row is solved for
pub whole_pivot : (n j : ℕ) (den : ℤ) (ns : List ℤ) → AreWholeNumbers n den ns → j < n → ((get_or (meaning den ns) (suc j) zero_ℚ).num ≡ pos 0 → ⊥) → get_or ns (j + 1) (pos 0) ≡ pos 0 → ⊥
whole_pivot n j den ns h l p e =
    let s = behind j in
    not_zero_number den ns (suc j) h.over (within n (length ns) (suc j) h.wide (omega arith)) p (ap (λ k. get_or ns k (pos 0)) (sym s) ∙ e)

pub fraction_read : (n : ℕ) (xs : List Frac) (k : ℕ) (y : Frac) → length xs ≡ n + 1 → k ≤ n → y ≡ get_or xs k y → value y ≡ get_or (values xs) k zero_ℚ
fraction_read n xs k y e l g = sym (value_at_place xs k y (within n (length xs) k e l) g)

-- ---- the same of a number that the code has read from a whole row
index_read : (n : ℕ) (den : ℤ) (ns : List ℤ) (k : ℕ) (x : ℤ) → AreWholeNumbers n den ns → k ≤ n → x ≡ get_or ns k x → to_z w64 (of_z w64 x) ≡ get_or ns k (pos 0)
index_read n den ns k x h l e =
    ap (λ z. to_z w64 (of_z w64 z)) (e ∙ get_or_default ns k x (pos 0) (within n (length ns) k h.wide l)) ∙ short_read n den ns k h l

pub negative_in_whole : (n : ℕ) (r : MixedRow) (den : ℤ) (numbers : Vec ℤ Global) (k : ℕ) (x : ℤ) → IsMixedRow n r → r ≡ Whole den numbers → k ≤ n → x ≡ get_or numbers.items k x → lt_z (to_z w64 (of_z w64 x)) (pos 0) ≡ is_negative (get_or (mixed_row r) k zero_ℚ)
negative_in_whole n r den numbers k x h e l xe =
    let w = as_whole n r den numbers h e in
    whole_negative n den numbers.items k (to_z w64 (of_z w64 x)) w l (index_read n den numbers.items k x w l xe) ∙ ap (λ (y : MixedRow). is_negative (get_or (mixed_row y) k zero_ℚ)) (sym e)

pub positive_in_whole : (n : ℕ) (r : MixedRow) (den : ℤ) (numbers : Vec ℤ Global) (k : ℕ) (x : ℤ) → IsMixedRow n r → r ≡ Whole den numbers → k ≤ n → x ≡ get_or numbers.items k x → lt_z (pos 0) (to_z w64 (of_z w64 x)) ≡ is_positive (get_or (mixed_row r) k zero_ℚ)
positive_in_whole n r den numbers k x h e l xe =
    let w = as_whole n r den numbers h e in
    whole_positive n den numbers.items k (to_z w64 (of_z w64 x)) w l (index_read n den numbers.items k x w l xe) ∙ ap (λ (y : MixedRow). is_positive (get_or (mixed_row y) k zero_ℚ)) (sym e)

pub zero_in_whole : (n : ℕ) (r : MixedRow) (den : ℤ) (numbers : Vec ℤ Global) (k : ℕ) (x : ℤ) → IsMixedRow n r → r ≡ Whole den numbers → k ≤ n → x ≡ get_or numbers.items k x → of_z w64 x ≡ 0 → get_or (mixed_row r) k zero_ℚ ≡ zero_ℚ
zero_in_whole n r den numbers k x h e l xe z =
    let w = as_whole n r den numbers h e in
    ap (λ (y : MixedRow). get_or (mixed_row y) k zero_ℚ) e ∙ whole_zero n den numbers.items k (to_z w64 (of_z w64 x)) w l (index_read n den numbers.items k x w l xe) (ap (to_z w64) z)

integer_zero : (z : ℤ) → ((z ≡ pos 0 → ⊥) → ⊥) → z ≡ pos 0
integer_zero (pos zero) h = refl
integer_zero (pos (suc m)) h = absurd (h (λ (e : pos (suc m) ≡ pos 0). cc))
integer_zero (negsuc m) h = absurd (h (λ (e : negsuc m ≡ pos 0). cc))

pub whole_of_zero : (n : ℕ) (r : MixedRow) (den : ℤ) (numbers : Vec ℤ Global) (k : ℕ) (x : ℤ) → IsMixedRow n r → r ≡ Whole den numbers → k ≤ n → x ≡ get_or numbers.items k x → get_or (mixed_row r) k zero_ℚ ≡ zero_ℚ → of_z w64 x ≡ 0
whole_of_zero n r den numbers k x h e l xe z =
    let w = as_whole n r den numbers h e in
    let m : k < length numbers.items = let v = w.wide in omega arith in
    let y = get_or numbers.items k (pos 0) in
    let f : fraction y (unsigned_abs den) ≡ zero_ℚ =
    sym (get_or-map (λ i. fraction i (unsigned_abs den)) numbers.items k (pos 0) zero_ℚ m) ∙ ap (λ (s : MixedRow). get_or (mixed_row s) k zero_ℚ) (sym e) ∙ z in
    ap (of_z w64)
    (xe ∙ get_or_default numbers.items k x (pos 0) m
    ∙ integer_zero y (λ d. fraction_not_zero y (unsigned_abs den) (abs_positive den w.over.positive) d (ap (λ (p : ℚ). p.num) f ∙ num-whole_ℚ (pos 0))))

-- ---- a row in which a whole row is put in, as the code has it
pub put_in_whole : (o : Option ℤ) (n j : ℕ) (den den' solved_den solved_den' : ℤ) (xs ys zs : List ℤ) (solved : MixedRow) (numbers : Vec ℤ Global) → den' ≡ den → solved_den' ≡ solved_den → ys ≡ numbers.items → solved ≡ Whole solved_den numbers →
    AreWholeNumbers n den xs → IsMixedRow n solved → j < n → MatchOption o (zs ≡ xs) (λ new. meaning new zs ≡ put_in (j + 1) (meaning solved_den' ys) (meaning den' xs)) →
    MatchOption o (zs ≡ xs) (λ new. (i : ℕ) → replaced_row n i j (mixed_row solved) (meaning den xs) ≡ Ok (meaning new zs))
put_in_whole None n j den den' solved_den solved_den' xs ys zs solved numbers de se ye e hx hs jn m = m
put_in_whole (Some new) n j den den' solved_den solved_den' xs ys zs solved numbers de se ye e hx hs jn m =
    λ i. ap (λ (y : MixedRow). replaced_row n i j (mixed_row y) (meaning den xs)) e
    ∙ whole_replaced n i j den solved_den new xs numbers.items zs hx (as_whole n solved solved_den numbers hs e) jn
    (m ∙ ap (λ d. put_in (j + 1) (meaning d ys) (meaning den' xs)) se ∙ ap (λ us. put_in (j + 1) (meaning solved_den us) (meaning den' xs)) ye ∙ ap (λ d. put_in (j + 1) (meaning solved_den numbers.items) (meaning d xs)) de)

-- ---- a whole row that is solved, as the code has it
pub pivot_in_whole : (n j : ℕ) (r : MixedRow) (den : ℤ) (numbers : Vec ℤ Global) (read : List ℤ) → IsMixedRow n r → r ≡ Whole den numbers → read ≡ numbers.items → j < n → ((get_or (mixed_row r) (suc j) zero_ℚ).num ≡ pos 0 → ⊥) → get_or read (j + 1) (pos 0) ≡ pos 0 → ⊥
pivot_in_whole n j r den numbers read h e re l p z =
    whole_pivot n j den numbers.items (as_whole n r den numbers h e) l (λ q. p (ap (λ (y : MixedRow). (get_or (mixed_row y) (suc j) zero_ℚ).num) e ∙ q)) (ap (λ ns. get_or ns (j + 1) (pos 0)) (sym re) ∙ z)

pub solved_in_whole : (n i j : ℕ) (r : MixedRow) (den den' new new' : ℤ) (numbers solved : Vec ℤ Global) (read ws : List ℤ) → IsMixedRow n r → r ≡ Whole den numbers → den' ≡ den → new' ≡ new → read ≡ numbers.items → read ≡ solved.items → length ws ≡ length read → j < n →
    meaning new ws ≡ solved_for (j + 1) (meaning den' read) → solved_row n i j (mixed_row r) ≡ Ok (meaning new' ((with_items solved ws).items))
solved_in_whole n i j r den den' new new' numbers solved read ws h e de ne re se le l m =
    ap (λ (y : MixedRow). solved_row n i j (mixed_row y)) e
    ∙ whole_solved n i j den new numbers.items ws (as_whole n r den numbers h e) l (m ∙ ap (λ d. solved_for (j + 1) (meaning d read)) de ∙ ap (λ us. solved_for (j + 1) (meaning den us)) re)
    ∙ ap (λ d. Ok (meaning d ws)) (sym ne) ∙ ap (λ us. Ok (meaning new' us)) (sym (items_are solved ws (le ∙ ap length se)))

pub solved_whole_numbers : (n : ℕ) (r : MixedRow) (den new new' : ℤ) (numbers solved : Vec ℤ Global) (read ws : List ℤ) → IsMixedRow n r → r ≡ Whole den numbers → new' ≡ new → read ≡ numbers.items → read ≡ solved.items → length ws ≡ length read → IsDenominator new → All IsShort ws →
    AreWholeNumbers n new' ((with_items solved ws).items)
solved_whole_numbers n r den new new' numbers solved read ws h e ne re se le hd hs =
    let ie : (with_items solved ws).items ≡ ws = items_are solved ws (le ∙ ap length se) in
    record {
      over = subst IsDenominator (sym ne) hd;
      short = subst (λ us. All IsShort us) (sym ie) hs;
      wide = ap length ie ∙ le ∙ ap length re ∙ (as_whole n r den numbers h e).wide;
    }
