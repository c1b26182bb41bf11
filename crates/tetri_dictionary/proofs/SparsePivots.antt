-- The rows of entries under a pivot.
use Rattle.std.proofs.Common.{◌≡◌, ℕ, ◌+◌, ◌<◌, ◌≤◌, lit<, refl, sym, ap, ◌∙◌, subst, arith, List, [], ◌∷◌, length, get_or, set, map, cond, Bool, true, false, eqb, Option, Some, None, Result, Ok, Err}
use Prim.Native.Nat.{zero, suc}
use Rattle.std.proofs.lemmas.Bool.{eq-eqb, eqb-true, false≢true}
use Rattle.std.proofs.lemmas.List.{length-map, length-set, map-set, set-get_or, get_or-map, get_or-set_same, get_or-set_other}
use lib.IntN.{pos, negsuc}
use Rattle.tetri_algebra.specs.Rational.{ℚ, whole_ℚ}
use Rattle.tetri_algebra.specs.RationalRing.{ℚ_ring, zero_ℚ, neg_ℚ, num-whole_ℚ, den-whole_ℚ}
use Rattle.tetri_algebra.specs.RingSolver.{nil, minus, ring}
use Rattle.tetri_num.specs.declared.places.Kind.TheVariants as Kind
use Rattle.tetri_num.specs.declared.places.Place.{Place}
use Rattle.tetri_num.specs.declared.fractions.Frac.{Frac}
use Rattle.tetri_num.specs.Checked.{IsRepresentable, checked_sum, checked_quotient}
use Rattle.tetri_num.specs.Frac.{value}
use Rattle.tetri_algebra.specs.Range.{IsWithin}
use Rattle.tetri_num.proofs.FractionLaws.{checked_product-zero_left, checked_product-zero_right, checked_quotient-zero, checked_sum-zero_right, value_representable}
use Rattle.tetri_dictionary.specs.declared.fault.PivotFault.{PivotFault}
use Rattle.tetri_dictionary.specs.declared.fault.PivotFault.TheVariants.{Past, NoMemory}
use Rattle.tetri_dictionary.specs.declared.lines.Entry.{Entry}
use Rattle.tetri_dictionary.specs.declared.lines.Line.{Line}
use Rattle.tetri_dictionary.specs.Faults.{IsFault}
use Rattle.tetri_dictionary.specs.Pivots.{column_of, solved_entry, solved_row, replaced_entry, replaced_row, next_row, pivoted_rows}
use Rattle.tetri_dictionary.specs.Sparse.{AreAscending, AreEntries, AreLines, line_of, lines_of, number_of, numbers_from, place_at}
use Rattle.tetri_dictionary.specs.Steps.{place_at as the_place, or_place, each, each_pair}
use Rattle.tetri_base.specs.ResultSteps.{then_ok}
use Rattle.tetri_dictionary.proofs.SparseRows.{coefficient_get, coefficients_err, coefficients_ok, entry_read, number_absent, number_found, numbers_cleared, numbers_length, pairs_err, pairs_ok}
use Rattle.tetri_dictionary.proofs.SparseWalks.{ArePlaces, Formed, IsZeroElsewhere}
use Rattle.tetri_dictionary.proofs.TableRows.{rest_of, rest_next, rest_own, rest_stop, rest_done, other_row, own_row, pivoted_is, pivoted_stop}

-- the solved row's coefficient at place q
abbrev pub solved_at : ℕ → ℕ → ℕ → ℚ → List Entry → ℕ → Result ℚ Place
solved_at n i j a es q = solved_entry n i a (q + 1) (get_or (set (numbers_from 0 n es) j (whole_ℚ (negsuc 0))) q zero_ℚ)

-- the coefficient at place q of a row in which another one is put
abbrev pub merged_at : ℕ → ℕ → ℚ → List Entry → List Entry → ℕ → Result ℚ Place
merged_at n i a xs ys q = replaced_entry n i a (q + 1) (number_of xs q) (number_of ys q)

-- ---- zeros
zero_representable : IsRepresentable zero_ℚ
zero_representable = record {
  num = subst IsWithin (sym (num-whole_ℚ (pos 0))) (lit< tt);
  den = subst (λ (d : ℕ). IsWithin (pos d)) (sym (den-whole_ℚ (pos 0))) (lit< tt);
}

pub number_representable : (es : List Entry) (j : ℕ) → IsRepresentable (number_of es j)
number_representable [] j = zero_representable
number_representable (e ∷ es) j = by_test (eqb e.place j) (number_representable es j)
  where
    by_test : (t : Bool) → IsRepresentable (number_of es j) → IsRepresentable (cond t (value e.number) (number_of es j))
    by_test true h = value_representable e.number
    by_test false h = h

pub plus_nothing : (n i k : ℕ) (a x : ℚ) → IsRepresentable a → IsRepresentable x → replaced_entry n i a k x zero_ℚ ≡ Ok x
plus_nothing n i k a x ra rx =
    ap (λ o. then_ok (or_place o Kind.Entry i (column_of n k)) (λ z. or_place (checked_sum x z) Kind.Entry i (column_of n k))) (checked_product-zero_right a ra)
    ∙ ap (λ o. or_place o Kind.Entry i (column_of n k)) (checked_sum-zero_right x rx)

nothing_times : (n i k : ℕ) (x y : ℚ) → IsRepresentable x → IsRepresentable y → replaced_entry n i zero_ℚ k x y ≡ Ok x
nothing_times n i k x y rx ry =
    ap (λ o. then_ok (or_place o Kind.Entry i (column_of n k)) (λ z. or_place (checked_sum x z) Kind.Entry i (column_of n k))) (checked_product-zero_left y ry)
    ∙ ap (λ o. or_place o Kind.Entry i (column_of n k)) (checked_sum-zero_right x rx)

nothing_solved : (n i k : ℕ) (a : ℚ) → IsRepresentable a → solved_entry n i a k zero_ℚ ≡ Ok zero_ℚ
nothing_solved n i k a ra =
    ap (λ z. or_place (checked_quotient z a) Kind.Row i (column_of n k)) (ring ℚ_ring [] (minus nil) nil refl)
    ∙ ap (λ o. or_place o Kind.Row i (column_of n k)) (checked_quotient-zero a ra)

pub column_is : (n q : ℕ) → column_of n (q + 1) ≡ q
column_is n q = let e : q + 1 ≡ suc q = omega arith in ap (column_of n) e

get_past : {A : Type 0} → (xs : List A) (k : ℕ) (d : A) → length xs ≤ k → get_or xs k d ≡ d
get_past [] k d h = refl
get_past (x ∷ xs) zero d h = absurd (omega arith)
get_past (x ∷ xs) (suc k) d h = get_past xs k d (omega arith)

-- ---- the solved row
abbrev pub places_of : List Entry → List ℕ
places_of es = map (λ (e : Entry). e.place) es

-- a place with a number that is not 0 has an entry
solved_other : (n j : ℕ) (es : List Entry) (m : ℚ) (q : ℕ) → q < n → (q ≡ j → ⊥) → get_or (set (numbers_from 0 n es) j m) q zero_ℚ ≡ number_of es q
solved_other n j es m q l d = get_or-set_other (numbers_from 0 n es) j q m zero_ℚ d ∙ coefficient_get n es q l

pub solved_places : (n i j : ℕ) (a : Frac) (es : List Entry) → AreEntries n es → j < n → ((number_of es j).num ≡ pos 0 → ⊥) → ArePlaces (solved_at n i j (value a) es) n (places_of es)
solved_places n i j a es h jn nz = record {
  ascending = λ k m l b. h.ascending k m l (subst (λ z. m < z) (length-map es (λ (e : Entry). e.place)) b);
  within = λ k b. h.within k (subst (λ z. k < z) (length-map es (λ (e : Entry). e.place)) b);
  others = λ q l ab.
      let none = number_absent es q (λ k b e. ab k (subst (λ z. k < z) (sym (length-map es (λ (e : Entry). e.place))) b) e) in
      ap (solved_entry n i (value a) (q + 1)) (solved_other n j es (whole_ℚ (negsuc 0)) q l (λ e. nz (ap (λ z. (number_of es z).num) (sym e) ∙ ap (λ (p : ℚ). p.num) none ∙ num-whole_ℚ (pos 0))) ∙ none)
      ∙ nothing_solved n i (q + 1) (value a) (value_representable a);
}

-- the number that is divided at the place of an entry
pub solved_number : (n j : ℕ) (es : List Entry) (k : ℕ) (e : Entry) (m w : Frac) → AreEntries n es → k < length es → e ≡ get_or es k e → j < n → value m ≡ whole_ℚ (negsuc 0) → ((e.place ≡ j → ⊥) → w ≡ e.number) → (e.place ≡ j → w ≡ m) →
    get_or (set (numbers_from 0 n es) j (whole_ℚ (negsuc 0))) (get_or (places_of es) k 0) zero_ℚ ≡ value w
solved_number n j es k e m w h l ee jn me same own = by_place (eqb p j) refl
  where
    p : ℕ
    p = get_or (places_of es) k 0

    by_place : (t : Bool) → eqb (get_or (places_of es) k 0) j ≡ t → get_or (set (numbers_from 0 n es) j (whole_ℚ (negsuc 0))) (get_or (places_of es) k 0) zero_ℚ ≡ value w
    by_place true f =
        let g = eqb-true (get_or (places_of es) k 0) j f in
        let r = entry_read es k e l ee in
        ap (λ z. get_or (set (numbers_from 0 n es) j (whole_ℚ (negsuc 0))) z zero_ℚ) g
        ∙ get_or-set_same (numbers_from 0 n es) j (whole_ℚ (negsuc 0)) zero_ℚ (subst (λ z. j < z) (sym (numbers_length 0 n es)) jn)
        ∙ sym me ∙ ap value (sym (own (sym r.0 ∙ g)))
    by_place false f =
        let d : get_or (places_of es) k 0 ≡ j → ⊥ = λ g. false≢true (sym f ∙ eq-eqb (get_or (places_of es) k 0) j g) in
        let r = entry_read es k e l ee in
        solved_other n j es (whole_ℚ (negsuc 0)) (get_or (places_of es) k 0) (h.within k l) d
        ∙ number_found es k (get_or (places_of es) k 0) h.ascending l refl ∙ r.1 ∙ ap value (sym (same (λ g. d (r.0 ∙ g))))

pub solved_formed : (n i j : ℕ) (es : List Entry) (k : ℕ) (a w neg : Frac) (o : Option ℚ) → get_or (set (numbers_from 0 n es) j (whole_ℚ (negsuc 0))) (get_or (places_of es) k 0) zero_ℚ ≡ value w → value neg ≡ neg_ℚ (value w) → checked_quotient (value neg) (value a) ≡ o →
    solved_at n i j (value a) es (get_or (places_of es) k 0) ≡ or_place o Kind.Row i (get_or (places_of es) k 0)
solved_formed n i j es k a w neg o we ne de =
    let p = get_or (places_of es) k 0 in
    ap (λ z. or_place (checked_quotient (neg_ℚ z) (value a)) Kind.Row i (column_of n (p + 1))) we
    ∙ ap (λ z. or_place (checked_quotient z (value a)) Kind.Row i (column_of n (p + 1))) (sym ne)
    ∙ ap (λ z. or_place z Kind.Row i (column_of n (p + 1))) de
    ∙ ap (λ z. or_place o Kind.Row i z) (column_is n p)

pub solved_done : (n i j : ℕ) (a : ℚ) (es made : List Entry) → Formed (solved_at n i j a es) n made → each (solved_entry n i a) 1 (set (numbers_from 0 n es) j (whole_ℚ (negsuc 0))) ≡ Ok (numbers_from 0 n made)
solved_done n i j a es made h = coefficients_ok (solved_entry n i a) n (set (numbers_from 0 n es) j (whole_ℚ (negsuc 0))) made (length-set (numbers_from 0 n es) j (whole_ℚ (negsuc 0)) ∙ numbers_length 0 n es) (λ q l. h.formed q l)

pub solved_stop : (n i j : ℕ) (a : ℚ) (es made : List Entry) (p : ℕ) (e : Place) → Formed (solved_at n i j a es) p made → p < n → solved_at n i j a es p ≡ Err e → each (solved_entry n i a) 1 (set (numbers_from 0 n es) j (whole_ℚ (negsuc 0))) ≡ Err e
solved_stop n i j a es made p e h l g =
    coefficients_err (solved_entry n i a) n (set (numbers_from 0 n es) j (whole_ℚ (negsuc 0))) p e (length-set (numbers_from 0 n es) j (whole_ℚ (negsuc 0)) ∙ numbers_length 0 n es) l (λ q m. (number_of made q, h.formed q m)) g

-- ---- the whole solved row
solved_line_is : (n i j : ℕ) (c a : ℚ) (ns : List ℚ) → get_or ns j zero_ℚ ≡ a →
    solved_row n i j (c ∷ ns) ≡ then_ok (solved_entry n i a 0 c) (λ y. then_ok (each (solved_entry n i a) 1 (set ns j (whole_ℚ (negsuc 0)))) (λ ys. Ok (y ∷ ys)))
solved_line_is n i j c a ns e = ap (λ b. each (solved_entry n i b) 0 (c ∷ set ns j (whole_ℚ (negsuc 0)))) e

constant_solved : (n i : ℕ) (a c neg : ℚ) (o : Option ℚ) → neg ≡ neg_ℚ c → checked_quotient neg a ≡ o → solved_entry n i a 0 c ≡ or_place o Kind.Row i n
constant_solved n i a c neg o ne de = ap (λ z. or_place (checked_quotient z a) Kind.Row i n) (sym ne) ∙ ap (λ z. or_place z Kind.Row i n) de

pub solved_line_ok : (n i j : ℕ) (l : Line) (a neg : ℚ) (y : Frac) (ys : List ℚ) → j < n → a ≡ number_of l.entries.items j → neg ≡ neg_ℚ (value l.constant) → checked_quotient neg a ≡ Some (value y) →
    each (solved_entry n i a) 1 (set (numbers_from 0 n l.entries.items) j (whole_ℚ (negsuc 0))) ≡ Ok ys → solved_row n i j (line_of n l) ≡ Ok (value y ∷ ys)
solved_line_ok n i j l a neg y ys jn ae ne de e =
    solved_line_is n i j (value l.constant) a (numbers_from 0 n l.entries.items) (coefficient_get n l.entries.items j jn ∙ sym ae)
    ∙ ap (λ o. then_ok o (λ y. then_ok (each (solved_entry n i a) 1 (set (numbers_from 0 n l.entries.items) j (whole_ℚ (negsuc 0)))) (λ ys. Ok (y ∷ ys)))) (constant_solved n i a (value l.constant) neg (Some (value y)) ne de)
    ∙ ap (λ o. then_ok o (λ ys. Ok (value y ∷ ys))) e

pub solved_line_constant : (n i j : ℕ) (l : Line) (a neg : ℚ) → j < n → a ≡ number_of l.entries.items j → neg ≡ neg_ℚ (value l.constant) → checked_quotient neg a ≡ None → solved_row n i j (line_of n l) ≡ Err (the_place Kind.Row i n)
solved_line_constant n i j l a neg jn ae ne de =
    solved_line_is n i j (value l.constant) a (numbers_from 0 n l.entries.items) (coefficient_get n l.entries.items j jn ∙ sym ae)
    ∙ ap (λ o. then_ok o (λ y. then_ok (each (solved_entry n i a) 1 (set (numbers_from 0 n l.entries.items) j (whole_ℚ (negsuc 0)))) (λ ys. Ok (y ∷ ys)))) (constant_solved n i a (value l.constant) neg None ne de)

pub solved_line_fault : (n i j : ℕ) (l : Line) (a neg : ℚ) (y : Frac) (f : PivotFault) → j < n → a ≡ number_of l.entries.items j → neg ≡ neg_ℚ (value l.constant) → checked_quotient neg a ≡ Some (value y) →
    IsFault f (each (solved_entry n i a) 1 (set (numbers_from 0 n l.entries.items) j (whole_ℚ (negsuc 0)))) → IsFault f (solved_row n i j (line_of n l))
solved_line_fault n i j l a neg y NoMemory jn ae ne de e = tt
solved_line_fault n i j l a neg y (Past p) jn ae ne de e =
    solved_line_is n i j (value l.constant) a (numbers_from 0 n l.entries.items) (coefficient_get n l.entries.items j jn ∙ sym ae)
    ∙ ap (λ o. then_ok o (λ y. then_ok (each (solved_entry n i a) 1 (set (numbers_from 0 n l.entries.items) j (whole_ℚ (negsuc 0)))) (λ ys. Ok (y ∷ ys)))) (constant_solved n i a (value l.constant) neg (Some (value y)) ne de)
    ∙ ap (λ o. then_ok o (λ ys. Ok (value y ∷ ys))) e

-- the entries as the code read them
pub solved_through : (n i j : ℕ) (a : ℚ) (es read : List Entry) (o : Result (List ℚ) Place) → read ≡ es → each (solved_entry n i a) 1 (set (numbers_from 0 n read) j (whole_ℚ (negsuc 0))) ≡ o → each (solved_entry n i a) 1 (set (numbers_from 0 n es) j (whole_ℚ (negsuc 0))) ≡ o
solved_through n i j a es read o e h = ap (λ us. each (solved_entry n i a) 1 (set (numbers_from 0 n us) j (whole_ℚ (negsuc 0)))) (sym e) ∙ h

pub solved_fault_through : (n i j : ℕ) (a : ℚ) (es read : List Entry) (f : PivotFault) → read ≡ es → IsFault f (each (solved_entry n i a) 1 (set (numbers_from 0 n read) j (whole_ℚ (negsuc 0)))) → IsFault f (each (solved_entry n i a) 1 (set (numbers_from 0 n es) j (whole_ℚ (negsuc 0))))
solved_fault_through n i j a es read f e h = subst (λ us. IsFault f (each (solved_entry n i a) 1 (set (numbers_from 0 n us) j (whole_ℚ (negsuc 0))))) e h

-- ---- a row in which the solved row is put
pub merged_zero : (n i : ℕ) (a : Frac) (xs ys : List Entry) → IsZeroElsewhere (merged_at n i (value a) xs ys) xs ys
merged_zero n i a xs ys q ex ey =
    ap (λ z. replaced_entry n i (value a) (q + 1) z (number_of ys q)) ex ∙ ap (λ z. replaced_entry n i (value a) (q + 1) zero_ℚ z) ey
    ∙ plus_nothing n i (q + 1) (value a) zero_ℚ (value_representable a) zero_representable

pub merged_is : (n i : ℕ) (a x y : Frac) (xs ys : List Entry) (p k : ℕ) (r : Result ℚ Place) → value x ≡ number_of xs p → value y ≡ number_of ys p → k ≡ p + 1 → replaced_entry n i (value a) k (value x) (value y) ≡ r → merged_at n i (value a) xs ys p ≡ r
merged_is n i a x y xs ys p k r xe ye ke e =
    ap (λ z. replaced_entry n i (value a) (p + 1) z (number_of ys p)) (sym xe) ∙ ap (λ z. replaced_entry n i (value a) (p + 1) (value x) z) (sym ye)
    ∙ ap (λ z. replaced_entry n i (value a) z (value x) (value y)) (sym ke) ∙ e

pub merged_done : (n i : ℕ) (a : ℚ) (xs ys made : List Entry) → Formed (merged_at n i a xs ys) n made → each_pair (replaced_entry n i a) 1 (numbers_from 0 n xs) (numbers_from 0 n ys) ≡ Ok (numbers_from 0 n made)
merged_done n i a xs ys made h = pairs_ok (replaced_entry n i a) n xs ys made (λ q l. h.formed q l)

pub merged_stop : (n i : ℕ) (a : ℚ) (xs ys made : List Entry) (p : ℕ) (e : Place) → Formed (merged_at n i a xs ys) p made → p < n → merged_at n i a xs ys p ≡ Err e → each_pair (replaced_entry n i a) 1 (numbers_from 0 n xs) (numbers_from 0 n ys) ≡ Err e
merged_stop n i a xs ys made p e h l g = pairs_err (replaced_entry n i a) n xs ys p e l (λ q m. (number_of made q, h.formed q m)) g

replaced_is : (n i j : ℕ) (c d a : ℚ) (ns ms us : List ℚ) → get_or ns j zero_ℚ ≡ a → set ns j zero_ℚ ≡ us →
    replaced_row n i j (d ∷ ms) (c ∷ ns) ≡ then_ok (replaced_entry n i a 0 c d) (λ z. then_ok (each_pair (replaced_entry n i a) 1 us ms) (λ zs. Ok (z ∷ zs)))
replaced_is n i j c d a ns ms us e f =
    ap (λ b. each_pair (replaced_entry n i b) 0 (c ∷ set ns j zero_ℚ) (d ∷ ms)) e
    ∙ ap (λ vs. then_ok (replaced_entry n i a 0 c d) (λ z. then_ok (each_pair (replaced_entry n i a) 1 vs ms) (λ zs. Ok (z ∷ zs)))) f

-- a row without the variable stays as it is
pub line_stays : (n i j : ℕ) (l s : Line) → j < n → number_of l.entries.items j ≡ zero_ℚ → replaced_row n i j (line_of n s) (line_of n l) ≡ Ok (line_of n l)
line_stays n i j l s jn ze =
    let es = l.entries.items in
    let ns = numbers_from 0 n es in
    let e : get_or ns j zero_ℚ ≡ zero_ℚ = coefficient_get n es j jn ∙ ze in
    let f : set ns j zero_ℚ ≡ ns = ap (set ns j) (sym e) ∙ set-get_or ns j zero_ℚ in
    replaced_is n i j (value l.constant) (value s.constant) zero_ℚ ns (numbers_from 0 n s.entries.items) ns e f
    ∙ ap (λ o. then_ok o (λ z. then_ok (each_pair (replaced_entry n i zero_ℚ) 1 ns (numbers_from 0 n s.entries.items)) (λ zs. Ok (z ∷ zs)))) (nothing_times n i 0 (value l.constant) (value s.constant) (value_representable l.constant) (value_representable s.constant))
    ∙ ap (λ o. then_ok o (λ zs. Ok (value l.constant ∷ zs))) (pairs_ok (replaced_entry n i zero_ℚ) n es s.entries.items es (λ q m. nothing_times n i (q + 1) (number_of es q) (number_of s.entries.items q) (number_representable es q) (number_representable s.entries.items q)))

pub line_constant : (n i j : ℕ) (l s : Line) (a : Frac) (us : List ℚ) (e : Place) → j < n → number_of l.entries.items j ≡ value a → set (numbers_from 0 n l.entries.items) j zero_ℚ ≡ us → replaced_entry n i (value a) 0 (value l.constant) (value s.constant) ≡ Err e → replaced_row n i j (line_of n s) (line_of n l) ≡ Err e
line_constant n i j l s a us e jn ae f g =
    replaced_is n i j (value l.constant) (value s.constant) (value a) (numbers_from 0 n l.entries.items) (numbers_from 0 n s.entries.items) us (coefficient_get n l.entries.items j jn ∙ ae) f
    ∙ ap (λ o. then_ok o (λ z. then_ok (each_pair (replaced_entry n i (value a)) 1 us (numbers_from 0 n s.entries.items)) (λ zs. Ok (z ∷ zs)))) g

pub line_merged : (n i j : ℕ) (l s : Line) (a c : Frac) (us : List ℚ) (r : Result (List ℚ) Place) → j < n → number_of l.entries.items j ≡ value a → set (numbers_from 0 n l.entries.items) j zero_ℚ ≡ us → replaced_entry n i (value a) 0 (value l.constant) (value s.constant) ≡ Ok (value c) →
    each_pair (replaced_entry n i (value a)) 1 us (numbers_from 0 n s.entries.items) ≡ r → replaced_row n i j (line_of n s) (line_of n l) ≡ then_ok r (λ zs. Ok (value c ∷ zs))
line_merged n i j l s a c us r jn ae f g h =
    replaced_is n i j (value l.constant) (value s.constant) (value a) (numbers_from 0 n l.entries.items) (numbers_from 0 n s.entries.items) us (coefficient_get n l.entries.items j jn ∙ ae) f
    ∙ ap (λ o. then_ok o (λ z. then_ok (each_pair (replaced_entry n i (value a)) 1 us (numbers_from 0 n s.entries.items)) (λ zs. Ok (z ∷ zs)))) g
    ∙ ap (λ o. then_ok o (λ zs. Ok (value c ∷ zs))) h

-- the entry that the code found for place j
pub record IsFoundEntry (es : List Entry) (k j : ℕ) (e : Entry) : Type 0 where
  pub within : k < length es
  pub place : place_at es k ≡ j
  pub number : number_of es j ≡ value e.number

pub found_entry : (es read : List Entry) (k j : ℕ) (e : Entry) → AreAscending es → read ≡ es → (k < length read) × (place_at read k ≡ j) → e ≡ get_or es k e → IsFoundEntry es k j e
found_entry es read k j e a re f ee =
    let l : k < length es = subst (λ (us : List Entry). k < length us) re f.0 in
    let p : place_at es k ≡ j = ap (λ (us : List Entry). place_at us k) (sym re) ∙ f.1 in
    record { within = l; place = p; number = number_found es k j a l p ∙ (entry_read es k e l ee).1 }

-- the row as the code leaves it
pub line_done : (n i j : ℕ) (l s after : Line) (es read right : List Entry) (made : List Entry) (k : ℕ) (e e0 : Entry) (c : Frac) → j < n → AreEntries n l.entries.items → IsFoundEntry l.entries.items k j e → e0.place ≡ j → value e0.number ≡ zero_ℚ →
    replaced_entry n i (value e.number) 0 (value l.constant) (value s.constant) ≡ Ok (value c) → es ≡ l.entries.items → read ≡ set es k e0 → right ≡ s.entries.items →
    each_pair (replaced_entry n i (value e.number)) 1 (numbers_from 0 n read) (numbers_from 0 n right) ≡ Ok (numbers_from 0 n made) → after.entries.items ≡ made → after.constant ≡ c →
    replaced_row n i j (line_of n s) (line_of n l) ≡ Ok (line_of n after)
line_done n i j l s after es read right made k e e0 c jn h f pe ze g ee re se m ae ce =
    let r : read ≡ set l.entries.items k e0 = re ∙ ap (λ us. set us k e0) ee in
    line_merged n i j l s e.number c (numbers_from 0 n (set l.entries.items k e0)) (Ok (numbers_from 0 n made)) jn f.number (numbers_cleared n l.entries.items k j e0 h f.within f.place pe ze) g
    (ap (λ us. each_pair (replaced_entry n i (value e.number)) 1 (numbers_from 0 n us) (numbers_from 0 n s.entries.items)) (sym r)
    ∙ ap (λ us. each_pair (replaced_entry n i (value e.number)) 1 (numbers_from 0 n read) (numbers_from 0 n us)) (sym se) ∙ m)
    ∙ ap (λ us. Ok (value c ∷ numbers_from 0 n us)) (sym ae) ∙ ap (λ z. Ok (value z ∷ numbers_from 0 n after.entries.items)) (sym ce)

pub line_fault : (n i j : ℕ) (l s : Line) (es read right : List Entry) (k : ℕ) (e e0 : Entry) (c : Frac) (b : PivotFault) → j < n → AreEntries n l.entries.items → IsFoundEntry l.entries.items k j e → e0.place ≡ j → value e0.number ≡ zero_ℚ →
    replaced_entry n i (value e.number) 0 (value l.constant) (value s.constant) ≡ Ok (value c) → es ≡ l.entries.items → read ≡ set es k e0 → right ≡ s.entries.items →
    IsFault b (each_pair (replaced_entry n i (value e.number)) 1 (numbers_from 0 n read) (numbers_from 0 n right)) → IsFault b (replaced_row n i j (line_of n s) (line_of n l))
line_fault n i j l s es read right k e e0 c NoMemory jn h f pe ze g ee re se m = tt
line_fault n i j l s es read right k e e0 c (Past p) jn h f pe ze g ee re se m =
    let r : read ≡ set l.entries.items k e0 = re ∙ ap (λ us. set us k e0) ee in
    line_merged n i j l s e.number c (numbers_from 0 n (set l.entries.items k e0)) (Err p) jn f.number (numbers_cleared n l.entries.items k j e0 h f.within f.place pe ze) g
    (ap (λ us. each_pair (replaced_entry n i (value e.number)) 1 (numbers_from 0 n us) (numbers_from 0 n s.entries.items)) (sym r)
    ∙ ap (λ us. each_pair (replaced_entry n i (value e.number)) 1 (numbers_from 0 n read) (numbers_from 0 n us)) (sym se) ∙ m)

-- ---- the rows, one after the other
pub line_at : (n : ℕ) (ls : List Line) (i : ℕ) (d : Line) → i < length ls → get_or (lines_of n ls) i [] ≡ line_of n (get_or ls i d)
line_at n ls i d h = get_or-map (line_of n) ls i d [] h

pub lines_next : (n i j : ℕ) (solved : List ℚ) (ls : List Line) (k : ℕ) (r s : Line) → k < length ls → (k ≡ i → ⊥) → replaced_row n k j solved (line_of n (get_or ls k r)) ≡ Ok (line_of n s) →
    rest_of (next_row n i j solved) i solved (lines_of n (set ls k s)) (k + 1) ≡ rest_of (next_row n i j solved) i solved (lines_of n ls) k
lines_next n i j solved ls k r s h d e =
    let f = next_row n i j solved in
    ap (λ zs. rest_of f i solved zs (k + 1)) (map-set (line_of n) ls k s)
    ∙ rest_next f i solved (lines_of n ls) k (line_of n s) (subst (λ l. k < l) (sym (length-map ls (line_of n))) h) d
    (other_row n i j solved k (get_or (lines_of n ls) k []) d ∙ ap (replaced_row n k j solved) (line_at n ls k r h) ∙ e)

pub lines_own : (n i j : ℕ) (solved : List ℚ) (ls : List Line) (k : ℕ) → k < length ls → k ≡ i → rest_of (next_row n i j solved) i solved (lines_of n ls) (k + 1) ≡ rest_of (next_row n i j solved) i solved (lines_of n ls) k
lines_own n i j solved ls k h d = rest_own (next_row n i j solved) i solved (lines_of n ls) k (subst (λ l. k < l) (sym (length-map ls (line_of n))) h) d (own_row n i j solved k (get_or (lines_of n ls) k []) d)

pub lines_stop : (n i j : ℕ) (solved : List ℚ) (ls : List Line) (k : ℕ) (r : Line) (f : PivotFault) → k < length ls → (k ≡ i → ⊥) → IsFault f (replaced_row n k j solved (line_of n (get_or ls k r))) → IsFault f (rest_of (next_row n i j solved) i solved (lines_of n ls) k)
lines_stop n i j solved ls k r NoMemory h d e = tt
lines_stop n i j solved ls k r (Past p) h d e =
    rest_stop (next_row n i j solved) i solved (lines_of n ls) k p (subst (λ l. k < l) (sym (length-map ls (line_of n))) h)
    (other_row n i j solved k (get_or (lines_of n ls) k []) d ∙ ap (replaced_row n k j solved) (line_at n ls k r h) ∙ e)

pub lines_done : (n i j : ℕ) (solved : List ℚ) (ls : List Line) (k : ℕ) → length ls ≤ k → rest_of (next_row n i j solved) i solved (lines_of n ls) k ≡ Ok (set (lines_of n ls) i solved)
lines_done n i j solved ls k h = rest_done (next_row n i j solved) i solved (lines_of n ls) k (subst (λ l. l ≤ k) (sym (length-map ls (line_of n))) h)

pub sound_set : (n : ℕ) (ls : List Line) (k : ℕ) (s : Line) → AreLines n ls → AreEntries n s.entries.items → AreLines n (set ls k s)
sound_set n ls k s h e i d l = by_place (eqb i k) refl
  where
    m : i < length ls
    m = subst (λ z. i < z) (length-set ls k s) l

    by_place : (t : Bool) → eqb i k ≡ t → AreEntries n (get_or (set ls k s) i d).entries.items
    by_place true f =
        let g = eqb-true i k f in
        subst (λ (y : Line). AreEntries n y.entries.items) (sym (ap (λ z. get_or (set ls z s) i d) (sym g) ∙ get_or-set_same ls i s d m)) e
    by_place false f =
        subst (λ (y : Line). AreEntries n y.entries.items) (sym (get_or-set_other ls k i s d (λ g. false≢true (sym f ∙ eq-eqb i k g)))) (h i d m)

-- ---- the whole
solves : (n i j : ℕ) (ls : List Line) (r : Line) (o : Result (List ℚ) Place) → i < length ls → solved_row n i j (line_of n (get_or ls i r)) ≡ o → solved_row n i j (get_or (lines_of n ls) i []) ≡ o
solves n i j ls r o h e = ap (solved_row n i j) (line_at n ls i r h) ∙ e

pub lines_unsolved : (n i j : ℕ) (ls : List Line) (r : Line) (f : PivotFault) → i < length ls → IsFault f (solved_row n i j (line_of n (get_or ls i r))) → IsFault f (pivoted_rows n i j (lines_of n ls))
lines_unsolved n i j ls r NoMemory h e = tt
lines_unsolved n i j ls r (Past p) h e = pivoted_stop n i j (lines_of n ls) p (solves n i j ls r (Err p) h e)

pub lines_fault : (n i j : ℕ) (ls : List Line) (r solved : Line) (f : PivotFault) → i < length ls → solved_row n i j (line_of n (get_or ls i r)) ≡ Ok (line_of n solved) → IsFault f (each (next_row n i j (line_of n solved)) 0 (lines_of n ls)) → IsFault f (pivoted_rows n i j (lines_of n ls))
lines_fault n i j ls r solved NoMemory h e g = tt
lines_fault n i j ls r solved (Past p) h e g = pivoted_is n i j (lines_of n ls) (line_of n solved) (solves n i j ls r (Ok (line_of n solved)) h e) ∙ g

pub lines_pivoted : (n i j : ℕ) (ls new : List Line) (r solved : Line) → i < length ls → solved_row n i j (line_of n (get_or ls i r)) ≡ Ok (line_of n solved) → each (next_row n i j (line_of n solved)) 0 (lines_of n ls) ≡ Ok (set (lines_of n new) i (line_of n solved)) →
    pivoted_rows n i j (lines_of n ls) ≡ Ok (lines_of n (set new i solved))
lines_pivoted n i j ls new r solved h e g =
    pivoted_is n i j (lines_of n ls) (line_of n solved) (solves n i j ls r (Ok (line_of n solved)) h e) ∙ g ∙ ap Ok (sym (map-set (line_of n) new i solved))

-- the coefficient that a row is solved for
pub pivot_read : (n i j : ℕ) (ls : List Line) (r : Line) → i < length ls → j < n → get_or (get_or (lines_of n ls) i []) (suc j) zero_ℚ ≡ number_of (get_or ls i r).entries.items j
pivot_read n i j ls r h jn = ap (λ (xs : List ℚ). get_or xs (suc j) zero_ℚ) (line_at n ls i r h) ∙ coefficient_get n (get_or ls i r).entries.items j jn

pub fault_along : {A : Type 0} → (f : PivotFault) (s t : Result A Place) → s ≡ t → IsFault f s → IsFault f t
fault_along f s t e h = subst (λ o. IsFault f o) e h
