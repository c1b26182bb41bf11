-- Comma lists of entries, each of which has one text, read back.
use Rattle.std.proofs.Common.{◌≡◌, ℕ, ◌+◌, ◌*◌, ◌<◌, ◌≤◌, refl, sym, ap, ◌∙◌, subst, arith, List, [], ◌∷◌, ◌++◌, length, map, cond, Bool, true, false, eqb, Option, Some, None, codes, bytes_eq}
use Rattle.std.specs.Prelude.{nat_lt}
use Rattle.std.specs.List.{join_with_byte}
use Rattle.std.proofs.Math.Nat.{suc-mul}
use Rattle.std.proofs.lemmas.Bool.{le-ltb, ltb-false}
use Rattle.std.proofs.lemmas.List.{append-nil, length-append}
use Rattle.std.proofs.lemmas.List.Elements.{All-cons, All-nil}
use Rattle.std.proofs.lemmas.List.Splits.{join_with_byte-slice_split}
use Rattle.std.proofs.lemmas.Option.{same_Some}
use Rattle.tetri_io.specs.Codec.{Codec}
use Rattle.tetri_io.specs.Words.{parts_at}
use Rattle.tetri_io.proofs.TextLaws.{AllAvoid, Avoids, IsCodec, bind_some, by_cond, cond_else, joined_avoids, joined_within, other, parts_of_joined, room, same_bytes}
use Rattle.tetri_base.specs.OptionSteps.{◌>>=◌}
use Rattle.tetri_cert.specs.Lists.{list_text, lists, Ascend, entries_from, list_in}

module _ {E : Type 0} {most : ℕ} {c : Codec E} (l : IsCodec 45 (λ (e : E). most) c) (key : E → ℕ) (longer : (e : E) → c.IsSuch e → 1 < length (c.text e)) where
  all_avoid : (mark : ℕ) → mark < 45 → (least : ℕ) (es : List E) → Ascend key c.IsSuch least es → AllAvoid mark (map c.text es)
  all_avoid mark low least [] h = tt
  all_avoid mark low least (e ∷ es) h = (l.avoids mark e low h.1, all_avoid mark low (key e + 1) es h.2)

  room_of : (least : ℕ) (es : List E) → Ascend key c.IsSuch least es → room (map c.text es) ≤ length es * (most + 1)
  room_of least [] h = omega arith
  room_of least (e ∷ es) h = omega (arith, l.short e h.1, room_of (key e + 1) es h.2, suc-mul (length es) (most + 1))

  entries_back : (least : ℕ) (es : List E) → Ascend key c.IsSuch least es → entries_from c.read key least (map c.text es) ≡ Some es
  entries_back least [] h = refl
  entries_back least (e ∷ es) h =
      ap (λ (o : Option E). o >>= λ e. cond (nat_lt (key e) least) None (entries_from c.read key (key e + 1) (map c.text es) >>= λ es. Some (e ∷ es))) (l.back e h.1)
      ∙ ap (λ (t : Bool). cond t None (entries_from c.read key (key e + 1) (map c.text es) >>= λ es. Some (e ∷ es))) (le-ltb (key e) least h.0)
      ∙ ap (λ (o : Option (List E)). o >>= λ es. Some (e ∷ es)) (entries_back (key e + 1) es h.2)

  entries_only : (least : ℕ) (ps : List (List ℕ)) (es : List E) → entries_from c.read key least ps ≡ Some es → Ascend key c.IsSuch least es × (ps ≡ map c.text es)
  entries_only least [] es h = subst (λ x. Ascend key c.IsSuch least x × ([] ≡ map c.text x)) (same_Some [] es h) (tt, refl)
  entries_only least (p ∷ ps) es h =
      let r = bind_some (c.read p) (λ e. cond (nat_lt (key e) least) None (entries_from c.read key (key e + 1) ps >>= λ es. Some (e ∷ es))) es h in
      let t = cond_else (nat_lt (key r.0) least) (entries_from c.read key (key r.0 + 1) ps >>= λ es. Some (r.0 ∷ es)) es r.2 in
      let u = bind_some (entries_from c.read key (key r.0 + 1) ps) (λ es. Some (r.0 ∷ es)) es t.1 in
      let i = entries_only (key r.0 + 1) ps u.0 u.1 in
      let j = l.only p r.0 r.1 in
      subst (λ x. Ascend key c.IsSuch least x × (p ∷ ps ≡ map c.text x)) (same_Some (r.0 ∷ u.0) es u.2)
      ((ltb-false (key r.0) least t.0, j.0, i.0), ap (λ x. x ∷ ps) j.1 ∙ ap (λ x. c.text r.0 ∷ x) i.1)

  joined : (e : E) (es : List E) → list_text c.text (e ∷ es) ≡ join_with_byte 44 (map c.text (e ∷ es))
  joined e [] = append-nil (c.text e)
  joined e (f ∷ fs) = ap (λ x. c.text e ++ 44 ∷ x) (joined f fs)

  not_dash : (e : E) (ys : List ℕ) → c.IsSuch e → bytes_eq (c.text e ++ ys) (codes "-") ≡ false
  not_dash e ys h = by_test (bytes_eq (c.text e ++ ys) (codes "-")) refl
    where
      by_test : (t : Bool) → bytes_eq (c.text e ++ ys) (codes "-") ≡ t → t ≡ false
      by_test false q = refl
      by_test true q = absurd (omega (arith, length-append (c.text e) ys, longer e h, ap length (same_bytes (c.text e ++ ys) (codes "-") q)))

  list_back : (es : List E) → Ascend key c.IsSuch 0 es → list_in c.read key (list_text c.text es) ≡ Some es
  unfolding list_in
  list_back [] h = refl
  list_back (e ∷ es) h =
      ap (λ (t : Bool). cond t (Some []) (entries_from c.read key 0 (parts_at 44 (list_text c.text (e ∷ es))))) (not_dash e _ h.1)
      ∙ ap (λ x. entries_from c.read key 0 (parts_at 44 x)) (joined e es)
      ∙ ap (entries_from c.read key 0) (parts_of_joined 44 (c.text e) (map c.text es) (all_avoid 44 (omega arith) 0 (e ∷ es) h))
      ∙ entries_back 0 (e ∷ es) h

  whole_list : (bs : List ℕ) (es : List E) → parts_at 44 bs ≡ map c.text es → bs ≡ list_text c.text es
  whole_list bs [] e =
      let f : bs ≡ [] = sym (join_with_byte-slice_split 44 bs) ∙ ap (join_with_byte 44) e in
      let g : parts_at 44 [] ≡ [] = subst (λ x. parts_at 44 x ≡ []) f e in absurd cc
  whole_list bs (e ∷ es) q = sym (join_with_byte-slice_split 44 bs) ∙ ap (join_with_byte 44) q ∙ sym (joined e es)

  list_only : (bs : List ℕ) (es : List E) → list_in c.read key bs ≡ Some es → Ascend key c.IsSuch 0 es × (bs ≡ list_text c.text es)
  unfolding list_in
  list_only bs es h =
      by_cond (bytes_eq bs (codes "-")) (Some []) (entries_from c.read key 0 (parts_at 44 bs)) es h
      (λ e f. subst (λ x. Ascend key c.IsSuch 0 x × (bs ≡ list_text c.text x)) (same_Some [] es f) (tt, same_bytes bs (codes "-") e))
      (λ e f. let i = entries_only 0 (parts_at 44 bs) es f in (i.0, whole_list bs es i.1))

  list_avoids : (mark : ℕ) (es : List E) → mark < 44 → Ascend key c.IsSuch 0 es → Avoids mark (list_text c.text es)
  list_avoids mark [] low h = All-cons (λ y. eqb y mark ≡ false) 45 [] (other 45 mark (λ (e : 45 ≡ mark). omega arith)) (All-nil (λ y. eqb y mark ≡ false))
  list_avoids mark (e ∷ es) low h = subst (Avoids mark) (sym (joined e es)) (joined_avoids mark 44 (map c.text (e ∷ es)) (λ (k : 44 ≡ mark). omega arith) (all_avoid mark (omega arith) 0 (e ∷ es) h))

  list_some : (es : List E) → Ascend key c.IsSuch 0 es → 0 < length (list_text c.text es)
  list_some [] h = omega arith
  list_some (e ∷ []) h = omega (arith, longer e h.1, length-append (c.text e) [])
  list_some (e ∷ f ∷ fs) h = omega (arith, longer e h.1, length-append (c.text e) (44 ∷ list_text c.text (f ∷ fs)))

  list_short : (es : List E) → Ascend key c.IsSuch 0 es → length (list_text c.text es) ≤ length es * (most + 1) + 1
  list_short [] h = omega arith
  list_short (e ∷ es) h = omega (arith, ap length (joined e es), joined_within 44 (map c.text (e ∷ es)), room_of 0 (e ∷ es) h)

  pub list_laws : IsCodec 44 (λ (es : List E). length es * (most + 1) + 1) (lists key c)
  list_laws = record { back = list_back; only = list_only; avoids = list_avoids; some = list_some; short = list_short }
