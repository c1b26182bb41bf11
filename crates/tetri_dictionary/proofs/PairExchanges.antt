-- The origins of an exchange, as the two places are written.
use Rattle.std.proofs.Common.{◌≡◌, ℕ, ◌<◌, refl, sym, ap, ◌∙◌, subst, List, length, get_or, set, map, Option, Some, None, MatchOption, ⊎_elim}
use Rattle.std.proofs.lemmas.Bool.{cases_eq}
use Rattle.std.proofs.lemmas.List.{get_or_default, get_or-set_same, get_or-set_other, length-map, length-set, same_lists}
use lib.IntN.{ℤ}
use Rattle.tetri_dictionary.specs.declared.origins.Origin.{Origin}
use Rattle.tetri_dictionary.specs.declared.origins.Origin.TheVariants.{Kept, Mirror, Column}
use Rattle.tetri_dictionary.specs.PairPivots.{exchanged, width_of}
use Rattle.tetri_dictionary.specs.Pairs.{origin_at, IsMirrorOf, IsOfColumn, IsPlaceOf, AreOrigins}
use Rattle.tetri_dictionary.proofs.PairOrigins.{own_test, other_test, at_mapped}

-- the place of the origins that are P is written, of a list that has as many
pub record IsWritten (P : Origin → Type 0) (os before after : List Origin) (g : ℤ → Origin) : Type 0 where
  pub count : length after ≡ length os
  pub own : (q : ℕ) → q < length os → P (origin_at os q) → origin_at after q ≡ g (width_of (origin_at before q))
  pub other : (q : ℕ) → q < length os → (P (origin_at os q) → ⊥) → origin_at after q ≡ origin_at before q

pub one_written : (P : Origin → Type 0) (os before after : List Origin) (o : Option ℕ) (g : ℤ → Origin) → IsPlaceOf P os o → length before ≡ length os →
    MatchOption o (after ≡ before) (λ k. after ≡ set before k (g (width_of (origin_at before k)))) → IsWritten P os before after g
one_written P os before after None g h l e = record {
  count = ap length e ∙ l;
  own = λ q b p. absurd (h q b p);
  other = λ q b d. ap (λ (us : List Origin). origin_at us q) e;
}
one_written P os before after (Some k) g h l e =
    let x = g (width_of (origin_at before k)) in
    record {
      count = ap length e ∙ length-set before k x ∙ l;
      own = λ q b p.
          let s : q ≡ k = h.only q b p in
          ap (λ (us : List Origin). origin_at us q) e ∙ ap (λ z. origin_at (set before k x) z) s ∙ get_or-set_same before k x (Kept 0) (subst (λ z. k < z) (sym l) h.within) ∙ ap (λ z. g (width_of (origin_at before z))) (sym s);
      other = λ q b d. ap (λ (us : List Origin). origin_at us q) e ∙ get_or-set_other before k q x (Kept 0) (λ (s : q ≡ k). d (subst (λ z. P (origin_at os z)) (sym s) h.holds));
    }

-- one origin
twice_written : (r j : ℕ) (o first second : Origin) → (IsMirrorOf r o → first ≡ Column j (width_of o)) → ((IsMirrorOf r o → ⊥) → first ≡ o) → (IsOfColumn j o → second ≡ Mirror r (width_of first)) → ((IsOfColumn j o → ⊥) → second ≡ first) →
    second ≡ exchanged r j o
twice_written r j (Kept s) first second a b c d = d (λ h. h) ∙ b (λ h. h)
twice_written r j (Mirror s w) first second a b c d =
    ⊎_elim (λ (e : s ≡ r). d (λ h. h) ∙ a e ∙ sym (own_test s r (Column j w) (Mirror s w) e)) (λ (n : s ≡ r → ⊥). d (λ h. h) ∙ b n ∙ sym (other_test s r (Column j w) (Mirror s w) n)) (cases_eq s r)
twice_written r j (Column p w) first second a b c d =
    ⊎_elim (λ (e : p ≡ j). c e ∙ ap (λ (o : Origin). Mirror r (width_of o)) (b (λ h. h)) ∙ sym (own_test p j (Mirror r w) (Column p w) e)) (λ (n : p ≡ j → ⊥). d n ∙ b (λ h. h) ∙ sym (other_test p j (Mirror r w) (Column p w) n)) (cases_eq p j)

pub exchanged_set : (n m c r j : ℕ) (os first second : List Origin) (homes : List ℕ) (mirrors columns : List (Option ℕ)) → AreOrigins n m c os homes mirrors columns → r < m → j < n →
    MatchOption (get_or mirrors r None) (first ≡ os) (λ k. first ≡ set os k (Column j (width_of (origin_at os k)))) →
    MatchOption (get_or columns j None) (second ≡ first) (λ k. second ≡ set first k (Mirror r (width_of (origin_at first k)))) → second ≡ map (exchanged r j) os
exchanged_set n m c r j os first second homes mirrors columns h lr lj fe se =
    let a = one_written (IsMirrorOf r) os os first (get_or mirrors r None) (λ w. Column j w) (h.mirror r lr) refl fe in
    let b = one_written (IsOfColumn j) os first second (get_or columns j None) (λ w. Mirror r w) (h.column j lj) a.count se in
    same_lists second (map (exchanged r j) os) (b.count ∙ sym (length-map os (exchanged r j)))
    (λ q d l.
    let m' : q < length os = subst (λ z. q < z) b.count l in
    get_or_default second q d (Kept 0) l
    ∙ twice_written r j (origin_at os q) (origin_at first q) (origin_at second q) (a.own q m') (a.other q m') (b.own q m') (b.other q m')
    ∙ sym (at_mapped (exchanged r j) os q m')
    ∙ get_or_default (map (exchanged r j) os) q (Kept 0) d (subst (λ z. q < z) (sym (length-map os (exchanged r j))) m'))
