-- Lines of nodes read back, and no other lines are read.
use Rattle.std.proofs.Common.{◌≡◌, ◌≢◌, ℕ, ◌<◌, refl, sym, ap, ◌∙◌, subst, List, [], ◌∷◌, Some, codes, decimal, lit<, lit≤}
use Rattle.std.specs.Fmt.{signed_decimal}
use Rattle.std.specs.List.{join_with_byte}
use Rattle.std.proofs.lemmas.List.Splits.{join_with_byte-slice_split}
use Rattle.std.proofs.lemmas.Option.{same_Some}
use lib.IntN.{ℤ}
use Rattle.tetri_io.specs.Words.{words_of}
use Rattle.tetri_io.proofs.TextLaws.{AllAvoid, Avoids, IsCodec, IsOwnWord, among_laws, bind_some, four_back, four_only, high_avoids, joined_avoids, one_back, one_only, parts_of_joined, tag_only, two_back, two_only}
use Rattle.tetri_num.specs.declared.places.Kind.{Kind}
use Rattle.tetri_num.specs.declared.places.Kind.TheVariants as kinds
use Rattle.tetri_cert.specs.declared.marks.Mark.{Mark}
use Rattle.tetri_cert.specs.declared.marks.Mark.TheVariants.{Split, Close, Whole, Rest}
use Rattle.tetri_cert.specs.declared.marks.Licence.{Licence}
use Rattle.tetri_cert.specs.declared.marks.Licence.TheVariants as licences
use Rattle.tetri_cert.specs.Numbers.{small_number, small_numbers, whole_number, whole_numbers}
use Rattle.tetri_base.specs.OptionSteps.{◌>>=◌}
use Rattle.tetri_cert.specs.NodeText.{IsPlain, IsPlainLicence, ReadsBack, ReadsNoOther, all_kinds, close_in, kind_in, kind_text, kind_words, licence_by_tag, licence_tag, licence_words, long_in, node_by_tag, node_in, node_of_words, node_tag, node_text, node_words, past_in, past_of, point_in, rest_in, split_in, whole_in}
use Rattle.tetri_cert.proofs.NumbersBack.{small_laws, whole_laws}
use Rattle.tetri_cert.proofs.PairsBack.{cell_list_laws, frac_cell_list_laws, weight_list_laws}

pub smalls : IsCodec 44 (λ (n : ℕ). 39) small_numbers
smalls = small_laws 44 (lit≤ tt)

pub wholes : IsCodec 44 (λ (z : ℤ). 40) whole_numbers
wholes = whole_laws 44 (lit≤ tt)

pub kind_laws : IsCodec 44 (λ (k : Kind). 5) kind_words
unfolding kind_in
kind_laws = among_laws 44 5 kind_text all_kinds own
  where
    own : (k : Kind) → IsOwnWord 44 5 kind_text all_kinds k
    own kinds.Ratio = record { back = refl; high = refl; some = lit< tt; short = lit≤ tt }
    own kinds.Row = record { back = refl; high = refl; some = lit< tt; short = lit≤ tt }
    own kinds.Entry = record { back = refl; high = refl; some = lit< tt; short = lit≤ tt }
    own kinds.Point = record { back = refl; high = refl; some = lit< tt; short = lit≤ tt }
    own kinds.Lcm = record { back = refl; high = refl; some = lit< tt; short = lit≤ tt }
    own kinds.Weigh = record { back = refl; high = refl; some = lit< tt; short = lit≤ tt }

-- ---- no word has a space or a line feed
module _ (c : ℕ) (low : c < 44) where
  licence_avoids : (r : Licence) → IsPlainLicence r → AllAvoid c (licence_tag r ∷ licence_words r)
  licence_avoids (licences.Point cs) h = (high_avoids 44 c (codes "point") low refl, (frac_cell_list_laws.avoids c cs low h, tt))
  licence_avoids (licences.Past p) h = (high_avoids 44 c (codes "past") low refl, (kind_laws.avoids c p.kind low tt, (smalls.avoids c p.step low h.0, (smalls.avoids c p.row low h.1, (smalls.avoids c p.column low h.2, tt)))))
  licence_avoids licences.Long h = (high_avoids 44 c (codes "long") low refl, tt)

  pub node_avoids : (m : Mark) → IsPlain m → AllAvoid c (node_tag m ∷ node_words m)
  node_avoids (Split column at licence) h = (high_avoids 44 c (codes "split") low refl, (smalls.avoids c column low h.0, (wholes.avoids c at low h.1, licence_avoids licence h.2)))
  node_avoids (Close q ws) h = (high_avoids 44 c (codes "close") low refl, (wholes.avoids c q low h.0, (weight_list_laws.avoids c ws low h.1, tt)))
  node_avoids (Whole q ws worth point) h = (high_avoids 44 c (codes "whole") low refl, (wholes.avoids c q low h.0, (weight_list_laws.avoids c ws low h.1, (wholes.avoids c worth low h.2, (cell_list_laws.avoids c point low h.3, tt)))))
  node_avoids (Rest q ws) h = (high_avoids 44 c (codes "rest") low refl, (wholes.avoids c q low h.0, (weight_list_laws.avoids c ws low h.1, tt)))

pub text_joined : (m : Mark) → node_text m ≡ join_with_byte 32 (node_tag m ∷ node_words m)
unfolding node_text
text_joined m = refl

pub line_avoids : (c : ℕ) → c < 44 → c ≢ 32 → (m : Mark) → IsPlain m → Avoids c (node_text m)
unfolding node_text
line_avoids c low n m h = joined_avoids c 32 (node_tag m ∷ node_words m) (λ (e : 32 ≡ c). n (sym e)) (node_avoids c low m h)

-- ---- what the words read as
licence_back : (r : Licence) → IsPlainLicence r → licence_by_tag (licence_tag r) (licence_words r) ≡ Some r
unfolding licence_by_tag
licence_back (licences.Point cs) h = one_back frac_cell_list_laws licences.Point cs h
licence_back (licences.Past p) h = four_back kind_laws smalls smalls smalls past_of p.kind p.step p.row p.column tt h.0 h.1 h.2
licence_back licences.Long h = refl

pub words_back : (m : Mark) → IsPlain m → node_by_tag (node_tag m) (node_words m) ≡ Some m
unfolding node_by_tag
words_back (Split column at licence) h = rw (smalls.back column h.0, wholes.back at h.1, licence_back licence h.2) refl
words_back (Close q ws) h = two_back wholes weight_list_laws Close q ws h.0 h.1
words_back (Whole q ws worth point) h = four_back wholes weight_list_laws wholes cell_list_laws Whole q ws worth point h.0 h.1 h.2 h.3
words_back (Rest q ws) h = two_back wholes weight_list_laws Rest q ws h.0 h.1

pub reads_back : ReadsBack
unfolding node_in node_text
reads_back m h = ap node_of_words (parts_of_joined 32 (node_tag m) (node_words m) (node_avoids 32 (lit< tt) m h)) ∙ words_back m h

-- ---- nothing else is read
-- a plain reason with this tag and these words
abbrev IsReasonOf : List ℕ → List (List ℕ) → Licence → Type 0
IsReasonOf tag words r = IsPlainLicence r × (tag ∷ words ≡ licence_tag r ∷ licence_words r)

licence_only : (tag : List ℕ) (ws : List (List ℕ)) (r : Licence) → licence_by_tag tag ws ≡ Some r → IsReasonOf tag ws r
unfolding licence_by_tag
licence_only tag ws r e = tag_only IsReasonOf ((codes "point", point_in) ∷ (codes "past", past_in) ∷ (codes "long", long_in) ∷ []) (points, (pasts, (longs, tt))) tag ws r e
  where
    points : (ws : List (List ℕ)) (r : Licence) → point_in ws ≡ Some r → IsReasonOf (codes "point") ws r
    points = one_only frac_cell_list_laws licences.Point (IsReasonOf (codes "point")) (λ cs h. (h, refl))

    pasts : (ws : List (List ℕ)) (r : Licence) → past_in ws ≡ Some r → IsReasonOf (codes "past") ws r
    pasts = four_only kind_laws smalls smalls smalls past_of (IsReasonOf (codes "past")) (λ k s r c a b d e. ((b, d, e), refl))

    longs : (ws : List (List ℕ)) (r : Licence) → long_in ws ≡ Some r → IsReasonOf (codes "long") ws r
    longs [] r e = subst (IsReasonOf (codes "long") []) (same_Some licences.Long r e) (tt, refl)
    longs (w ∷ ws) r e = absurd cc

-- a plain node with this tag and these words
abbrev IsNodeOf : List ℕ → List (List ℕ) → Mark → Type 0
IsNodeOf tag words m = IsPlain m × (tag ∷ words ≡ node_tag m ∷ node_words m)

split_only : (ws : List (List ℕ)) (m : Mark) → split_in ws ≡ Some m → IsNodeOf (codes "split") ws m
split_only [] m e = absurd cc
split_only (a ∷ []) m e = absurd cc
split_only (a ∷ b ∷ []) m e = absurd cc
split_only (a ∷ b ∷ tag ∷ ws) m e =
    let r = bind_some (small_number a) (λ column. whole_number b >>= λ at. licence_by_tag tag ws >>= λ licence. Some (Split column at licence)) m e in
    let s = bind_some (whole_number b) (λ at. licence_by_tag tag ws >>= λ licence. Some (Split r.0 at licence)) m r.2 in
    let t = bind_some (licence_by_tag tag ws) (λ licence. Some (Split r.0 s.0 licence)) m s.2 in
    let i = smalls.only a r.0 r.1 in
    let j = wholes.only b s.0 s.1 in
    let k = licence_only tag ws t.0 t.1 in
    subst (IsNodeOf (codes "split") (a ∷ b ∷ tag ∷ ws)) (same_Some (Split r.0 s.0 t.0) m t.2)
    ((i.0, j.0, k.0), ap (λ x. codes "split" ∷ x ∷ b ∷ tag ∷ ws) i.1 ∙ ap (λ x. codes "split" ∷ decimal r.0 ∷ x ∷ tag ∷ ws) j.1 ∙ ap (λ x. codes "split" ∷ decimal r.0 ∷ signed_decimal s.0 ∷ x) k.1)

tagged_only : (tag : List ℕ) (ws : List (List ℕ)) (m : Mark) → node_by_tag tag ws ≡ Some m → IsNodeOf tag ws m
unfolding node_by_tag
tagged_only tag ws m e = tag_only IsNodeOf ((codes "split", split_in) ∷ (codes "close", close_in) ∷ (codes "whole", whole_in) ∷ (codes "rest", rest_in) ∷ []) (split_only, (closes, (whole_nodes, (rests, tt)))) tag ws m e
  where
    closes : (ws : List (List ℕ)) (m : Mark) → close_in ws ≡ Some m → IsNodeOf (codes "close") ws m
    closes = two_only wholes weight_list_laws Close (IsNodeOf (codes "close")) (λ q ws h i. ((h, i), refl))

    whole_nodes : (ws : List (List ℕ)) (m : Mark) → whole_in ws ≡ Some m → IsNodeOf (codes "whole") ws m
    whole_nodes = four_only wholes weight_list_laws wholes cell_list_laws Whole (IsNodeOf (codes "whole")) (λ q ws z cs h i j k. ((h, i, j, k), refl))

    rests : (ws : List (List ℕ)) (m : Mark) → rest_in ws ≡ Some m → IsNodeOf (codes "rest") ws m
    rests = two_only wholes weight_list_laws Rest (IsNodeOf (codes "rest")) (λ q ws h i. ((h, i), refl))

words_only : (ws : List (List ℕ)) (m : Mark) → node_of_words ws ≡ Some m → IsPlain m × (ws ≡ node_tag m ∷ node_words m)
words_only [] m h = cc
words_only (tag ∷ ws) m h = tagged_only tag ws m h

pub reads_no_other : ReadsNoOther
unfolding node_in node_text
reads_no_other line m h = let w = words_only (words_of line) m h in (w.0, sym (join_with_byte-slice_split 32 line) ∙ ap (join_with_byte 32) w.1)
