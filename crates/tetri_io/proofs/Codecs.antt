-- Each form of text reads back where its parts do.
use Rattle.std.proofs.Common.{◌≡◌, ◌≢◌, ℕ, ◌+◌, ◌^◌, ◌<◌, ◌≤◌, inl, refl, sym, ap, ◌∙◌, subst, arith, List, [], ◌∷◌, ◌++◌, length, cond, Bool, true, false, eqb, Option, Some, None, bytes_eq}
use Rattle.std.specs.Prelude.{◌&&◌, nat_le}
use Rattle.std.specs.List.{join_with_byte, list_all}
use Rattle.std.proofs.lemmas.Bool.{false≢true, eqb-true, eq-eqb, leb-true}
use Rattle.std.proofs.lemmas.List.{length-append}
use Rattle.std.proofs.lemmas.List.Elements.{All-append, All-cons, All-head, All-nil, All-tail}
use Rattle.std.proofs.lemmas.Slice.Eq.{bytes_eq-Decides}
use Rattle.std.proofs.lemmas.Option.{same_Some}
use Rattle.tetri_base.specs.OptionSteps.{◌>>=◌}
use Rattle.tetri_io.specs.Codec.{Codec, among, both_in, by_tag, first_of_text, four_in, halves_of, image, numbers, one_in, pair, renamed, two_in}
use Rattle.tetri_io.proofs.NumberLemmas.{Avoids, decimal_avoids, decimal_short, number_below-decimal, number_below-only, numeral, other}
use Rattle.tetri_io.proofs.TextLemmas.{AllAvoid}

-- Texts read back and no others are read; they have no byte below a number, and at least one and at most so many bytes.
pub record IsCodec {A : Type 0} (low : ℕ) (most : A → ℕ) (c : Codec A) : Type 0 where
  pub back : (a : A) → c.IsSuch a → c.read (c.text a) ≡ Some a
  pub only : (bytes : List ℕ) (a : A) → c.read bytes ≡ Some a → c.IsSuch a × (bytes ≡ c.text a)
  pub avoids : (mark : ℕ) (a : A) → mark < low → c.IsSuch a → Avoids mark (c.text a)
  pub some : (a : A) → c.IsSuch a → 0 < length (c.text a)
  pub short : (a : A) → c.IsSuch a → length (c.text a) ≤ most a

-- ---- steps that may give nothing
pub bind_some : {A B : Type 0} (o : Option A) (f : A → Option B) (y : B) → (o >>= f) ≡ Some y → (x : A) × (o ≡ Some x) × (f x ≡ Some y)
bind_some None f y e = cc
bind_some (Some x) f y e = (x, refl, e)

pub by_cond : {A P : Type 0} (t : Bool) (x y : Option A) (m : A) → cond t x y ≡ Some m → (t ≡ true → x ≡ Some m → P) → (t ≡ false → y ≡ Some m → P) → P
by_cond true x y m e f g = f refl e
by_cond false x y m e f g = g refl e

pub cond_else : {A : Type 0} (t : Bool) (o : Option A) (y : A) → cond t None o ≡ Some y → (t ≡ false) × (o ≡ Some y)
cond_else t o y h = by_cond t None o y h (λ e f. absurd cc) (λ e f. (e, f))

pub same_bytes : (xs ys : List ℕ) → bytes_eq xs ys ≡ true → xs ≡ ys
same_bytes xs ys e = (bytes_eq-Decides xs ys).0 e

-- ---- bytes that a text has not
pub avoids_on : (mark sep : ℕ) (xs ys : List ℕ) → sep ≢ mark → Avoids mark xs → Avoids mark ys → Avoids mark (xs ++ sep ∷ ys)
avoids_on mark sep xs ys n a b = All-append (λ y. eqb y mark ≡ false) xs (sep ∷ ys) a (All-cons (λ y. eqb y mark ≡ false) sep ys (other sep mark n) b)

-- bytes of which none is below a number
pub high_avoids : (low mark : ℕ) (bytes : List ℕ) → mark < low → list_all (nat_le low) bytes ≡ true → Avoids mark bytes
high_avoids low mark [] h e = All-nil (λ b. eqb b mark ≡ false)
high_avoids low mark (b ∷ bs) h e = by_first (nat_le low b) refl e (high_avoids low mark bs h)
  where
    by_first : (x : Bool) → nat_le low b ≡ x → (x && list_all (nat_le low) bs) ≡ true → (list_all (nat_le low) bs ≡ true → Avoids mark bs) → Avoids mark (b ∷ bs)
    by_first true f g rest = let l = leb-true low b f in All-cons (λ y. eqb y mark ≡ false) b bs (other b mark (λ (k : b ≡ mark). omega arith)) (rest g)
    by_first false f g rest = absurd (false≢true g)

pub joined_avoids : (mark sep : ℕ) (ws : List (List ℕ)) → sep ≢ mark → AllAvoid mark ws → Avoids mark (join_with_byte sep ws)
joined_avoids mark sep [] n a = All-nil (λ b. eqb b mark ≡ false)
joined_avoids mark sep (w ∷ []) n a = a.0
joined_avoids mark sep (w ∷ v ∷ ws) n a = avoids_on mark sep w (join_with_byte sep (v ∷ ws)) n a.0 (joined_avoids mark sep (v ∷ ws) n a.1)

-- ---- how long texts are
-- the bytes of words, and one for each mark behind them
abbrev pub room : List (List ℕ) → ℕ
room [] = 0
room (w ∷ ws) = length w + 1 + room ws

pub joined_within : (mark : ℕ) (ws : List (List ℕ)) → length (join_with_byte mark ws) ≤ room ws
joined_within mark [] = omega arith
joined_within mark (w ∷ []) = omega arith
joined_within mark (w ∷ v ∷ ws) = omega (arith, joined_within mark (v ∷ ws), length-append w (mark ∷ join_with_byte mark (v ∷ ws)))

-- ---- words
pub number_laws : (low limit : ℕ) → low ≤ 48 → limit ≤ 2 ^ 127 → IsCodec low (λ (n : ℕ). 39) (numbers limit)
number_laws low limit l k = record {
  back = λ n h. number_below-decimal limit n k h;
  only = λ bytes n e. let r = number_below-only limit bytes n e in (r.1, r.0);
  avoids = λ mark n m h. decimal_avoids mark n (inl (omega arith)) (omega arith);
  some = λ n h. (numeral n (omega arith)).0.0;
  short = λ n h. decimal_short n (omega arith);
}

first_only : {A : Type 0} (text : A → List ℕ) (all : List A) (word : List ℕ) (a : A) → first_of_text text all word ≡ Some a → word ≡ text a
first_only text [] word a e = cc
first_only text (b ∷ others) word a e =
    by_cond (bytes_eq word (text b)) (Some b) (first_of_text text others word) a e (λ f g. same_bytes word (text b) f ∙ ap text (same_Some b a g)) (λ f g. first_only text others word a g)

-- a word of some that differ
pub record IsOwnWord {A : Type 0} (low most : ℕ) (text : A → List ℕ) (all : List A) (a : A) : Type 0 where
  pub back : first_of_text text all (text a) ≡ Some a
  pub high : list_all (nat_le low) (text a) ≡ true
  pub some : 0 < length (text a)
  pub short : length (text a) ≤ most

pub among_laws : {A : Type 0} (low most : ℕ) (text : A → List ℕ) (all : List A) → ((a : A) → IsOwnWord low most text all a) → IsCodec low (λ (a : A). most) (among text all)
among_laws low most text all own = record {
  back = λ a h. (own a).back;
  only = λ bytes a e. (tt, first_only text all bytes a e);
  avoids = λ mark a l h. high_avoids low mark (text a) l (own a).high;
  some = λ a h. (own a).some;
  short = λ a h. (own a).short;
}

-- ---- halves
pub halves_back : (mark : ℕ) (xs ys : List ℕ) → Avoids mark xs → halves_of mark (xs ++ mark ∷ ys) ≡ Some (xs, ys)
unfolding halves_of
halves_back mark [] ys a = ap (λ (t : Bool). cond t (Some ([], ys)) (halves_of mark ys >>= λ h. Some (mark ∷ h.0, h.1))) (eq-eqb mark mark refl)
halves_back mark (x ∷ xs) ys a =
    ap (λ (t : Bool). cond t (Some ([], xs ++ mark ∷ ys)) (halves_of mark (xs ++ mark ∷ ys) >>= λ h. Some (x ∷ h.0, h.1))) (All-head (λ b. eqb b mark ≡ false) x xs a)
    ∙ ap (λ (o : Option (List ℕ × List ℕ)). o >>= λ h. Some (x ∷ h.0, h.1)) (halves_back mark xs ys (All-tail (λ b. eqb b mark ≡ false) x xs a))

pub no_halves : (mark : ℕ) (xs : List ℕ) → Avoids mark xs → halves_of mark xs ≡ None
unfolding halves_of
no_halves mark [] a = refl
no_halves mark (x ∷ xs) a =
    ap (λ (t : Bool). cond t (Some ([], xs)) (halves_of mark xs >>= λ h. Some (x ∷ h.0, h.1))) (All-head (λ b. eqb b mark ≡ false) x xs a)
    ∙ ap (λ (o : Option (List ℕ × List ℕ)). o >>= λ h. Some (x ∷ h.0, h.1)) (no_halves mark xs (All-tail (λ b. eqb b mark ≡ false) x xs a))

halves_only : (mark : ℕ) (bytes : List ℕ) (h : List ℕ × List ℕ) → halves_of mark bytes ≡ Some h → bytes ≡ h.0 ++ mark ∷ h.1
unfolding halves_of
halves_only mark [] h e = cc
halves_only mark (b ∷ bs) h e =
    by_cond (eqb b mark) (Some ([], bs)) (halves_of mark bs >>= λ g. Some (b ∷ g.0, g.1)) h e
    (λ f g. ap (λ x. x ∷ bs) (eqb-true b mark f) ∙ ap (λ (k : List ℕ × List ℕ). k.0 ++ mark ∷ k.1) (same_Some ([], bs) h g))
    (λ f g. let r = bind_some (halves_of mark bs) (λ k. Some (b ∷ k.0, k.1)) h g in
    ap (λ x. b ∷ x) (halves_only mark bs r.0 r.1) ∙ ap (λ (k : List ℕ × List ℕ). k.0 ++ mark ∷ k.1) (same_Some (b ∷ r.0.0, r.0.1) h r.2))

module _ {A B : Type 0} {low : ℕ} {m : A → ℕ} {n : B → ℕ} {a : Codec A} {b : Codec B} (k : IsCodec low m a) (l : IsCodec low n b) where
  pub pair_laws : (mark : ℕ) → low ≤ mark → ((x : A) → a.IsSuch x → Avoids mark (a.text x)) → IsCodec low (λ (p : A × B). m p.0 + 1 + n p.1) (pair mark a b)
  pair_laws mark high first = record {
    back = λ p h.
        ap (λ (o : Option (List ℕ × List ℕ)). o >>= both_in a b) (halves_back mark (a.text p.0) (b.text p.1) (first p.0 h.0))
        ∙ ap (λ (o : Option A). o >>= λ x. b.read (b.text p.1) >>= λ y. Some (x, y)) (k.back p.0 h.0)
        ∙ ap (λ (o : Option B). o >>= λ y. Some (p.0, y)) (l.back p.1 h.1);
    only = λ bytes p e.
        let r = bind_some (halves_of mark bytes) (both_in a b) p e in
        let s = bind_some (a.read r.0.0) (λ x. b.read r.0.1 >>= λ y. Some (x, y)) p r.2 in
        let t = bind_some (b.read r.0.1) (λ y. Some (s.0, y)) p s.2 in
        let i = k.only r.0.0 s.0 s.1 in
        let j = l.only r.0.1 t.0 t.1 in
        subst (λ (q : A × B). (a.IsSuch q.0 × b.IsSuch q.1) × (bytes ≡ a.text q.0 ++ mark ∷ b.text q.1)) (same_Some (s.0, t.0) p t.2)
        ((i.0, j.0), halves_only mark bytes r.0 r.1 ∙ ap (λ x. x ++ mark ∷ r.0.1) i.1 ∙ ap (λ x. a.text s.0 ++ mark ∷ x) j.1);
    avoids = λ c p h q. avoids_on c mark (a.text p.0) (b.text p.1) (λ (e : mark ≡ c). omega arith) (k.avoids c p.0 h q.0) (l.avoids c p.1 h q.1);
    some = λ p h. omega (arith, length-append (a.text p.0) (mark ∷ b.text p.1));
    short = λ p h. omega (arith, length-append (a.text p.0) (mark ∷ b.text p.1), k.short p.0 h.0, l.short p.1 h.1);
  }

  -- it has more than the byte between
  pub pair_longer : (mark : ℕ) (p : A × B) → a.IsSuch p.0 → 1 < length (a.text p.0 ++ mark ∷ b.text p.1)
  pair_longer mark p h = omega (arith, length-append (a.text p.0) (mark ∷ b.text p.1), k.some p.0 h)

-- ---- images
module _ {A B : Type 0} {low : ℕ} {most : A → ℕ} {c : Codec A} (l : IsCodec low most c) where
  pub image_laws : (to : A → Option B) (from : B → A) (IsImage : B → Type 0) → ((b : B) → IsImage b → c.IsSuch (from b) × (to (from b) ≡ Some b)) →
      ((a : A) (b : B) → c.IsSuch a → to a ≡ Some b → IsImage b × (a ≡ from b)) → IsCodec low (λ (b : B). most (from b)) (image to from IsImage c)
  image_laws to from IsImage there here = record {
    back = λ b h. let t = there b h in ap (λ (o : Option A). o >>= to) (l.back (from b) t.0) ∙ t.1;
    only = λ bytes b e.
        let r = bind_some (c.read bytes) to b e in
        let i = l.only bytes r.0 r.1 in
        let j = here r.0 b i.0 r.2 in
        (j.0, i.1 ∙ ap c.text j.1);
    avoids = λ mark b h p. l.avoids mark (from b) h (there b p).0;
    some = λ b h. l.some (from b) (there b h).0;
    short = λ b h. l.short (from b) (there b h).0;
  }

  pub renamed_laws : (to : A → B) (from : B → A) → ((b : B) → to (from b) ≡ b) → ((a : A) → from (to a) ≡ a) → IsCodec low (λ (b : B). most (from b)) (renamed to from c)
  renamed_laws to from there here =
      image_laws (λ a. Some (to a)) from (λ b. c.IsSuch (from b)) (λ b h. (h, ap Some (there b)))
      (λ a b h e. let f : a ≡ from b = sym (here a) ∙ ap from (same_Some (to a) b e) in (subst c.IsSuch f h, f))

-- ---- lists of words
-- What holds of each text that is read: it is one of the texts that are printed.
module _ {A X : Type 0} {low : ℕ} {m : A → ℕ} {a : Codec A} (k : IsCodec low m a) (make : A → X) where
  pub one_back : (x : A) → a.IsSuch x → one_in make a (a.text x ∷ []) ≡ Some (make x)
  one_back x h = ap (λ (o : Option A). o >>= λ x. Some (make x)) (k.back x h)

  pub one_only : (P : List (List ℕ) → X → Type 0) → ((x : A) → a.IsSuch x → P (a.text x ∷ []) (make x)) → (ws : List (List ℕ)) (s : X) → one_in make a ws ≡ Some s → P ws s
  one_only P holds [] s e = absurd cc
  one_only P holds (u ∷ v ∷ ws) s e = absurd cc
  one_only P holds (u ∷ []) s e =
      let r = bind_some (a.read u) (λ x. Some (make x)) s e in
      let i = k.only u r.0 r.1 in
      subst (P (u ∷ [])) (same_Some (make r.0) s r.2) (subst (λ t. P (t ∷ []) (make r.0)) (sym i.1) (holds r.0 i.0))

module _ {A B X : Type 0} {low : ℕ} {m : A → ℕ} {n : B → ℕ} {a : Codec A} {b : Codec B} (k : IsCodec low m a) (l : IsCodec low n b) (make : A → B → X) where
  pub two_back : (x : A) (y : B) → a.IsSuch x → b.IsSuch y → two_in make a b (a.text x ∷ b.text y ∷ []) ≡ Some (make x y)
  two_back x y h i = rw (k.back x h, l.back y i) refl

  pub two_only : (P : List (List ℕ) → X → Type 0) → ((x : A) (y : B) → a.IsSuch x → b.IsSuch y → P (a.text x ∷ b.text y ∷ []) (make x y)) → (ws : List (List ℕ)) (s : X) → two_in make a b ws ≡ Some s → P ws s
  two_only P holds [] s e = absurd cc
  two_only P holds (u ∷ []) s e = absurd cc
  two_only P holds (u ∷ v ∷ w ∷ ws) s e = absurd cc
  two_only P holds (u ∷ v ∷ []) s e =
      let r = bind_some (a.read u) (λ x. b.read v >>= λ y. Some (make x y)) s e in
      let i = k.only u r.0 r.1 in
      let g = one_only l (make r.0) (λ ws z. P (u ∷ ws) z) (λ y h. subst (λ t. P (t ∷ b.text y ∷ []) (make r.0 y)) (sym i.1) (holds r.0 y i.0 h)) in
      g (v ∷ []) s r.2

module _ {A B C D X : Type 0} {low : ℕ} {m : A → ℕ} {n : B → ℕ} {o : C → ℕ} {p : D → ℕ} {a : Codec A} {b : Codec B} {c : Codec C} {d : Codec D} (k : IsCodec low m a) (l : IsCodec low n b) (i : IsCodec low o c) (j : IsCodec low p d) (make : A → B → C → D → X) where
  pub four_back : (x : A) (y : B) (z : C) (q : D) → a.IsSuch x → b.IsSuch y → c.IsSuch z → d.IsSuch q → four_in make a b c d (a.text x ∷ b.text y ∷ c.text z ∷ d.text q ∷ []) ≡ Some (make x y z q)
  four_back x y z q e f g h = rw (k.back x e, l.back y f, i.back z g, j.back q h) refl

  pub four_only : (P : List (List ℕ) → X → Type 0) → ((x : A) (y : B) (z : C) (q : D) → a.IsSuch x → b.IsSuch y → c.IsSuch z → d.IsSuch q → P (a.text x ∷ b.text y ∷ c.text z ∷ d.text q ∷ []) (make x y z q)) →
      (ws : List (List ℕ)) (s : X) → four_in make a b c d ws ≡ Some s → P ws s
  four_only P holds [] s e = absurd cc
  four_only P holds (t ∷ []) s e = absurd cc
  four_only P holds (t ∷ u ∷ []) s e = absurd cc
  four_only P holds (t ∷ u ∷ v ∷ []) s e = absurd cc
  four_only P holds (t ∷ u ∷ v ∷ w ∷ more ∷ ws) s e = absurd cc
  four_only P holds (t ∷ u ∷ v ∷ w ∷ []) s e =
      let r = bind_some (a.read t) (λ x. b.read u >>= λ y. c.read v >>= λ z. d.read w >>= λ q. Some (make x y z q)) s e in
      let f = bind_some (b.read u) (λ y. c.read v >>= λ z. d.read w >>= λ q. Some (make r.0 y z q)) s r.2 in
      let x = k.only t r.0 r.1 in
      let y = l.only u f.0 f.1 in
      let g = two_only i j (make r.0 f.0) (λ ws z. P (t ∷ u ∷ ws) z)
      (λ z q h. λ e. subst (λ t. P (t ∷ u ∷ c.text z ∷ d.text q ∷ []) (make r.0 f.0 z q)) (sym x.1) (subst (λ u. P (a.text r.0 ∷ u ∷ c.text z ∷ d.text q ∷ []) (make r.0 f.0 z q)) (sym y.1) (holds r.0 f.0 z q x.0 y.0 h e))) in
      g (v ∷ w ∷ []) s f.2

-- ---- tags
-- it holds of what each of the forms reads, with its tag
abbrev pub EachForm : {X : Type 0} → (List ℕ → List (List ℕ) → X → Type 0) → List (List ℕ × (List (List ℕ) → Option X)) → Type 0
EachForm P [] = Unit {0}
EachForm {X} P (form ∷ forms) = ((ws : List (List ℕ)) (s : X) → form.1 ws ≡ Some s → P form.0 ws s) × EachForm P forms

pub tag_only : {X : Type 0} (P : List ℕ → List (List ℕ) → X → Type 0) (forms : List (List ℕ × (List (List ℕ) → Option X))) → EachForm P forms →
    (tag : List ℕ) (ws : List (List ℕ)) (s : X) → by_tag forms tag ws ≡ Some s → P tag ws s
tag_only P [] each tag ws s e = absurd cc
tag_only P (form ∷ forms) each tag ws s e =
    by_cond (bytes_eq tag form.0) (form.1 ws) (by_tag forms tag ws) s e (λ f g. subst (λ k. P k ws s) (sym (same_bytes tag form.0 f)) (each.0 ws s g)) (λ f g. tag_only P forms each.1 tag ws s g)
