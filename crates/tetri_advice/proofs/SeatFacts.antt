-- Laws of seats: who sits after a panel was asked and taught, and what was given.
use Rattle.std.proofs.Common.{◌≡◌, ℕ, ◌+◌, ◌-◌, ◌^◌, ◌≤◌, min, List, [], ◌∷◌, ◌++◌, length, map, count_by, not, Bool, true, false, true≢false, cond, All, refl, sym, ap, ◌∙◌, subst, arith}
use Prim.Native.Nat.{zero, suc}
use Rattle.std.specs.Prelude.{Contains, Option, Some, None, IfSome}
use Rattle.std.proofs.lemmas.List.{length-append, append-nil, map-append}
use Rattle.std.proofs.lemmas.List.Elements.{All-nil, All-cons, All-head, All-tail, All-push, All-weaker, Contains-append_left, Contains-push}
use Rattle.std.proofs.lemmas.List.Sums.{sum_by-append}
use Rattle.tetri_strl.specs.declared.grants.Grant.{Grant}
use Rattle.tetri_advice.specs.Asked.{Asked, nobody, gave, struck, left, missed, Taught}
use Rattle.tetri_algebra.specs.Counts.{Rose}
use Rattle.tetri_advice.specs.Creeds.{IsListed, greedy_list}
use Rattle.tetri_advice.specs.Seat.{Seat, AllTell, Tells, creeds_of}
use Rattle.tetri_base.specs.Lists.{with_first}
use Rattle.tetri_space.specs.Lawful.{IsLawful}
use Rattle.tetri_space.specs.Space.{Space}
use Rattle.tetri_advice.specs.declared.creed.Creed.{Creed}
use Rattle.tetri_advice.specs.Consulted.{Consulted}
use Rattle.tetri_advice.specs.Heard.{EachHeard, Heard, IsGiven, StillSit}

-- ---- creeds
few_told : (o : Option Creed) (cs : List Creed) → length (with_first o cs) ≤ length cs + 1
few_told None cs = omega arith
few_told (Some c) cs = omega arith

few_creeds : (ss : List Seat) → length (creeds_of ss) ≤ length ss
few_creeds [] = omega arith
few_creeds (s ∷ ss) = omega (arith, few_told s.creed (creeds_of ss), few_creeds ss)

creeds_of-push : (ss : List Seat) (s : Seat) → creeds_of (ss ++ s ∷ []) ≡ creeds_of ss ++ with_first s.creed []
creeds_of-push [] s = refl
creeds_of-push (r ∷ ss) s = by_creed r.creed (creeds_of-push ss s)
  where
    by_creed : (o : Option Creed) → creeds_of (ss ++ s ∷ []) ≡ creeds_of ss ++ with_first s.creed [] → with_first o (creeds_of (ss ++ s ∷ [])) ≡ with_first o (creeds_of ss) ++ with_first s.creed []
    by_creed None e = e
    by_creed (Some c) e = ap (λ z. c ∷ z) e

-- whoever tells a creed is not dropped
dropped_tells_none : (i : Space) (s : Seat) → (IsLawful i (s.says i) → ⊥) → Tells i s → s.creed ≡ None
dropped_tells_none i s unlawful t = by_creed s.creed t
  where
    by_creed : (o : Option Creed) → IfSome o (IsListed i (s.says i)) → o ≡ None
    by_creed None u = refl
    by_creed (Some c) u = absurd (unlawful (subst (λ (x : List Grant). IsLawful i x) (sym u.list) u.is_lawful))

creeds_stay : (ss ts : List Seat) (s t : Seat) → creeds_of ts ≡ creeds_of ss → t.creed ≡ s.creed → creeds_of (ts ++ t ∷ []) ≡ creeds_of (ss ++ s ∷ [])
creeds_stay ss ts s t e f = creeds_of-push ts t ∙ ap (λ z. creeds_of ts ++ with_first z []) f ∙ ap (λ z. z ++ with_first s.creed []) e ∙ sym (creeds_of-push ss s)

pub creeds_asked : (i : Space) (ss : List Seat) (hs : List Bool) (gs : List (List Grant)) (ts : List Seat) → Asked i ss hs gs ts → creeds_of ts ≡ creeds_of ss
creeds_asked i _ _ _ _ nobody = refl
creeds_asked i _ _ _ _ (gave ss hs gs ts s t a w l n) = creeds_stay ss ts s t (creeds_asked i ss hs gs ts a) w.creed
creeds_asked i _ _ _ _ (struck ss hs gs ts s t a w l n m) = creeds_stay ss ts s t (creeds_asked i ss hs gs ts a) w.creed
creeds_asked i _ _ _ _ (missed ss hs gs ts s t a w l n) = creeds_stay ss ts s t (creeds_asked i ss hs gs ts a) w.creed
creeds_asked i _ _ _ _ (left ss hs gs ts s a w l n) =
    creeds_asked i ss hs gs ts a ∙ sym (append-nil (creeds_of ss)) ∙ ap (λ z. creeds_of ss ++ with_first z []) (sym (dropped_tells_none i s l w)) ∙ sym (creeds_of-push ss s)

pub creeds_taught : (ss ts : List Seat) → Taught ss ts → creeds_of ts ≡ creeds_of ss
creeds_taught [] [] w = refl
creeds_taught [] (t ∷ ts) w = absurd w
creeds_taught (s ∷ ss) [] w = absurd w
creeds_taught (s ∷ ss) (t ∷ ts) w = ap (λ o. with_first o (creeds_of ts)) w.0.creed ∙ ap (with_first s.creed) (creeds_taught ss ts w.1)

-- ---- how many sit
record Counts (ss : List Seat) (hs : List Bool) (gs : List (List Grant)) (ts : List Seat) : Type 0 where
  sit : length ts ≤ length ss
  heard : length hs ≡ length ss
  given : length gs ≤ length ss

fewer_asked : (i : Space) (ss : List Seat) (hs : List Bool) (gs : List (List Grant)) (ts : List Seat) → Asked i ss hs gs ts → Counts ss hs gs ts
fewer_asked i _ _ _ _ nobody = record { sit = omega arith; heard = refl; given = omega arith }
fewer_asked i _ _ _ _ (gave ss hs gs ts s t a w l n) = let f = fewer_asked i ss hs gs ts a in record { sit = simp length-append (omega arith); heard = simp length-append (omega arith); given = simp length-append (omega arith) }
fewer_asked i _ _ _ _ (struck ss hs gs ts s t a w l n m) = let f = fewer_asked i ss hs gs ts a in record { sit = simp length-append (omega arith); heard = simp length-append (omega arith); given = simp length-append (omega arith) }
fewer_asked i _ _ _ _ (missed ss hs gs ts s t a w l n) = let f = fewer_asked i ss hs gs ts a in record { sit = simp length-append (omega arith); heard = simp length-append (omega arith); given = simp length-append (omega arith) }
fewer_asked i _ _ _ _ (left ss hs gs ts s a w l n) = let f = fewer_asked i ss hs gs ts a in record { sit = simp length-append (omega arith); heard = simp length-append (omega arith); given = simp length-append (omega arith) }

as_many_taught : (ss ts : List Seat) → Taught ss ts → length ts ≡ length ss
as_many_taught [] [] w = refl
as_many_taught [] (t ∷ ts) w = absurd w
as_many_taught (s ∷ ss) [] w = absurd w
as_many_taught (s ∷ ss) (t ∷ ts) w = ap suc (as_many_taught ss ts w.1)

-- ---- what was said
tells_asked : (i : Space) (ss : List Seat) (hs : List Bool) (gs : List (List Grant)) (ts : List Seat) → Asked i ss hs gs ts → All (Tells i) ss
tells_asked i _ _ _ _ nobody = All-nil _
tells_asked i _ _ _ _ (gave ss hs gs ts s t a w l n) = All-push (Tells i) ss s (tells_asked i ss hs gs ts a) w.told
tells_asked i _ _ _ _ (struck ss hs gs ts s t a w l n m) = All-push (Tells i) ss s (tells_asked i ss hs gs ts a) w.told
tells_asked i _ _ _ _ (missed ss hs gs ts s t a w l n) = All-push (Tells i) ss s (tells_asked i ss hs gs ts a) w.told
tells_asked i _ _ _ _ (left ss hs gs ts s a w l n) = All-push (Tells i) ss s (tells_asked i ss hs gs ts a) w

-- what is given is lawful
pub given_lawful : (i : Space) (ss : List Seat) (hs : List Bool) (gs : List (List Grant)) (ts : List Seat) → Asked i ss hs gs ts → All (IsLawful i) gs
given_lawful i _ _ _ _ nobody = All-nil _
given_lawful i _ _ _ _ (gave ss hs gs ts s t a w l n) = All-push (IsLawful i) gs (s.says i) (given_lawful i ss hs gs ts a) l
given_lawful i _ _ _ _ (struck ss hs gs ts s t a w l n m) = given_lawful i ss hs gs ts a
given_lawful i _ _ _ _ (missed ss hs gs ts s t a w l n) = given_lawful i ss hs gs ts a
given_lawful i _ _ _ _ (left ss hs gs ts s a w l n) = given_lawful i ss hs gs ts a

heard_before : (hs : List Bool) → count_by not (hs ++ true ∷ []) ≡ 0 → count_by not hs ≡ 0
heard_before hs e = let c = sum_by-append (λ x. cond (not x) 1 0) hs (true ∷ []) in omega (arith, c, e)

not_heard : (hs : List Bool) → count_by not (hs ++ false ∷ []) ≡ 0 → ⊥
not_heard hs e = let c = sum_by-append (λ x. cond (not x) 1 0) hs (false ∷ []) in omega (arith, c, e)

-- where all were heard, all that is lawful was given
pub all_said : (i : Space) (ss : List Seat) (hs : List Bool) (gs : List (List Grant)) (ts : List Seat) → Asked i ss hs gs ts → count_by not hs ≡ 0 → All (IsGiven i gs) ss
all_said i _ _ _ _ nobody e = All-nil _
all_said i _ _ _ _ (gave ss hs gs ts s t a w l n) e =
    All-push (IsGiven i (gs ++ s.says i ∷ [])) ss s
    (All-weaker (IsGiven i gs) (IsGiven i (gs ++ s.says i ∷ [])) (λ b f k. Contains-append_left gs (s.says i ∷ []) (b.says i) (f k)) ss (all_said i ss hs gs ts a (heard_before hs e)))
    (λ k. Contains-push gs (s.says i))
all_said i _ _ _ _ (struck ss hs gs ts s t a w l n m) e = All-push (IsGiven i gs) ss s (all_said i ss hs gs ts a (heard_before hs e)) (λ k. absurd (l k))
all_said i _ _ _ _ (missed ss hs gs ts s t a w l n) e = absurd (not_heard hs e)
all_said i _ _ _ _ (left ss hs gs ts s a w l n) e = All-push (IsGiven i gs) ss s (all_said i ss hs gs ts a (heard_before hs e)) (λ k. absurd (l k))

creeds_said : (i : Space) (gs : List (List Grant)) (ss : List Seat) → All (Tells i) ss → All (IsGiven i gs) ss → All (λ c. Contains gs (greedy_list c i)) (creeds_of ss)
creeds_said i gs [] a f = All-nil _
creeds_said i gs (s ∷ ss) a f =
    by_creed s.creed (All-head (Tells i) s ss a) (All-head (IsGiven i gs) s ss f) (creeds_said i gs ss (All-tail (Tells i) s ss a) (All-tail (IsGiven i gs) s ss f))
  where
    by_creed : (o : Option Creed) → IfSome o (IsListed i (s.says i)) → IsGiven i gs s → All (λ c. Contains gs (greedy_list c i)) (creeds_of ss) → All (λ c. Contains gs (greedy_list c i)) (with_first o (creeds_of ss))
    by_creed None t k h = h
    by_creed (Some c) t k h =
        All-cons (λ d. Contains gs (greedy_list d i)) c (creeds_of ss)
        (subst (λ (x : List Grant). Contains gs x) t.list (k (subst (λ (x : List Grant). IsLawful i x) (sym t.list) t.is_lawful))) h

-- where all tell a creed, so do those before the last, and the last
tell_before : (ss : List Seat) (s : Seat) → AllTell (ss ++ s ∷ []) → AllTell ss × (length (with_first s.creed []) ≡ 1)
tell_before ss s e =
    let l : length (creeds_of ss) + length (with_first s.creed []) ≡ length ss + 1 = sym (length-append (creeds_of ss) (with_first s.creed [])) ∙ ap length (sym (creeds_of-push ss s)) ∙ e ∙ length-append ss (s ∷ []) in
    (omega (arith, l, few_creeds ss, few_told s.creed []), omega (arith, l, few_creeds ss, few_told s.creed []))

abbrev lists : Space → List Creed → List (List Grant)
lists i cs = map (λ c. greedy_list c i) cs

-- an advisor that tells a creed says its list, which is lawful
one_said : (i : Space) (s : Seat) → length (with_first s.creed []) ≡ 1 → Tells i s → (s.says i ∷ [] ≡ lists i (with_first s.creed [])) × IsLawful i (s.says i)
one_said i s l t = by_creed s.creed l t
  where
    by_creed : (o : Option Creed) → length (with_first o []) ≡ 1 → IfSome o (IsListed i (s.says i)) → (s.says i ∷ [] ≡ lists i (with_first o [])) × IsLawful i (s.says i)
    by_creed None l u = absurd (omega (arith, l))
    by_creed (Some c) l u = (ap (λ x. x ∷ []) u.list, subst (λ (x : List Grant). IsLawful i x) (sym u.list) u.is_lawful)

exactly_said : (i : Space) (ss : List Seat) (hs : List Bool) (gs : List (List Grant)) (ts : List Seat) → Asked i ss hs gs ts → count_by not hs ≡ 0 → AllTell ss → gs ≡ lists i (creeds_of ss)
exactly_said i _ _ _ _ nobody e all = refl
exactly_said i _ _ _ _ (gave ss hs gs ts s t a w l n) e all =
    let b = tell_before ss s all in
    ap (λ z. z ++ s.says i ∷ []) (exactly_said i ss hs gs ts a (heard_before hs e) b.0) ∙ ap (λ z. lists i (creeds_of ss) ++ z) (one_said i s b.1 w.told).0
    ∙ sym (map-append (λ c. greedy_list c i) (creeds_of ss) (with_first s.creed [])) ∙ ap (lists i) (sym (creeds_of-push ss s))
exactly_said i _ _ _ _ (struck ss hs gs ts s t a w l n m) e all = absurd (l (one_said i s (tell_before ss s all).1 w.told).1)
exactly_said i _ _ _ _ (missed ss hs gs ts s t a w l n) e all = absurd (not_heard hs e)
exactly_said i _ _ _ _ (left ss hs gs ts s a w l n) e all = absurd (l (one_said i s (tell_before ss s all).1 w).1)

-- ---- the count of misses
none_missed : (start before now n : ℕ) → start ≤ before → now ≡ min (before + n) (2 ^ 64 - 1) → (Rose start now → ⊥) → n ≡ 0
none_missed start before now zero l e calm = refl
none_missed start before now (suc n) l e calm = absurd (calm (omega (arith, l, e)))

pub rose_on : (start before now : ℕ) → before ≤ now → Rose start before → Rose start now
rose_on start before now l r = omega (arith, l, r)

-- ---- a cycle
pub still_sit : (i : Space) (sat ss ts : List Seat) (hs : List Bool) (gs : List (List Grant)) (number next before now : ℕ) → next ≡ number + 1 → StillSit sat number ss → Consulted i ss before hs gs ts now →
    StillSit sat next ts
still_sit i sat ss ts hs gs number next before now n still c = record {
  creeds = creeds_taught c.asked_sits ts c.taught ∙ creeds_asked i ss hs gs c.asked_sits c.asked ∙ still.creeds;
  fewer = omega (arith, as_many_taught c.asked_sits ts c.taught, (fewer_asked i ss hs gs c.asked_sits c.asked).sit, still.fewer);
  first = λ e. absurd (omega (arith, n, e));
}

none_given : {X : Type 0} → (xs : List X) → length xs ≤ 0 → xs ≡ []
none_given [] l = refl
none_given (x ∷ xs) l = absurd (omega (arith, l))

pub heard_cycle : (i : Space) (sat ss ts : List Seat) (hs : List Bool) (gs : List (List Grant)) (start before now : ℕ) → StillSit sat i.now ss → start ≤ before → Consulted i ss before hs gs ts now →
    Heard sat start now i gs
heard_cycle i sat ss ts hs gs start before now still l c =
    let a = fewer_asked i ss hs gs c.asked_sits c.asked in
    let all : (Rose start now → ⊥) → count_by not hs ≡ 0 = λ calm. none_missed start before now (count_by not hs) l c.missed calm in
    let said : (Rose start now → ⊥) → All (IsGiven i gs) ss = λ calm. all_said i ss hs gs c.asked_sits c.asked (all calm) in
    record {
      nobody = λ e. none_given gs (omega (arith, a.given, still.fewer, ap length e));
      creeds = λ tell calm.
          exactly_said i ss hs gs c.asked_sits c.asked (all calm) (omega (arith, tell, still.fewer, few_creeds ss, ap length still.creeds)) ∙ ap (lists i) still.creeds;
      each = λ calm. subst (λ (cs : List Creed). All (λ d. Contains gs (greedy_list d i)) cs) still.creeds
          (creeds_said i gs ss (tells_asked i ss hs gs c.asked_sits c.asked) (said calm));
      first = λ at_first calm. subst (λ (z : List Seat). All (IsGiven i gs) z) (still.first at_first) (said calm);
    }

-- ---- who was heard
each_pushed : (P : Seat → Type 0) (sat : List Seat) (heard : List Bool) (a : Seat) (h : Bool) → EachHeard P sat heard → (h ≡ true → P a) → EachHeard P (sat ++ a ∷ []) (heard ++ h ∷ [])
each_pushed P [] [] a true each one = (one refl, tt)
each_pushed P [] [] a false each one = tt
each_pushed P [] (k ∷ heard) a h each one = absurd each
each_pushed P (b ∷ sat) [] a h each one = absurd each
each_pushed P (b ∷ sat) (true ∷ heard) a h each one = (each.0, each_pushed P sat heard a h each.1 one)
each_pushed P (b ∷ sat) (false ∷ heard) a h each one = each_pushed P sat heard a h each one

each_weaker : (P Q : Seat → Type 0) → ((a : Seat) → P a → Q a) → (sat : List Seat) (heard : List Bool) → EachHeard P sat heard → EachHeard Q sat heard
each_weaker P Q f [] [] each = tt
each_weaker P Q f [] (h ∷ heard) each = each
each_weaker P Q f (a ∷ sat) [] each = each
each_weaker P Q f (a ∷ sat) (true ∷ heard) each = (f a each.0, each_weaker P Q f sat heard each.1)
each_weaker P Q f (a ∷ sat) (false ∷ heard) each = each_weaker P Q f sat heard each

-- what is lawful of what heard advisors said was given
pub heard_given : (s : Space) (sat : List Seat) (heard : List Bool) (given : List (List Grant)) (sits : List Seat) → Asked s sat heard given sits → EachHeard (IsGiven s given) sat heard
heard_given s _ _ _ _ nobody = tt
heard_given s _ _ _ _ (gave sat heard given sits a b asked w l n) =
    each_pushed (IsGiven s (given ++ a.says s ∷ [])) sat heard a true
    (each_weaker (IsGiven s given) (IsGiven s (given ++ a.says s ∷ [])) (λ c f k. Contains-append_left given (a.says s ∷ []) (c.says s) (f k)) sat heard (heard_given s sat heard given sits asked))
    (λ e k. Contains-push given (a.says s))
heard_given s _ _ _ _ (struck sat heard given sits a b asked w l n m) =
    each_pushed (IsGiven s given) sat heard a true (heard_given s sat heard given sits asked) (λ e k. absurd (l k))
heard_given s _ _ _ _ (missed sat heard given sits a b asked w l n) =
    each_pushed (IsGiven s given) sat heard a false (heard_given s sat heard given sits asked) (λ e. absurd (true≢false (sym e)))
heard_given s _ _ _ _ (left sat heard given sits a asked w l n) =
    each_pushed (IsGiven s given) sat heard a true (heard_given s sat heard given sits asked) (λ e k. absurd (l k))

-- a fact of what is given holds of what each heard advisor said, where that is lawful
pub heard_each : (s : Space) (P : List Grant → Type 0) (sat : List Seat) (heard : List Bool) (given : List (List Grant)) → EachHeard (IsGiven s given) sat heard →
    ((g : List Grant) → Contains given g → P g) → EachHeard (λ a. IsLawful s (a.says s) → P (a.says s)) sat heard
heard_each s P sat heard given each f = each_weaker (IsGiven s given) (λ a. IsLawful s (a.says s) → P (a.says s)) (λ a k lawful. f (a.says s) (k lawful)) sat heard each

-- with nobody nothing is given
pub nobody_gives : (s : Space) (sat : List Seat) (heard : List Bool) (given : List (List Grant)) (sits : List Seat) → Asked s sat heard given sits → sat ≡ [] → given ≡ []
nobody_gives s sat heard given sits asked none = none_given given (omega (arith, (fewer_asked s sat heard given sits asked).given, ap length none))
