-- Where the lines of two cycles differ first.
use Rattle.std.proofs.Common.{◌≡◌, ◌≢◌, ℕ, ◌+◌, List, [], ◌∷◌, ◌++◌, length, map, zero, suc, refl, sym, ap, ◌∙◌, subst, arith}
use Rattle.std.specs.Prelude.{Some, slice_get}
use Rattle.std.proofs.lemmas.List.{append-nil, length-map}
use Rattle.std.proofs.lemmas.Option.{same_Some}
use Rattle.tetri_strl.specs.declared.grants.Grant.{Grant}
use Rattle.tetri_report.specs.Block.{Block}
use Rattle.tetri_report.specs.BlockLines.{block_lines, certificate_lines, count_events, event_lines, events, grant_line, grant_place, granted, launch_place, occurrences_in, plan_of}
use Rattle.tetri_report.specs.Differences.{DifferFirstAt, corrected}
use Rattle.tetri_report.specs.declared.line.PlanLine.{PlanLine}
use Rattle.tetri_report.specs.declared.line.ReportLine.{ReportLine}
use Rattle.tetri_report.specs.declared.line.ReportLine.TheVariants as lines
use Rattle.tetri_state.specs.Begin.{Occurrences}
use Rattle.tetri_state.specs.declared.happened.PieceId.{PieceId}

module _ {X : Type 0} where
  same_head : {x y : X} {xs ys : List X} → x ∷ xs ≡ y ∷ ys → x ≡ y
  same_head e = cc

  same_tail : {x y : X} {xs ys : List X} → x ∷ xs ≡ y ∷ ys → xs ≡ ys
  same_tail e = cc

  not_more : {y : X} {ys : List X} → [] ≡ y ∷ ys → ⊥
  not_more e = absurd cc

  -- behind the same element
  more_front : (x : X) (xs ys : List X) (k : ℕ) → DifferFirstAt xs ys k → DifferFirstAt (x ∷ xs) (x ∷ ys) (suc k)
  more_front x xs ys k d = record { before = ap (λ l. x ∷ l) d.before; there = d.there }

  pub differ_at : {xs ys : List X} {j k : ℕ} → j ≡ k → DifferFirstAt xs ys j → DifferFirstAt xs ys k
  differ_at {xs} {ys} same d = subst (DifferFirstAt xs ys) same d

  pub differ_same : {xs ys us vs : List X} {k : ℕ} → xs ≡ us → ys ≡ vs → DifferFirstAt xs ys k → DifferFirstAt us vs k
  differ_same {xs} {ys} {us} {vs} {k} e f d = subst (λ l. DifferFirstAt us l k) f (subst (λ l. DifferFirstAt l ys k) e d)

  -- behind the same front
  pub differ_behind : (front xs ys : List X) (k : ℕ) → DifferFirstAt xs ys k → DifferFirstAt (front ++ xs) (front ++ ys) (length front + k)
  differ_behind [] xs ys k d = differ_at (omega arith) d
  differ_behind (x ∷ front) xs ys k d = differ_at (omega arith) (more_front x (front ++ xs) (front ++ ys) (length front + k) (differ_behind front xs ys k d))

  -- elements that differ
  pub differ_here : (x y : X) (xs ys : List X) → x ≢ y → DifferFirstAt (x ∷ xs) (y ∷ ys) 0
  differ_here x y xs ys other = record { before = refl; there = λ e. other (same_Some _ _ e) }

-- elements of one kind, which others follow that do not begin so
module _ {A X : Type 0} (make : A → X) (apart : (a b : A) → make a ≡ make b → a ≡ b) where
  pub differ_within : (us vs : List X) → ((a : A) → slice_get us 0 ≢ Some (make a)) → ((a : A) → slice_get vs 0 ≢ Some (make a)) →
      (xs ys : List A) (k : ℕ) → DifferFirstAt xs ys k → DifferFirstAt (map make xs ++ us) (map make ys ++ vs) k
  differ_within us vs apart_us apart_vs [] [] k d = absurd (d.there refl)
  differ_within us vs apart_us apart_vs [] (y ∷ ys) zero d = record { before = refl; there = apart_us y }
  differ_within us vs apart_us apart_vs [] (y ∷ ys) (suc k) d = absurd (not_more d.before)
  differ_within us vs apart_us apart_vs (x ∷ xs) [] zero d = record { before = refl; there = λ e. apart_vs x (sym e) }
  differ_within us vs apart_us apart_vs (x ∷ xs) [] (suc k) d = absurd (not_more (sym d.before))
  differ_within us vs apart_us apart_vs (x ∷ xs) (y ∷ ys) zero d = differ_here (make x) (make y) (map make xs ++ us) (map make ys ++ vs) (λ e. d.there (ap Some (apart x y e)))
  differ_within us vs apart_us apart_vs (x ∷ xs) (y ∷ ys) (suc k) d =
      let rest : DifferFirstAt xs ys k = record { before = same_tail d.before; there = d.there } in
      subst (λ z. DifferFirstAt (make x ∷ (map make xs ++ us)) (make z ∷ (map make ys ++ vs)) (suc k)) (same_head d.before)
      (more_front (make x) (map make xs ++ us) (map make ys ++ vs) k (differ_within us vs apart_us apart_vs xs ys k rest))

-- each kind of line tells what it is made of
ends_apart : (x y : PieceId) → lines.End x ≡ lines.End y → x ≡ y
ends_apart x y e = cc

cancels_apart : (x y : ℕ) → lines.Cancel x ≡ lines.Cancel y → x ≡ y
cancels_apart x y e = cc

fails_apart : (x y : ℕ) → lines.Fail x ≡ lines.Fail y → x ≡ y
fails_apart x y e = cc

overs_apart : (x y : PieceId) → lines.Over x ≡ lines.Over y → x ≡ y
overs_apart x y e = cc

expires_apart : (x y : ℕ) → lines.Expire x ≡ lines.Expire y → x ≡ y
expires_apart x y e = cc

launches_apart : (x y : ℕ) → lines.Launch x ≡ lines.Launch y → x ≡ y
launches_apart x y e = cc

-- what follows the events of a kind
abbrev behind_expires : PlanLine → List ReportLine → List ReportLine
behind_expires a us = lines.Plan a ∷ us

abbrev behind_overs : Occurrences → PlanLine → List ReportLine → List ReportLine
behind_overs o a us = map lines.Expire o.expired ++ behind_expires a us

abbrev behind_fails : Occurrences → PlanLine → List ReportLine → List ReportLine
behind_fails o a us = map lines.Over o.over ++ behind_overs o a us

abbrev behind_cancels : Occurrences → PlanLine → List ReportLine → List ReportLine
behind_cancels o a us = map lines.Fail o.failed ++ behind_fails o a us

abbrev behind_ends : Occurrences → PlanLine → List ReportLine → List ReportLine
behind_ends o a us = map lines.Cancel o.cancelled ++ behind_cancels o a us

module _ (a : PlanLine) (us : List ReportLine) where
  no_expire : (x : ℕ) → slice_get (behind_expires a us) 0 ≢ Some (lines.Expire x)
  no_expire x e = absurd cc

  no_over : (expired : List ℕ) (x : PieceId) → slice_get (map lines.Expire expired ++ behind_expires a us) 0 ≢ Some (lines.Over x)
  no_over [] x e = absurd cc
  no_over (_ ∷ _) x e = absurd cc

  no_fail : (over : List PieceId) (expired : List ℕ) (x : ℕ) → slice_get (map lines.Over over ++ (map lines.Expire expired ++ behind_expires a us)) 0 ≢ Some (lines.Fail x)
  no_fail [] [] x e = absurd cc
  no_fail [] (_ ∷ _) x e = absurd cc
  no_fail (_ ∷ _) expired x e = absurd cc

  no_cancel : (failed : List ℕ) (over : List PieceId) (expired : List ℕ) (x : ℕ) →
      slice_get (map lines.Fail failed ++ (map lines.Over over ++ (map lines.Expire expired ++ behind_expires a us))) 0 ≢ Some (lines.Cancel x)
  no_cancel [] [] [] x e = absurd cc
  no_cancel [] [] (_ ∷ _) x e = absurd cc
  no_cancel [] (_ ∷ _) expired x e = absurd cc
  no_cancel (_ ∷ _) over expired x e = absurd cc

  no_end : (cancelled failed : List ℕ) (over : List PieceId) (expired : List ℕ) (x : PieceId) →
      slice_get (map lines.Cancel cancelled ++ (map lines.Fail failed ++ (map lines.Over over ++ (map lines.Expire expired ++ behind_expires a us)))) 0 ≢ Some (lines.End x)
  no_end [] [] [] [] x e = absurd cc
  no_end [] [] [] (_ ∷ _) x e = absurd cc
  no_end [] [] (_ ∷ _) expired x e = absurd cc
  no_end [] (_ ∷ _) over expired x e = absurd cc
  no_end (_ ∷ _) failed over expired x e = absurd cc

-- the first event that differs, of each kind
module _ (o p : Occurrences) (a b : PlanLine) (us vs : List ReportLine) where
  abbrev DifferAt : ℕ → Type 0
  DifferAt k = DifferFirstAt (event_lines o (lines.Plan a ∷ us)) (event_lines p (lines.Plan b ∷ vs)) k

  pub other_end : (k : ℕ) → DifferFirstAt o.ended p.ended k → DifferAt k
  other_end k d =
      differ_within lines.End ends_apart (behind_ends o a us) (behind_ends p b vs) (no_end a us o.cancelled o.failed o.over o.expired) (no_end b vs p.cancelled p.failed p.over p.expired)
      o.ended p.ended k d

  module _ (ended : o.ended ≡ p.ended) where
    past_ends : (k : ℕ) → DifferFirstAt (behind_ends o a us) (behind_ends p b vs) k → DifferAt (length o.ended + k)
    past_ends k d =
        subst (λ l. DifferFirstAt (event_lines o (lines.Plan a ∷ us)) (map lines.End l ++ behind_ends p b vs) (length o.ended + k)) ended
        (differ_at (omega (arith, length-map o.ended lines.End)) (differ_behind (map lines.End o.ended) (behind_ends o a us) (behind_ends p b vs) k d))

    pub other_cancel : (k : ℕ) → DifferFirstAt o.cancelled p.cancelled k → DifferAt (length o.ended + k)
    other_cancel k d =
        past_ends k
        (differ_within lines.Cancel cancels_apart (behind_cancels o a us) (behind_cancels p b vs) (no_cancel a us o.failed o.over o.expired) (no_cancel b vs p.failed p.over p.expired)
        o.cancelled p.cancelled k d)

    module _ (cancelled : o.cancelled ≡ p.cancelled) where
      past_cancels : (k : ℕ) → DifferFirstAt (behind_cancels o a us) (behind_cancels p b vs) k → DifferAt (length o.ended + length o.cancelled + k)
      past_cancels k d =
          differ_at (omega arith)
          (past_ends (length o.cancelled + k)
          (subst (λ l. DifferFirstAt (behind_ends o a us) (map lines.Cancel l ++ behind_cancels p b vs) (length o.cancelled + k)) cancelled
          (differ_at (omega (arith, length-map o.cancelled lines.Cancel)) (differ_behind (map lines.Cancel o.cancelled) (behind_cancels o a us) (behind_cancels p b vs) k d))))

      pub other_fail : (k : ℕ) → DifferFirstAt o.failed p.failed k → DifferAt (length o.ended + length o.cancelled + k)
      other_fail k d =
          past_cancels k
          (differ_within lines.Fail fails_apart (behind_fails o a us) (behind_fails p b vs) (no_fail a us o.over o.expired) (no_fail b vs p.over p.expired) o.failed p.failed k d)

      module _ (failed : o.failed ≡ p.failed) where
        past_fails : (k : ℕ) → DifferFirstAt (behind_fails o a us) (behind_fails p b vs) k → DifferAt (length o.ended + length o.cancelled + length o.failed + k)
        past_fails k d =
            differ_at (omega arith)
            (past_cancels (length o.failed + k)
            (subst (λ l. DifferFirstAt (behind_cancels o a us) (map lines.Fail l ++ behind_fails p b vs) (length o.failed + k)) failed
            (differ_at (omega (arith, length-map o.failed lines.Fail)) (differ_behind (map lines.Fail o.failed) (behind_fails o a us) (behind_fails p b vs) k d))))

        pub other_over : (k : ℕ) → DifferFirstAt o.over p.over k → DifferAt (length o.ended + length o.cancelled + length o.failed + k)
        other_over k d =
            past_fails k
            (differ_within lines.Over overs_apart (behind_overs o a us) (behind_overs p b vs) (no_over a us o.expired) (no_over b vs p.expired) o.over p.over k d)

        module _ (over : o.over ≡ p.over) where
          past_overs : (k : ℕ) → DifferFirstAt (behind_overs o a us) (behind_overs p b vs) k → DifferAt (length o.ended + length o.cancelled + length o.failed + length o.over + k)
          past_overs k d =
              differ_at (omega arith)
              (past_fails (length o.over + k)
              (subst (λ l. DifferFirstAt (behind_fails o a us) (map lines.Over l ++ behind_overs p b vs) (length o.over + k)) over
              (differ_at (omega (arith, length-map o.over lines.Over)) (differ_behind (map lines.Over o.over) (behind_overs o a us) (behind_overs p b vs) k d))))

          pub other_expire : (k : ℕ) → DifferFirstAt o.expired p.expired k → DifferAt (length o.ended + length o.cancelled + length o.failed + length o.over + k)
          other_expire k d =
              past_overs k
              (differ_within lines.Expire expires_apart (behind_expires a us) (behind_expires b vs) (no_expire a us) (no_expire b vs) o.expired p.expired k d)

          past_expires : o.expired ≡ p.expired → (k : ℕ) → DifferFirstAt (behind_expires a us) (behind_expires b vs) k → DifferAt (count_events o + k)
          past_expires expired k d =
              differ_at (omega arith)
              (past_overs (length o.expired + k)
              (subst (λ l. DifferFirstAt (behind_overs o a us) (map lines.Expire l ++ behind_expires b vs) (length o.expired + k)) expired
              (differ_at (omega (arith, length-map o.expired lines.Expire)) (differ_behind (map lines.Expire o.expired) (behind_expires a us) (behind_expires b vs) k d))))

-- the first start that differs, where there is one for each grant
differ_granted : (us vs : List ReportLine) (gs : List Grant) (ss rs : List ℕ) → length ss ≡ length gs → length rs ≡ length gs → (k : ℕ) → DifferFirstAt ss rs k →
    DifferFirstAt (map grant_line (granted gs ss) ++ us) (map grant_line (granted gs rs) ++ vs) k
differ_granted us vs [] [] [] e f k d = absurd (d.there refl)
differ_granted us vs [] (s ∷ ss) rs e f k d = absurd (omega (arith, e))
differ_granted us vs [] [] (r ∷ rs) e f k d = absurd (omega (arith, f))
differ_granted us vs (g ∷ gs) [] rs e f k d = absurd (omega (arith, e))
differ_granted us vs (g ∷ gs) (s ∷ ss) [] e f k d = absurd (omega (arith, f))
differ_granted us vs (g ∷ gs) (s ∷ ss) (r ∷ rs) e f zero d =
    differ_here (grant_line (g, s)) (grant_line (g, r)) _ _ (λ same. d.there (starts_same same))
  where
    starts_same : lines.Grant g s ≡ lines.Grant g r → Some s ≡ Some r
    starts_same same = cc
differ_granted us vs (g ∷ gs) (s ∷ ss) (r ∷ rs) e f (suc k) d =
    let rest : DifferFirstAt ss rs k = record { before = same_tail d.before; there = d.there } in
    subst (λ z. DifferFirstAt (grant_line (g, s) ∷ (map grant_line (granted gs ss) ++ us)) (grant_line (g, z) ∷ (map grant_line (granted gs rs) ++ vs)) (suc k)) (same_head d.before)
    (more_front (grant_line (g, s)) (map grant_line (granted gs ss) ++ us) (map grant_line (granted gs rs) ++ vs) k
    (differ_granted us vs gs ss rs (omega (arith, e)) (omega (arith, f)) k rest))

length-granted : (gs : List Grant) (ss : List ℕ) → length ss ≡ length gs → length (granted gs ss) ≡ length gs
length-granted [] ss e = refl
length-granted (g ∷ gs) [] e = absurd (omega (arith, e))
length-granted (g ∷ gs) (s ∷ ss) e = omega (arith, length-granted gs ss (omega (arith, e)))

-- the first line of a cycle that differs from what it has to tell
module _ (b : Block) (n : ℕ) (o : Occurrences) (ss ls : List ℕ) where
  abbrev LinesDifferAt : ℕ → Type 0
  LinesDifferAt k = DifferFirstAt (block_lines b) (block_lines (corrected b n o ss ls)) k

  abbrev behind_grants : List ℕ → List ReportLine
  behind_grants launched = certificate_lines b.certificate ++ map lines.Launch launched

  abbrev behind_plan : List ℕ → List ℕ → List ReportLine
  behind_plan starts launched = map grant_line (granted b.grants starts) ++ behind_grants launched

  pub other_number : b.number ≢ n → LinesDifferAt 0
  other_number other = differ_here (lines.Cycle b.number) (lines.Cycle n) _ _ (λ e. other (numbers_same e))
    where
      numbers_same : lines.Cycle b.number ≡ lines.Cycle n → b.number ≡ n
      numbers_same e = cc

  module _ (number : b.number ≡ n) where
    pub other_event : (k : ℕ) →
        DifferFirstAt (event_lines (occurrences_in b) (lines.Plan (plan_of b) ∷ behind_plan b.starts b.launched)) (event_lines o (lines.Plan (plan_of b) ∷ behind_plan ss ls)) k →
        LinesDifferAt (suc k)
    other_event k d =
        subst (λ m. DifferFirstAt (block_lines b) (lines.Cycle m ∷ event_lines o (lines.Plan (plan_of b) ∷ behind_plan ss ls)) (suc k)) number
        (more_front (lines.Cycle b.number) _ _ k d)

    module _ (happened : occurrences_in b ≡ o) where
      past_plan : (k : ℕ) → DifferFirstAt (behind_plan b.starts b.launched) (behind_plan ss ls) k → LinesDifferAt (grant_place b k)
      past_plan k d =
          differ_at (omega arith)
          (other_event (events b + suc k)
          (past_expires (occurrences_in b) o (plan_of b) (plan_of b) (behind_plan b.starts b.launched) (behind_plan ss ls) (ap (λ (q : Occurrences). q.ended) happened)
          (ap (λ (q : Occurrences). q.cancelled) happened) (ap (λ (q : Occurrences). q.failed) happened) (ap (λ (q : Occurrences). q.over) happened) (ap (λ (q : Occurrences). q.expired) happened) (suc k)
          (more_front (lines.Plan (plan_of b)) _ _ k d)))

      pub other_start : length b.starts ≡ length b.grants → length ss ≡ length b.grants → (k : ℕ) → DifferFirstAt b.starts ss k → LinesDifferAt (grant_place b k)
      other_start e f k d = past_plan k (differ_granted (behind_grants b.launched) (behind_grants ls) b.grants b.starts ss e f k d)

      pub other_launch : length b.starts ≡ length b.grants → b.starts ≡ ss → (k : ℕ) → DifferFirstAt b.launched ls k → LinesDifferAt (launch_place b + k)
      other_launch e starts k d =
          let launches : DifferFirstAt (map lines.Launch b.launched) (map lines.Launch ls) k =
          subst (λ l. DifferFirstAt l (map lines.Launch ls) k) (append-nil (map lines.Launch b.launched))
          (subst (λ l. DifferFirstAt (map lines.Launch b.launched ++ []) l k) (append-nil (map lines.Launch ls))
          (differ_within lines.Launch launches_apart [] [] (λ x e. absurd cc) (λ x e. absurd cc) b.launched ls k d)) in
          differ_at (omega arith)
          (past_plan (length b.grants + (length (certificate_lines b.certificate) + k))
          (subst (λ l. DifferFirstAt (behind_plan b.starts b.launched) (behind_plan l ls) (length b.grants + (length (certificate_lines b.certificate) + k))) starts
          (differ_at (omega (arith, length-map (granted b.grants b.starts) grant_line, length-granted b.grants b.starts e))
          (differ_behind (map grant_line (granted b.grants b.starts)) (behind_grants b.launched) (behind_grants ls) (length (certificate_lines b.certificate) + k)
          (differ_behind (certificate_lines b.certificate) (map lines.Launch b.launched) (map lines.Launch ls) k launches)))))

      pub nothing_else : b.starts ≡ ss → b.launched ≡ ls → b ≡ corrected b n o ss ls
      nothing_else starts launched =
          ap (λ m. corrected b m (occurrences_in b) b.starts b.launched) number
          ∙ ap (λ q. corrected b n q b.starts b.launched) happened
          ∙ ap (λ l. corrected b n o l b.launched) starts
          ∙ ap (corrected b n o ss) launched
