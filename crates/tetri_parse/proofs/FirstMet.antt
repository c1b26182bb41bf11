-- The fault that the second pass meets is the first of all.
use Rattle.std.proofs.Common.{◌≡◌, ℕ, zero, suc, length, ◌+◌, ◌*◌, ◌%◌, ◌&&◌, ◌||◌, ◌==◌, max, Bool, true, false, not, nat_lt, nat_le, if◌then◌else◌, List, [], ◌∷◌, ◌++◌, Option, Some, None, Result, Ok, Err, refl, sym, ap, subst, ◌∙◌, arith}
use Rattle.std.specs.Prelude.{IfOk}
use Rattle.std.specs.List.{list_any}
use Rattle.std.proofs.lemmas.Bool.Decides.{nat_tests}
use Rattle.tetri_strl.specs.declared.expr.Leaf.{Leaf}
use Rattle.tetri_strl.specs.Tree.{Operator, greatest, least, added, Tree, one, join, scale, barrier, row}
use Rattle.tetri_strl.specs.WellMade.{PEAK, peak_joined}
use Rattle.tetri_cluster.specs.Sets.{set_added}
use Rattle.tetri_parse.specs.declared.fault.Fault.{Fault}
use Rattle.tetri_parse.specs.declared.fault.Fault.TheVariants.{Uneven, Mixed, TooRich, TooDeep, TooManyLeaves, Trailing}
use Rattle.tetri_parse.specs.declared.fault.Miss.{Miss}
use Rattle.tetri_parse.specs.LeafText.{LeafText}
use Rattle.tetri_base.specs.ResultSteps.{◌>>=◌}
use Rattle.tetri_parse.specs.Faults.{fault_if, added_faults, set_faults, sets_with, sets_behind, starts_below, leaf_faults, sets_past, sets_past_all, all_faults, faults_of_all, IsFirstOf, MeetsFirst}
use Rattle.tetri_parse.specs.Grammar.{Rest, leaf_at, part_with_number, goes_on_to_child, children_at, body_at, expr_at, whole_at}
use Rattle.tetri_parse.specs.Phrase.{Phrase, Phrases, asked, joined, scaled, barred, nothing, followed, line_up, operator}
use Rattle.tetri_parse.specs.Rows.{row_at}
use Rattle.tetri_parse.specs.Settling.{at, set_in, first_start, first_start_of, wanted_below, is_mixed, settled_set, unless_rich, made_of, peak_of, peaks_of, leaf_with, settled_value, settled_leaf, settled, settled_all}
use Rattle.tetri_parse.specs.declared.token.Word.{Word}
use Rattle.tetri_parse.specs.declared.token.Word.TheVariants as word
use Rattle.tetri_cluster.specs.declared.cluster.NodeText.{NodeText}
use Rattle.tetri_parse.specs.Tokens.{skip_blanks, missed, mark_at, word_at, number_at}
use Rattle.tetri_parse.specs.Written.{HasPart}
use Rattle.tetri_parse.proofs.Steps.{both, passed, same_ok, not_rich, made, set_found}

-- faults of a first step, and of what comes behind it where it passes
after_test : {A : Type 0} (b : Bool) (fault : Fault) (left : ℕ) (ms : List Miss) (r : Result A Miss) → IsFirstOf ms r → IsFirstOf (fault_if b fault left ++ ms) (if b then at fault left else r)
after_test true fault left ms r h = refl
after_test false fault left ms r h = h

-- the result of a first step decides, or that of the second
module _ {A B : Type 0} (f : A → Result B Miss) where
  after_step : (ms ns : List Miss) (r : Result A Miss) → IsFirstOf ms r → ((x : A) → r ≡ Ok x → IsFirstOf ns (f x)) → IsFirstOf (ms ++ ns) (r >>= f)
  after_step [] ns (Ok x) h g = g x refl
  after_step [] ns (Err e) h g = absurd h
  after_step (m ∷ ms) ns (Ok x) h g = absurd h
  after_step (m ∷ ms) ns (Err e) h g = h

-- what is made of a result has the same faults
after_made : {A B S : Type 0} (f : A → B) (ms : List Miss) (r : Result (A × S) Miss) → IsFirstOf ms r → IsFirstOf ms (made_of f r)
after_made f [] (Ok x) h = tt
after_made f [] (Err e) h = absurd h
after_made f (m ∷ ms) (Ok x) h = absurd h
after_made f (m ∷ ms) (Err e) h = h

-- a wanted start stands for the starts around
abbrev Agrees : Option ℕ → List ℕ → Type 0
Agrees wanted starts = (s : ℕ) → is_mixed wanted s ≡ list_any (λ x. not (x == s)) starts

-- every join has a part
abbrev mutual
  pub HasParts : Phrase → Type 0
  HasParts (asked l) = Unit {0}
  HasParts (joined op left ps) = HasPart ps × HaveParts ps
  HasParts (scaled left p s) = HasParts p
  HasParts (barred left p v) = HasParts p

  pub HaveParts : Phrases → Type 0
  HaveParts nothing = Unit {0}
  HaveParts (followed p ps) = HasParts p × HaveParts ps

-- below a join whose first leaf is mixed itself all goes as far as that leaf
below_mixed : (op : Operator) (wanted : Option ℕ) (start : ℕ) → is_mixed wanted start ≡ true → is_mixed (wanted_below op wanted start) start ≡ true
below_mixed greatest wanted start h = h
below_mixed least None start h = absurd (cc)
below_mixed least (Some w) start h = h
below_mixed added None start h = absurd (cc)
below_mixed added (Some w) start h = h

starts_mixed : (op : Operator) (starts : List ℕ) (start : ℕ) → list_any (λ x. not (x == start)) starts ≡ true → list_any (λ x. not (x == start)) (starts_below op starts start) ≡ true
starts_mixed greatest starts start h = h
starts_mixed least starts start h = by_first (not (start == start)) h
  where
    by_first : (b : Bool) → list_any (λ x. not (x == start)) starts ≡ true → (b || list_any (λ x. not (x == start)) starts) ≡ true
    by_first true g = refl
    by_first false g = g
starts_mixed added starts start h = by_first (not (start == start)) h
  where
    by_first : (b : Bool) → list_any (λ x. not (x == start)) starts ≡ true → (b || list_any (λ x. not (x == start)) starts) ≡ true
    by_first true g = refl
    by_first false g = g

-- a fault that both have
abbrev Fails : {A : Type 0} → List Miss → Result A Miss → Type 0
Fails ms r = (m : Miss) × (ns : List Miss) × (ms ≡ m ∷ ns) × (r ≡ Err m)

first_fails : {A : Type 0} (ms : List Miss) (r : Result A Miss) → Fails ms r → IsFirstOf ms r
first_fails ms r h = rw (h.2, h.3) refl

fails_after_test : {A : Type 0} (b : Bool) (fault : Fault) (left : ℕ) (ms : List Miss) (r : Result A Miss) → Fails ms r → Fails (fault_if b fault left ++ ms) (if b then at fault left else r)
fails_after_test true fault left ms r h = (record { fault = fault; left = left }, ms, refl, refl)
fails_after_test false fault left ms r h = h

fails_made : {A B S : Type 0} (f : A → B) (ms : List Miss) (r : Result (A × S) Miss) → Fails ms r → Fails ms (made_of f r)
fails_made f ms r h = (h.0, h.1, h.2, ap (made_of f) h.3)

fails_first : {A B : Type 0} (f : A → Result B Miss) (ms ns : List Miss) (r : Result A Miss) → Fails ms r → Fails (ms ++ ns) (r >>= f)
fails_first f ms ns r h = (h.0, h.1 ++ ns, ap (λ (xs : List Miss). xs ++ ns) h.2, ap (λ q. q >>= f) h.3)

only_test : {A : Type 0} (b : Bool) (fault : Fault) (left : ℕ) (x : A) → IsFirstOf (fault_if b fault left) (if b then at fault left else Ok x)
only_test true fault left x = refl
only_test false fault left x = tt

set_met : (left : ℕ) (o : Option (List ℕ)) (sets : List (List ℕ)) → IsFirstOf (set_faults left o sets) (settled_set left o sets)
set_met left None sets = refl
set_met left (Some nodes) sets = by_added (set_added nodes sets)
  where
    by_added : (o : Option (ℕ × List (List ℕ))) → IsFirstOf (added_faults left o) (set_in left o)
    by_added None = refl
    by_added (Some x) = tt

or_false : (b : Bool) → b ≡ (b || false)
or_false true = refl
or_false false = refl

or_same : (b : Bool) → b ≡ (b || b)
or_same true = refl
or_same false = refl

same_number : (w f : ℕ) → not (w == f) ≡ false → w ≡ f
same_number w f h = grind (arith, nat_tests)

agrees_inside : (wanted : Option ℕ) (starts : List ℕ) (f : ℕ) → Agrees wanted starts → is_mixed wanted f ≡ false → (w : ℕ) → wanted ≡ Some w → Agrees wanted (f ∷ starts)
agrees_inside None starts f h e w is = absurd (cc)
agrees_inside (Some v) starts f h e w is = λ s.
    let same : v ≡ f = same_number v f e in
    or_same (not (v == s)) ∙ ap (λ b. not (v == s) || b) (h s) ∙ ap (λ n. not (n == s) || list_any (λ x. not (x == s)) starts) same

agrees_outside : (starts : List ℕ) (f : ℕ) → Agrees None starts → Agrees (Some f) (f ∷ starts)
agrees_outside starts f h = λ s. or_false (not (f == s)) ∙ ap (λ b. not (f == s) || b) (h s)

agrees_below : (op : Operator) (wanted : Option ℕ) (starts : List ℕ) (f : ℕ) → Agrees wanted starts → is_mixed wanted f ≡ false → Agrees (wanted_below op wanted f) (starts_below op starts f)
agrees_below greatest wanted starts f h e = h
agrees_below least None starts f h e = agrees_outside starts f h
agrees_below least (Some w) starts f h e = agrees_inside (Some w) starts f h e w refl
agrees_below added None starts f h e = agrees_outside starts f h
agrees_below added (Some w) starts f h e = agrees_inside (Some w) starts f h e w refl

module _ (unit arrival : ℕ) where
  leaf_broken : (wanted : Option ℕ) (starts : List ℕ) (l : LeafText) (sets : List (List ℕ)) → is_mixed wanted l.start ≡ true → list_any (λ x. not (x == l.start)) starts ≡ true → Fails (leaf_faults unit starts l sets) (settled_leaf unit arrival wanted l sets)
  unfolding settled_leaf
  leaf_broken wanted starts l sets h g = rw (h, g) (record { fault = Mixed; left = l.left }, fault_if (nat_lt PEAK (l.v * unit)) TooRich l.left ++ (set_faults l.set_left l.nodes sets ++ fault_if (l.linear && not (l.v * unit % l.k == 0)) Uneven l.value_left), refl, refl)

  mutual
    broken : (wanted : Option ℕ) (starts : List ℕ) (p : Phrase) (sets : List (List ℕ)) → HasParts p → is_mixed wanted (first_start p) ≡ true → list_any (λ x. not (x == first_start p)) starts ≡ true → Fails (all_faults unit starts p sets) (settled unit arrival wanted p sets)
    broken wanted starts (asked l) sets parts h g = fails_made one (leaf_faults unit starts l sets) (settled_leaf unit arrival wanted l sets) (leaf_broken wanted starts l sets h g)
    broken wanted starts (joined op left ps) sets parts h g =
        fails_after_test (nat_lt PEAK (peak_joined op (peaks_of unit ps))) TooRich left (faults_of_all unit (starts_below op starts (first_start_of ps)) ps sets) (made_of (λ ts. join op (row ts)) (settled_all unit arrival (wanted_below op wanted (first_start_of ps)) ps sets))
        (fails_made (λ ts. join op (row ts)) (faults_of_all unit (starts_below op starts (first_start_of ps)) ps sets) (settled_all unit arrival (wanted_below op wanted (first_start_of ps)) ps sets) (all_broken (wanted_below op wanted (first_start_of ps)) (starts_below op starts (first_start_of ps)) ps sets parts.0 parts.1 (below_mixed op wanted (first_start_of ps) h) (starts_mixed op starts (first_start_of ps) g)))
    broken wanted starts (scaled left p s) sets parts h g =
        fails_after_test (nat_lt PEAK (s * peak_of unit p)) TooRich left (all_faults unit starts p sets) (made_of (λ t. scale t s) (settled unit arrival wanted p sets)) (fails_made (λ t. scale t s) (all_faults unit starts p sets) (settled unit arrival wanted p sets) (broken wanted starts p sets parts h g))
    broken wanted starts (barred left p v) sets parts h g =
        fails_after_test (nat_lt PEAK (max (v * unit) (peak_of unit p))) TooRich left (all_faults unit starts p sets) (made_of (λ t. barrier t (v * unit)) (settled unit arrival wanted p sets)) (fails_made (λ t. barrier t (v * unit)) (all_faults unit starts p sets) (settled unit arrival wanted p sets) (broken wanted starts p sets parts h g))

    all_broken : (wanted : Option ℕ) (starts : List ℕ) (ps : Phrases) (sets : List (List ℕ)) → HasPart ps → HaveParts ps → is_mixed wanted (first_start_of ps) ≡ true → list_any (λ x. not (x == first_start_of ps)) starts ≡ true → Fails (faults_of_all unit starts ps sets) (settled_all unit arrival wanted ps sets)
    all_broken wanted starts nothing sets some parts h g = absurd some
    all_broken wanted starts (followed p ps) sets some parts h g =
        fails_first (λ first. made_of (λ ts. first.0 ∷ ts) (settled_all unit arrival wanted ps first.1)) (all_faults unit starts p sets) (faults_of_all unit starts ps (sets_past unit p sets)) (settled unit arrival wanted p sets) (broken wanted starts p sets parts.0 h g)

  value_met : (l : LeafText) (x : ℕ × List (List ℕ)) → IsFirstOf (fault_if (l.linear && not (l.v * unit % l.k == 0)) Uneven l.value_left) (settled_value unit arrival l x)
  value_met l x = only_test (l.linear && not (l.v * unit % l.k == 0)) Uneven l.value_left (leaf_with unit arrival x.0 l, x.1)

  leaf_met : (wanted : Option ℕ) (starts : List ℕ) (l : LeafText) (sets : List (List ℕ)) → Agrees wanted starts → IsFirstOf (leaf_faults unit starts l sets) (settled_leaf unit arrival wanted l sets)
  unfolding settled_leaf
  leaf_met wanted starts l sets h =
      let value = fault_if (l.linear && not (l.v * unit % l.k == 0)) Uneven l.value_left in
      let later = fault_if (nat_lt PEAK (l.v * unit)) TooRich l.left ++ (set_faults l.set_left l.nodes sets ++ value) in
      let found = settled_set l.set_left l.nodes sets >>= settled_value unit arrival l in
      subst (λ b. IsFirstOf (fault_if b Mixed l.left ++ later) (if is_mixed wanted l.start then at Mixed l.left else unless_rich (l.v * unit) l.left found)) (h l.start)
      (after_test (is_mixed wanted l.start) Mixed l.left later (unless_rich (l.v * unit) l.left found)
      (after_test (nat_lt PEAK (l.v * unit)) TooRich l.left (set_faults l.set_left l.nodes sets ++ value) found
      (after_step (settled_value unit arrival l) (set_faults l.set_left l.nodes sets) value (settled_set l.set_left l.nodes sets) (set_met l.set_left l.nodes sets) (λ x e. value_met l x))))

  leaf_sets : (wanted : Option ℕ) (l : LeafText) (sets : List (List ℕ)) (x : Leaf × List (List ℕ)) → settled_leaf unit arrival wanted l sets ≡ Ok x → x.1 ≡ sets_behind l.nodes sets
  unfolding settled_leaf
  leaf_sets wanted l sets x h =
      let p = passed (is_mixed wanted l.start) (record { fault = Mixed; left = l.left }) (unless_rich (l.v * unit) l.left (settled_set l.set_left l.nodes sets >>= settled_value unit arrival l)) x h in
      let q = not_rich (l.v * unit) l.left (settled_set l.set_left l.nodes sets >>= settled_value unit arrival l) x p.1 in
      let r = both (settled_set l.set_left l.nodes sets) (settled_value unit arrival l) x q.1 in
      let s = passed (l.linear && not (l.v * unit % l.k == 0)) (record { fault = Uneven; left = l.value_left }) (Ok (leaf_with unit arrival r.0.0 l, r.0.1)) x r.2 in
      let found = set_found l.set_left l.nodes sets r.0 r.1 in
      let same : (leaf_with unit arrival r.0.0 l, r.0.1) ≡ x = same_ok (leaf_with unit arrival r.0.0 l, r.0.1) x s.1 in
      ap (λ (y : Leaf × List (List ℕ)). y.1) (sym same) ∙ sym (ap (λ o. sets_behind o sets) found.1 ∙ ap (λ o. sets_with o sets) found.2)

  mutual
    past : (wanted : Option ℕ) (p : Phrase) (sets : List (List ℕ)) (x : Tree × List (List ℕ)) → settled unit arrival wanted p sets ≡ Ok x → x.1 ≡ sets_past unit p sets
    past wanted (asked l) sets x h = let m = made one (settled_leaf unit arrival wanted l sets) x h in ap (λ (y : Tree × List (List ℕ)). y.1) (sym m.2) ∙ leaf_sets wanted l sets m.0 m.1
    past wanted (joined op left ps) sets x h =
        let q = not_rich (peak_joined op (peaks_of unit ps)) left (made_of (λ ts. join op (row ts)) (settled_all unit arrival (wanted_below op wanted (first_start_of ps)) ps sets)) x h in
        let m = made (λ ts. join op (row ts)) (settled_all unit arrival (wanted_below op wanted (first_start_of ps)) ps sets) x q.1 in
        ap (λ (y : Tree × List (List ℕ)). y.1) (sym m.2) ∙ past_all (wanted_below op wanted (first_start_of ps)) ps sets m.0 m.1
    past wanted (scaled left p s) sets x h =
        let q = not_rich (s * peak_of unit p) left (made_of (λ t. scale t s) (settled unit arrival wanted p sets)) x h in
        let m = made (λ t. scale t s) (settled unit arrival wanted p sets) x q.1 in
        ap (λ (y : Tree × List (List ℕ)). y.1) (sym m.2) ∙ past wanted p sets m.0 m.1
    past wanted (barred left p v) sets x h =
        let q = not_rich (max (v * unit) (peak_of unit p)) left (made_of (λ t. barrier t (v * unit)) (settled unit arrival wanted p sets)) x h in
        let m = made (λ t. barrier t (v * unit)) (settled unit arrival wanted p sets) x q.1 in
        ap (λ (y : Tree × List (List ℕ)). y.1) (sym m.2) ∙ past wanted p sets m.0 m.1

    past_all : (wanted : Option ℕ) (ps : Phrases) (sets : List (List ℕ)) (x : List Tree × List (List ℕ)) → settled_all unit arrival wanted ps sets ≡ Ok x → x.1 ≡ sets_past_all unit ps sets
    past_all wanted nothing sets x h = ap (λ (y : List Tree × List (List ℕ)). y.1) (sym (same_ok ([], sets) x h))
    past_all wanted (followed p ps) sets x h =
        let b = both (settled unit arrival wanted p sets) (λ first. made_of (λ ts. first.0 ∷ ts) (settled_all unit arrival wanted ps first.1)) x h in
        let m = made (λ ts. b.0.0 ∷ ts) (settled_all unit arrival wanted ps b.0.1) x b.2 in
        ap (λ (y : List Tree × List (List ℕ)). y.1) (sym m.2) ∙ past_all wanted ps b.0.1 m.0 m.1 ∙ ap (sets_past_all unit ps) (past wanted p sets b.0 b.1)

  mutual
    met : (wanted : Option ℕ) (starts : List ℕ) (p : Phrase) (sets : List (List ℕ)) → HasParts p → Agrees wanted starts → IsFirstOf (all_faults unit starts p sets) (settled unit arrival wanted p sets)
    met wanted starts (asked l) sets parts h = after_made one (leaf_faults unit starts l sets) (settled_leaf unit arrival wanted l sets) (leaf_met wanted starts l sets h)
    met wanted starts (joined op left ps) sets parts h = by_mixed (is_mixed wanted (first_start_of ps)) refl (λ e. all_met (wanted_below op wanted (first_start_of ps)) (starts_below op starts (first_start_of ps)) ps sets parts.1 (agrees_below op wanted starts (first_start_of ps) h e))
      where
        by_mixed : (b : Bool) → is_mixed wanted (first_start_of ps) ≡ b
            → (is_mixed wanted (first_start_of ps) ≡ false → IsFirstOf (faults_of_all unit (starts_below op starts (first_start_of ps)) ps sets) (settled_all unit arrival (wanted_below op wanted (first_start_of ps)) ps sets))
            → IsFirstOf (all_faults unit starts (joined op left ps) sets) (settled unit arrival wanted (joined op left ps) sets)
        by_mixed true e further = first_fails (all_faults unit starts (joined op left ps) sets) (settled unit arrival wanted (joined op left ps) sets) (broken wanted starts (joined op left ps) sets parts e (sym (h (first_start_of ps)) ∙ e))
        by_mixed false e further =
            after_test (nat_lt PEAK (peak_joined op (peaks_of unit ps))) TooRich left (faults_of_all unit (starts_below op starts (first_start_of ps)) ps sets) (made_of (λ ts. join op (row ts)) (settled_all unit arrival (wanted_below op wanted (first_start_of ps)) ps sets))
            (after_made (λ ts. join op (row ts)) (faults_of_all unit (starts_below op starts (first_start_of ps)) ps sets) (settled_all unit arrival (wanted_below op wanted (first_start_of ps)) ps sets) (further e))
    met wanted starts (scaled left p s) sets parts h =
        after_test (nat_lt PEAK (s * peak_of unit p)) TooRich left (all_faults unit starts p sets) (made_of (λ t. scale t s) (settled unit arrival wanted p sets)) (after_made (λ t. scale t s) (all_faults unit starts p sets) (settled unit arrival wanted p sets) (met wanted starts p sets parts h))
    met wanted starts (barred left p v) sets parts h =
        after_test (nat_lt PEAK (max (v * unit) (peak_of unit p))) TooRich left (all_faults unit starts p sets) (made_of (λ t. barrier t (v * unit)) (settled unit arrival wanted p sets)) (after_made (λ t. barrier t (v * unit)) (all_faults unit starts p sets) (settled unit arrival wanted p sets) (met wanted starts p sets parts h))

    all_met : (wanted : Option ℕ) (starts : List ℕ) (ps : Phrases) (sets : List (List ℕ)) → HaveParts ps → Agrees wanted starts → IsFirstOf (faults_of_all unit starts ps sets) (settled_all unit arrival wanted ps sets)
    all_met wanted starts nothing sets parts h = tt
    all_met wanted starts (followed p ps) sets parts h =
        after_step (λ first. made_of (λ ts. first.0 ∷ ts) (settled_all unit arrival wanted ps first.1)) (all_faults unit starts p sets) (faults_of_all unit starts ps (sets_past unit p sets)) (settled unit arrival wanted p sets) (met wanted starts p sets parts.0 h)
        (λ x e. subst (λ held. IsFirstOf (faults_of_all unit starts ps held) (made_of (λ ts. x.0 ∷ ts) (settled_all unit arrival wanted ps x.1))) (past wanted p sets x e) (after_made (λ ts. x.0 ∷ ts) (faults_of_all unit starts ps x.1) (settled_all unit arrival wanted ps x.1) (all_met wanted starts ps x.1 parts.1 h)))

  pub first_met : (p : Phrase) (sets : List (List ℕ)) → HasParts p → IsFirstOf (all_faults unit [] p sets) (settled unit arrival None p sets)
  first_met p sets parts = met None [] p sets parts (λ s. refl)

-- what is spelled has parts
line_has : (p : Phrase) (ps : List Phrase) → HasPart (line_up (p ∷ ps))
line_has p ps = tt

module _ {S : Type 0} (item : S → Result (Phrase × S) Miss) (goes_on : S → Result (Bool × S) Miss) (each : (s : S) (x : Phrase × S) → item s ≡ Ok x → HasParts x.0) where
  row_has : (n : ℕ) (s : S) (x : List Phrase × S) → row_at item goes_on n s ≡ Ok x → HasPart (line_up x.0) × HaveParts (line_up x.0)
  unfolding row_at
  row_has zero s x h = absurd (cc)
  row_has (suc n) s x h =
      let a = both (item s) (λ first. goes_on first.1 >>= λ next. if next.0 then (row_at item goes_on n next.1 >>= λ others. Ok (first.0 ∷ others.0, others.1)) else Ok (first.0 ∷ [], next.1)) x h in
      let b = both (goes_on a.0.1) (λ next. if next.0 then (row_at item goes_on n next.1 >>= λ others. Ok (a.0.0 ∷ others.0, others.1)) else Ok (a.0.0 ∷ [], next.1)) x a.2 in
      by_next a.0.0 b.0.0 b.0.1 (each s a.0 a.1) b.2 (λ y g. row_has n b.0.1 y g)
    where
      by_next : (p : Phrase) (more : Bool) (t : S) → HasParts p → (if more then (row_at item goes_on n t >>= λ others. Ok (p ∷ others.0, others.1)) else Ok (p ∷ [], t)) ≡ Ok x → ((y : List Phrase × S) → row_at item goes_on n t ≡ Ok y → HasPart (line_up y.0) × HaveParts (line_up y.0)) → HasPart (line_up x.0) × HaveParts (line_up x.0)
      by_next p true t first g ih =
          let c = both (row_at item goes_on n t) (λ others. Ok (p ∷ others.0, others.1)) x g in
          subst (λ (z : List Phrase × S). HasPart (line_up z.0) × HaveParts (line_up z.0)) (same_ok (p ∷ c.0.0, c.0.1) x c.2) (tt, (first, (ih c.0 c.1).1))
      by_next p false t first g ih = subst (λ (z : List Phrase × S). HasPart (line_up z.0) × HaveParts (line_up z.0)) (same_ok (p ∷ [], t) x g) (tt, (first, tt))

module _ (cluster : List NodeText) where
  part_has : (child : Rest → Result (Phrase × Rest) Miss) (taken : ℕ) (text : List ℕ) (x : (Phrase × ℕ) × Rest) → ((s : Rest) (y : Phrase × Rest) → child s ≡ Ok y → HasParts y.0) → part_with_number cluster child taken text ≡ Ok x → HasParts x.0.0
  unfolding part_with_number
  part_has child taken text x each h =
      let a = both (mark_at 40 text) (λ inner. child (taken, inner) >>= λ part. mark_at 44 part.1.1 >>= λ comma. number_at 0 PEAK comma >>= λ number. mark_at 41 number.1 >>= λ close. Ok ((part.0, number.0), (part.1.0, close))) x h in
      let b = both (child (taken, a.0)) (λ part. mark_at 44 part.1.1 >>= λ comma. number_at 0 PEAK comma >>= λ number. mark_at 41 number.1 >>= λ close. Ok ((part.0, number.0), (part.1.0, close))) x a.2 in
      let c = both (mark_at 44 b.0.1.1) (λ comma. number_at 0 PEAK comma >>= λ number. mark_at 41 number.1 >>= λ close. Ok ((b.0.0, number.0), (b.0.1.0, close))) x b.2 in
      let d = both (number_at 0 PEAK c.0) (λ number. mark_at 41 number.1 >>= λ close. Ok ((b.0.0, number.0), (b.0.1.0, close))) x c.2 in
      let e = both (mark_at 41 d.0.1) (λ close. Ok ((b.0.0, d.0.0), (b.0.1.0, close))) x d.2 in
      subst (λ (y : (Phrase × ℕ) × Rest). HasParts y.0.0) (same_ok ((b.0.0, d.0.0), (b.0.1.0, e.0)) x e.2) (each (taken, a.0) b.0 b.1)

  body_has : (child : Rest → Result (Phrase × Rest) Miss) (w : Word) (left taken : ℕ) (text : List ℕ) (x : Phrase × Rest) → ((s : Rest) (y : Phrase × Rest) → child s ≡ Ok y → HasParts y.0) → body_at cluster child w left taken text ≡ Ok x → HasParts x.0
  unfolding body_at children_at
  body_has child (word.Leaf linear) left taken text x each h =
      let p = passed (nat_le 128 taken) (record { fault = TooManyLeaves; left = left }) (leaf_at cluster linear taken left text >>= λ leaf. Ok (asked leaf.0, (taken + 1, leaf.1))) x h in
      let a = both (leaf_at cluster linear taken left text) (λ leaf. Ok (asked leaf.0, (taken + 1, leaf.1))) x p.1 in
      subst (λ (y : Phrase × Rest). HasParts y.0) (same_ok (asked a.0.0, (taken + 1, a.0.1)) x a.2) tt
  body_has child (word.Join j) left taken text x each h =
      let a = both (mark_at 40 text >>= λ inner. row_at child (goes_on_to_child cluster) (length inner) (taken, inner)) (λ parts. Ok (joined (operator j) left (line_up parts.0), parts.1)) x h in
      let b = both (mark_at 40 text) (λ inner. row_at child (goes_on_to_child cluster) (length inner) (taken, inner)) a.0 a.1 in
      subst (λ (y : Phrase × Rest). HasParts y.0) (same_ok (joined (operator j) left (line_up a.0.0), a.0.1) x a.2) (row_has child (goes_on_to_child cluster) each (length b.0) (taken, b.0) a.0 b.2)
  body_has child word.Scale left taken text x each h =
      let a = both (part_with_number cluster child taken text) (λ part. Ok (scaled left part.0.0 part.0.1, part.1)) x h in
      subst (λ (y : Phrase × Rest). HasParts y.0) (same_ok (scaled left a.0.0.0 a.0.0.1, a.0.1) x a.2) (part_has child taken text a.0 each a.1)
  body_has child word.Barrier left taken text x each h =
      let a = both (part_with_number cluster child taken text) (λ part. Ok (barred left part.0.0 part.0.1, part.1)) x h in
      subst (λ (y : Phrase × Rest). HasParts y.0) (same_ok (barred left a.0.0.0 a.0.0.1, a.0.1) x a.2) (part_has child taken text a.0 each a.1)

  expr_has : (levels : ℕ) (s : Rest) (x : Phrase × Rest) → expr_at cluster levels s ≡ Ok x → HasParts x.0
  unfolding expr_at
  expr_has zero s x h = let a = both (word_at (skip_blanks s.1)) (λ w. Err (missed TooDeep (skip_blanks s.1))) x h in absurd (cc)
  expr_has (suc levels) s x h =
      let a = both (word_at (skip_blanks s.1)) (λ w. body_at cluster (expr_at cluster levels) w.0 (length (skip_blanks s.1)) s.0 w.1) x h in
      body_has (expr_at cluster levels) a.0.0 (length (skip_blanks s.1)) s.0 a.0.1 x (λ t y. expr_has levels t y) a.2

  whole_has : (text : List ℕ) (p : Phrase) → whole_at cluster text ≡ Ok p → HasParts p
  unfolding whole_at
  whole_has text p h =
      let a = both (expr_at cluster 64 (0, text)) (λ made. if length (skip_blanks made.1.1) == 0 then Ok made.0 else Err (missed Trailing (skip_blanks made.1.1))) p h in
      by_end (length (skip_blanks a.0.1.1) == 0) a.0.0 (missed Trailing (skip_blanks a.0.1.1)) (expr_has 64 (0, text) a.0 a.1) a.2
    where
      by_end : (b : Bool) (q : Phrase) (m : Miss) → HasParts q → (if b then Ok q else Err m) ≡ Ok p → HasParts p
      by_end true q m has g = subst HasParts (same_ok q p g) has
      by_end false q m has g = absurd (cc)

  -- the fault that is met behind the first pass is the first of all
  pub whole_met : (unit arrival : ℕ) (text : List ℕ) (sets : List (List ℕ)) → MeetsFirst text unit arrival cluster sets
  whole_met unit arrival text sets = by_pass (whole_at cluster text) (λ p h. whole_has text p h)
    where
      by_pass : (r : Result Phrase Miss) → ((p : Phrase) → r ≡ Ok p → HasParts p) → IfOk r (λ p. IsFirstOf (all_faults unit [] p sets) (settled unit arrival None p sets))
      by_pass (Ok p) has = first_met unit arrival p sets (has p refl)
      by_pass (Err m) has = tt
