-- The plans of the parts of an instance, together.
use Rattle.std.proofs.Common.{◌≡◌, ℕ, ◌+◌, ◌<◌, ◌≤◌, List, [], ◌∷◌, ◌++◌, length, map, get_or, take, All, AllPairs, refl, sym, ap, ◌∙◌, subst, arith, sum}
use Rattle.std.specs.Prelude.{flat_map, if◌then◌else◌, ◌==◌}
use Rattle.std.specs.List.{AllZip}
use Rattle.std.proofs.lemmas.Grind.{flat_map-append}
use Rattle.std.proofs.lemmas.List.{append-nil, length-map, map-append, take_all, take_more}
use Rattle.std.proofs.lemmas.List.Elements.{All-head, All-nil, All-push, All-tail}
use Rattle.std.proofs.lemmas.List.Sums.{sum_by-append, sum_by-cons}
use Rattle.tetri_base.specs.Order.{in_order}
use Rattle.tetri_strl.specs.declared.grants.Grant.{Grant}
use Rattle.tetri_space.specs.GrantOrder.{ComesBefore, comes_first}
use Rattle.tetri_space.specs.Lawful.{IsLawful}
use Rattle.tetri_space.specs.Sound.{IsSound}
use Rattle.tetri_space.specs.Space.{Space}
use Rattle.tetri_space.specs.Total.{total_in}
use Rattle.tetri_space.specs.Trimmed.{IsThriftyForAll}
use Rattle.tetri_split.specs.Parts.{ArePartsOf, BoundsPart, IsLawfulForPart, IsThriftyForPart, in_a_row, total_by_parts}
use Rattle.tetri_trace.specs.Scenario.{Scenario}
use Rattle.tetri_commands.specs.PartsCycle.{ArePlansByPart, IsPlanOfPart, PartPlan, bound_of, grants_by_part, jobs_by_part, optimal_count, value_of}
use Rattle.tetri_commands.specs.PartsReady.{ArePartsReady, IsPartReady}
use Rattle.tetri_commands.specs.PartsText.{part_text, parts_line}
use Rattle.tetri_commands.specs.declared.planning.PartLines.{PartLines}

module _ (i : Space) (carry : List Grant) (budget : ℕ) where
  pub lawful_by_part : (ps : List PartPlan) → All (IsPlanOfPart i carry budget) ps → AllZip (IsLawfulForPart i) (jobs_by_part ps) (grants_by_part ps)
  lawful_by_part [] plans = tt
  lawful_by_part (p ∷ ps) plans =
      ((All-head (IsPlanOfPart i carry budget) p ps plans).good.honest.lawful, lawful_by_part ps (All-tail (IsPlanOfPart i carry budget) p ps plans))

  pub thrifty_by_part : (ps : List PartPlan) → All (IsPlanOfPart i carry budget) ps → AllZip (IsThriftyForPart i) (jobs_by_part ps) (grants_by_part ps)
  thrifty_by_part [] plans = tt
  thrifty_by_part (p ∷ ps) plans =
      ((All-head (IsPlanOfPart i carry budget) p ps plans).good.honest.thrifty, thrifty_by_part ps (All-tail (IsPlanOfPart i carry budget) p ps plans))

  pub bounds_by_part : (ps : List PartPlan) → All (IsPlanOfPart i carry budget) ps → AllZip (BoundsPart i) (jobs_by_part ps) (map (λ p. p.plan.bound) ps)
  bounds_by_part [] plans = tt
  bounds_by_part (p ∷ ps) plans =
      ((All-head (IsPlanOfPart i carry budget) p ps plans).good.bounded, bounds_by_part ps (All-tail (IsPlanOfPart i carry budget) p ps plans))

  -- what the grants of all parts are worth by parts is the sum of the values
  pub total_is_value : (ps : List PartPlan) → All (IsPlanOfPart i carry budget) ps → total_by_parts i (jobs_by_part ps) (grants_by_part ps) ≡ value_of ps
  total_is_value [] plans = refl
  total_is_value (p ∷ ps) plans =
      omega (
        arith,
        (All-head (IsPlanOfPart i carry budget) p ps plans).good.honest.attained,
        total_is_value ps (All-tail (IsPlanOfPart i carry budget) p ps plans),
        sum_by-cons (λ (n : ℕ). n) p.plan.value (map (λ q. q.plan.value) ps),
      )

-- a sum over one part more
sum_more : (f : PartPlan → ℕ) (ps : List PartPlan) (p : PartPlan) → sum (map f (ps ++ p ∷ [])) ≡ sum (map f ps) + f p
sum_more f ps p =
    ap sum (map-append f ps (p ∷ [])) ∙ omega (arith, sum_by-append (λ (n : ℕ). n) (map f ps) (f p ∷ []), sum_by-cons (λ (n : ℕ). n) (f p) [])

-- before the first part
pub no_parts : (t : Scenario) (i : Space) (carry : List Grant) → ArePartsReady t i carry [] [] [] 0 0
no_parts t i carry = record {
  parts = [];
  are_of = refl;
  plans = All-nil (IsPlanOfPart i carry t.header.budget);
  text_is = refl;
  grants_are = refl;
  value_is = refl;
  bound_is = refl;
}

-- a part more is ready
pub one_more_part : (t : Scenario) (i : Space) (carry : List Grant) (parts : List (List ℕ)) (k : ℕ) (text : List ℕ) (grants : List (List Grant)) (value bound : ℕ) (r : PartLines)
    (new_text : List ℕ) (new_grants : List (List Grant)) (new_value new_bound : ℕ) →
    k < length parts → ArePartsReady t i carry (take k parts) text grants value bound → IsPartReady t i carry (get_or parts k []) r →
    new_text ≡ text ++ r.text.items → new_grants ≡ grants ++ r.grants ∷ [] → new_value ≡ value + r.value → new_bound ≡ bound + r.bound →
    ArePartsReady t i carry (take (k + 1) parts) new_text new_grants new_value new_bound
one_more_part t i carry parts k text grants value bound r new_text new_grants new_value new_bound within done ready texts lists values bounds =
    let ps = done.parts in
    let p = ready.part in
    record {
      parts = ps ++ p ∷ [];
      are_of = map-append (λ (q : PartPlan). q.jobs) ps (p ∷ []) ∙ ap (λ l. l ++ p.jobs ∷ []) done.are_of ∙ ap (λ j. take k parts ++ j ∷ []) ready.is_of ∙ sym (take_more parts k [] within);
      plans = All-push (IsPlanOfPart i carry t.header.budget) ps p done.plans ready.plan;
      text_is = texts ∙ ap (λ l. l ++ r.text.items) done.text_is ∙ ap (λ l. flat_map (part_text t) ps ++ l) (ready.text ∙ sym (append-nil (part_text t p)))
          ∙ sym (flat_map-append (part_text t) ps (p ∷ []));
      grants_are = lists ∙ ap (λ l. l ++ r.grants ∷ []) done.grants_are ∙ ap (λ g. grants_by_part ps ++ g ∷ []) ready.grants
          ∙ sym (map-append (λ (q : PartPlan). q.plan.grants) ps (p ∷ []));
      value_is = omega (arith, values, done.value_is, ready.value, sum_more (λ q. q.plan.value) ps p);
      bound_is = omega (arith, bounds, done.bound_is, ready.bound, sum_more (λ q. q.plan.bound) ps p);
    }

-- all parts are ready
pub all_parts : (t : Scenario) (i : Space) (carry : List Grant) (parts : List (List ℕ)) (k : ℕ) (text : List ℕ) (grants : List (List Grant)) (value bound : ℕ) →
    length parts ≤ k → ArePartsReady t i carry (take k parts) text grants value bound → ArePartsReady t i carry parts text grants value bound
all_parts t i carry parts k text grants value bound past done = subst (λ ps. ArePartsReady t i carry ps text grants value bound) (take_all k parts past) done

-- the plans of all parts, joined
pub joined_plans : (t : Scenario) (i : Space) (carry : List Grant) (parts : List (List ℕ)) (text : List ℕ) (lists : List (List Grant)) (value bound : ℕ) (grants : List Grant) →
    IsSound i → ArePartsOf i parts → (done : ArePartsReady t i carry parts text lists value bound) → grants ≡ in_order comes_first (in_a_row lists) →
    ((s : Space) (ps : List (List ℕ)) → IsSound s → ArePartsOf s ps → AllZip (IsLawfulForPart s) ps lists → IsLawful s grants × AllPairs ComesBefore grants) →
    ((s : Space) (ps : List (List ℕ)) → IsSound s → ArePartsOf s ps → AllZip (IsLawfulForPart s) ps lists → total_in s grants ≡ total_by_parts s ps lists) →
    ((s : Space) (ps : List (List ℕ)) → IsSound s → ArePartsOf s ps → AllZip (IsLawfulForPart s) ps lists → AllZip (IsThriftyForPart s) ps lists → IsThriftyForAll s grants) →
    ((bounds : List ℕ) → AllZip (BoundsPart i) parts bounds → (a : List Grant) → IsLawful i a → total_in i a ≤ sum bounds) →
    ArePlansByPart i carry t.header.budget done.parts grants
joined_plans t i carry parts text lists value bound grants sound are done joined lawful total thrifty bounded =
    let budget = t.header.budget in
    let ps = done.parts in
    let by : AllZip (IsLawfulForPart i) parts lists =
    subst (λ l. AllZip (IsLawfulForPart i) parts l) (sym done.grants_are) (subst (λ q. AllZip (IsLawfulForPart i) q (grants_by_part ps)) done.are_of (lawful_by_part i carry budget ps done.plans)) in
    let thrift : AllZip (IsThriftyForPart i) parts lists =
    subst (λ l. AllZip (IsThriftyForPart i) parts l) (sym done.grants_are) (subst (λ q. AllZip (IsThriftyForPart i) q (grants_by_part ps)) done.are_of (thrifty_by_part i carry budget ps done.plans)) in
    record {
      are_parts = subst (ArePartsOf i) (sym done.are_of) are;
      plans = done.plans;
      joined = joined ∙ ap (λ l. in_order comes_first (in_a_row l)) done.grants_are;
      lawful = (lawful i parts sound are by).0;
      thrifty = thrifty i parts sound are by thrift;
      worth = total i parts sound are by ∙ ap (total_by_parts i parts) done.grants_are ∙ ap (λ q. total_by_parts i q (grants_by_part ps)) (sym done.are_of) ∙ total_is_value i carry budget ps done.plans;
      bounded = bounded (map (λ p. p.plan.bound) ps) (subst (λ q. AllZip (BoundsPart i) q (map (λ p. p.plan.bound) ps)) done.are_of (bounds_by_part i carry budget ps done.plans));
    }

-- the line of all parts
pub same_line : (t : Scenario) (i : Space) (carry : List Grant) (parts : List (List ℕ)) (text : List ℕ) (lists : List (List Grant)) (value bound count : ℕ) → count ≡ length parts →
    (done : ArePartsReady t i carry parts text lists value bound) → parts_line count value bound ≡ parts_line (length done.parts) (value_of done.parts) (bound_of done.parts)
same_line t i carry parts text lists value bound count is done =
    ap (λ n. parts_line n value bound) (is ∙ ap length (sym done.are_of) ∙ length-map done.parts (λ (p : PartPlan). p.jobs))
    ∙ ap (λ n. parts_line (length done.parts) n bound) done.value_is ∙ ap (parts_line (length done.parts) (value_of done.parts)) done.bound_is

-- value and bound are tested to be equal
pub is_optimal : (t : Scenario) (i : Space) (carry : List Grant) (parts : List (List ℕ)) (text : List ℕ) (lists : List (List Grant)) (value bound : ℕ) →
    (done : ArePartsReady t i carry parts text lists value bound) → (if value == bound then 1 else 0) ≡ optimal_count done.parts
is_optimal t i carry parts text lists value bound done =
    ap (λ n. if n == bound then 1 else 0) done.value_is ∙ ap (λ n. if value_of done.parts == n then 1 else 0) done.bound_is
