-- What each option of an ask is.
use Rattle.std.proofs.Common.{◌≡◌, ℕ, ◌+◌, ◌-◌, ◌*◌, ◌/◌, ◌%◌, ◌≤◌, ◌<◌, Bool, true, false, cond, IsTrue, [], ◌∷◌, Option, Some, None, refl, subst, arith, inl, inr, le_trans}
use Rattle.std.specs.Prelude.{nat_le, IfSome, IsSomeAnd}
use Rattle.std.proofs.Math.Nat.{div-le_of_le-mul, div-mul-le_self, mul-le-mul_left, mul-le-mul_right, mul-mod_left, mul_comm}
use Rattle.std.proofs.lemmas.Nat.{le-div}
use Rattle.std.proofs.lemmas.Bool.Decides.{nat_tests}
use Rattle.tetri_base.specs.Lists.{Each}
use Rattle.tetri_base.proofs.ListLaws.{Each-append}
use Rattle.tetri_strl.specs.declared.expr.Leaf.{Leaf}
use Rattle.tetri_strl.specs.WellMade.{IsGoodLeaf, PEAK}
use Rattle.tetri_request.specs.declared.ask.Ask.{Ask}
use Rattle.tetri_request.specs.declared.ask.Class.{Class}
use Rattle.tetri_request.specs.declared.ask.Class.TheVariants.{Steady, Decay}
use Rattle.tetri_request.specs.declared.ask.Prefer.{Prefer}
use Rattle.tetri_request.specs.Options.{IsSoundAsk, IsSoundPrefer, IsSetOf, end_of, class_worth, option_worth, option_on, preferred, options_at}

-- ---- worths
pub div_le_div : (m n k : ℕ) → 0 < k → m ≤ n → m / k ≤ n / k
div_le_div m n k pos le = le-div (m / k) n k pos (le_trans (div-mul-le_self m k) le)

-- what ends later is worth no more
pub class_falls : (c : Class) (value deadline e f : ℕ) → 1 ≤ deadline → e ≤ f → class_worth c value deadline f ≤ class_worth c value deadline e
class_falls Steady value deadline e f some le = omega arith
class_falls Decay value deadline e f some le =
    let fewer : deadline - f + 1 ≤ deadline - e + 1 = omega arith in
    div_le_div (value * (deadline - f + 1)) (value * (deadline - e + 1)) deadline (omega arith) (mul-le-mul_left value fewer)

pub class_within : (c : Class) (value deadline e : ℕ) → 1 ≤ e → e ≤ deadline → class_worth c value deadline e ≤ value
class_within Steady value deadline e some le = omega arith
class_within Decay value deadline e some le =
    let fewer : deadline - e + 1 ≤ deadline = omega arith in
    div-le_of_le-mul deadline (subst (λ n. value * (deadline - e + 1) ≤ n) (mul_comm value deadline) (mul-le-mul_left value fewer))

module _ (a : Ask) (sound : IsSoundAsk a) where
  pub worth_falls : (e f : ℕ) → e ≤ f → option_worth a f ≤ option_worth a e
  worth_falls e f le = by_kind a.elastic
    where
      fall : class_worth a.class a.value a.deadline f ≤ class_worth a.class a.value a.deadline e
      fall = class_falls a.class a.value a.deadline e f sound.some_time le

      by_kind : (b : Bool) →
          cond b (class_worth a.class a.value a.deadline f / a.k * a.k) (class_worth a.class a.value a.deadline f)
          ≤ cond b (class_worth a.class a.value a.deadline e / a.k * a.k) (class_worth a.class a.value a.deadline e)
      by_kind true = mul-le-mul_right a.k (div_le_div _ _ a.k (omega (arith, sound.some_nodes)) fall)
      by_kind false = fall

  pub worth_within : (e : ℕ) → 1 ≤ e → e ≤ a.deadline → option_worth a e ≤ PEAK
  worth_within e some le = by_kind a.elastic
    where
      most : class_worth a.class a.value a.deadline e ≤ PEAK
      most = le_trans (class_within a.class a.value a.deadline e some le) sound.worth

      by_kind : (b : Bool) → cond b (class_worth a.class a.value a.deadline e / a.k * a.k) (class_worth a.class a.value a.deadline e) ≤ PEAK
      by_kind true = le_trans (div-mul-le_self _ a.k) most
      by_kind false = most

-- ---- options
-- what an option that starts then keeps, with a number of its start
pub record IsOption (a : Ask) (arrival start : ℕ) (l : Leaf) : Type 0 where
  pub good : IsGoodLeaf l
  pub worth : l.v ≤ PEAK
  pub named : IsSetOf a l.set
  pub starts : l.start ≡ start
  pub from : 2 * (start - arrival) ≤ l.num
  pub to : l.num ≤ 2 * (start - arrival) + 1

each_if : (P : Leaf → Type 0) (b : Bool) (l : Leaf) → (b ≡ true → P l) → Each P (cond b (l ∷ []) [])
each_if P true l f = (f refl, tt)
each_if P false l f = tt

rounded : (b : Bool) (w k : ℕ) → IsTrue b → cond b (w / k * k) w % k ≡ 0
rounded true w k h = mul-mod_left (w / k) k
rounded false w k h = absurd (cc)

module _ (a : Ask) (arrival start : ℕ) (sound : IsSoundAsk a) (arrived : arrival ≤ start) (early : start ≤ 20000) where
  one_option : (num set dur : ℕ) → IsSetOf a set → 1 ≤ dur → dur ≤ 10000 → 2 * (start - arrival) ≤ num → num ≤ 2 * (start - arrival) + 1 →
      Each (IsOption a arrival start) (option_on a arrival start num set dur)
  one_option num set dur named some few from to = each_if (IsOption a arrival start) (nat_le (end_of arrival start dur) a.deadline) _ (λ test.
      let in_time : start + dur - arrival ≤ a.deadline = grind (arith, nat_tests, test) in
      let later : 1 ≤ start + dur - arrival = omega arith in
      record {
        good = record {
          some_nodes = sound.some_nodes;
          few_nodes = sound.few_nodes;
          within = early;
          some_slots = some;
          few_slots = few;
          whole = rounded a.elastic (class_worth a.class a.value a.deadline (end_of arrival start dur)) a.k;
        };
        worth = worth_within a sound (end_of arrival start dur) later in_time;
        named = named;
        starts = refl;
        from = from;
        to = to;
      })

  preferred_option : (o : Option Prefer) → IfSome o IsSoundPrefer → IfSome o (λ p. IsSetOf a p.set) →
      Each (IsOption a arrival start) (preferred a arrival start (2 * (start - arrival)) o)
  preferred_option None good named = tt
  preferred_option (Some p) good named = one_option (2 * (start - arrival)) p.set p.dur named good.some_slots good.few_slots (omega arith) (omega arith)

  prefers : (o : Option Prefer) → o ≡ a.prefer → IfSome o (λ p. IsSetOf a p.set)
  prefers None e = tt
  prefers (Some p) e = inr (subst (λ o. IsSomeAnd o (λ q. p.set ≡ q.set)) e refl)

  pub options_are : Each (IsOption a arrival start) (options_at a arrival start)
  options_are = Each-append (IsOption a arrival start) (preferred a arrival start (2 * (start - arrival)) a.prefer) _
      (preferred_option a.prefer sound.prefer (prefers a.prefer refl))
      (one_option (2 * (start - arrival) + 1) a.set a.dur (inl refl) sound.some_slots sound.few_slots (omega arith) (omega arith))
