-- What an offer is, and what keeps from cycle to cycle.
use Rattle.std.proofs.Common.{◌≡◌, ℕ, zero, suc, ◌+◌, ◌-◌, ◌*◌, ◌≤◌, ◌<◌, Bool, true, false, cond, List, [], ◌∷◌, ◌++◌, length, map, All, AllPairs, Option, Some, None, refl, sym, ap, ◌∙◌, subst, arith, ◌≢◌}
use Rattle.std.specs.Prelude.{nat_le, IfSome}
use Rattle.std.specs.List.Sorted.{IsStrictlyIncreasing}
use Rattle.std.specs.Option.{option_map}
use Rattle.std.proofs.lemmas.List.{append_assoc, append-nil, length-append, map-append}
use Rattle.std.proofs.lemmas.List.Elements.{All-nil, All-cons}
use Rattle.std.proofs.lemmas.List.Kept.{AllPairs-cons}
use Rattle.tetri_base.specs.Lists.{Each, EachPair}
use Rattle.tetri_base.proofs.ListLaws.{Each-map, Each-append, Each-across, EachPair-append}
use Rattle.tetri_strl.specs.declared.expr.Leaf.{Leaf}
use Rattle.tetri_strl.specs.declared.expr.Expr.{Expr}
use Rattle.tetri_strl.specs.Aligned.{EachLeaf, EachLeafOf, AreAligned}
use Rattle.tetri_strl.specs.Tree.{Tree, one, row, tree, leaves_of, numbers, numbers_of}
use Rattle.tetri_strl.specs.Worth.{greatest_of}
use Rattle.tetri_strl.specs.WellMade.{IsGoodLeaf, AreSound, IsWellMade, PEAK, peaks, depth_of}
use Rattle.tetri_request.specs.declared.ask.Ask.{Ask}
use Rattle.tetri_request.specs.declared.ask.Prefer.{Prefer}
use Rattle.tetri_request.specs.Options.{IsSoundAsk, IsSetOf, end_of, option_leaf, option_on, preferred, options_at, options_between, one_of, offer}
use Rattle.tetri_request.proofs.OptionLemmas.{IsOption, options_are}

-- ---- a row of leaves
pub leaves_of_row : (ls : List Leaf) → leaves_of (row (map one ls)) ≡ ls
leaves_of_row [] = refl
leaves_of_row (l ∷ ls) = ap (λ (ms : List Leaf). l ∷ ms) (leaves_of_row ls)

pub numbers_of_row : (ls : List Leaf) → numbers_of (row (map one ls)) ≡ map (λ l. l.num) ls
numbers_of_row [] = refl
numbers_of_row (l ∷ ls) = ap (λ (ns : List ℕ). l.num ∷ ns) (numbers_of_row ls)

row_aligned : (ls : List Leaf) → AreAligned (row (map one ls))
row_aligned [] = tt
row_aligned (l ∷ ls) = (tt, row_aligned ls)

-- what an option keeps, whatever its start
abbrev pub IsPart : Ask → Leaf → Type 0
IsPart a l = IsGoodLeaf l × (l.v ≤ PEAK) × IsSetOf a l.set

row_sound : (a : Ask) (ls : List Leaf) → Each (IsPart a) ls → AreSound (row (map one ls))
row_sound a [] h = tt
row_sound a (l ∷ ls) h = ((h.0.0, h.0.1), row_sound a ls h.1)

row_peak : (a : Ask) (ls : List Leaf) → Each (IsPart a) ls → greatest_of (peaks (row (map one ls))) ≤ PEAK
row_peak a [] h = omega arith
row_peak a (l ∷ ls) h = let rest = row_peak a ls h.1 in let here = h.0.1 in omega (arith, rest, here)

row_sets : (a : Ask) (ls : List Leaf) → Each (IsPart a) ls → EachLeafOf (λ l. IsSetOf a l.set) (row (map one ls))
row_sets a [] h = tt
row_sets a (l ∷ ls) h = (h.0.2, row_sets a ls h.1)

row_depth : (ls : List Leaf) → depth_of (row (map one ls)) ≤ 1
row_depth [] = omega arith
row_depth (l ∷ ls) = let rest = row_depth ls in omega (arith, rest)

-- ---- lists
pub all_of : {X : Type 0} (P : X → Type 0) (xs : List X) → Each P xs → All P xs
all_of P [] h = All-nil P
all_of P (x ∷ xs) h = All-cons P x xs h.0 (all_of P xs h.1)

pub pairs_of : {X : Type 0} (R : X → X → Type 0) (xs : List X) → EachPair R xs → AllPairs R xs
pairs_of R [] h = λ i j d lt short. absurd (omega arith)
pairs_of R (x ∷ xs) h = AllPairs-cons R x xs (all_of (R x) xs h.0) (pairs_of R xs h.1)

abbrev pub IsBefore : Leaf → Leaf → Type 0
IsBefore l m = l.num < m.num

numbers_above : (n : ℕ) (ls : List Leaf) → Each (λ m. n < m.num) ls → Each (λ m. n < m) (map (λ (l : Leaf). l.num) ls)
numbers_above n [] h = tt
numbers_above n (l ∷ ls) h = (h.0, numbers_above n ls h.1)

numbers_rise : (ls : List Leaf) → EachPair IsBefore ls → EachPair (λ m n. m < n) (map (λ (l : Leaf). l.num) ls)
numbers_rise [] h = tt
numbers_rise (l ∷ ls) h = (numbers_above l.num ls h.0, numbers_rise ls h.1)

rising : (ns : List ℕ) → EachPair (λ m n. m < n) ns → IsStrictlyIncreasing ns
rising ns h = λ k lt. pairs_of (λ m n. m < n) ns h k (k + 1) 0 (omega arith) lt

distinct : (ls : List Leaf) → EachPair IsBefore ls → AllPairs (λ l m. l.num ≢ m.num) ls
distinct ls h = λ i j d lt short same. let less = pairs_of IsBefore ls h i j d lt short in omega (arith, less, same)

-- ---- the options of a cycle
option_short : (b : Bool) (l : Leaf) → length (cond b (l ∷ []) []) ≤ 1
option_short true l = omega arith
option_short false l = omega arith

option_rises : (b : Bool) (l : Leaf) → EachPair IsBefore (cond b (l ∷ []) [])
option_rises true l = (tt, tt)
option_rises false l = tt

option_number : (b : Bool) (l : Leaf) → Each (λ m. m.num ≡ l.num) (cond b (l ∷ []) [])
option_number true l = (refl, tt)
option_number false l = tt

-- a fact of what is there, where another fact gives it
pub some_weaker : (P Q : Expr → Type 0) (o : Option Expr) → ((e : Expr) → P e → Q e) → IfSome o P → IfSome o Q
some_weaker P Q None f h = tt
some_weaker P Q (Some e) f h = f e h

module _ (a : Ask) (arrival : ℕ) where
  on_short : (start num set dur : ℕ) → length (option_on a arrival start num set dur) ≤ 1
  on_short start num set dur = option_short (nat_le (end_of arrival start dur) a.deadline) _

  on_rises : (start num set dur : ℕ) → EachPair IsBefore (option_on a arrival start num set dur)
  on_rises start num set dur = option_rises (nat_le (end_of arrival start dur) a.deadline) _

  on_number : (start num set dur : ℕ) → Each (λ m. m.num ≡ num) (option_on a arrival start num set dur)
  on_number start num set dur = option_number (nat_le (end_of arrival start dur) a.deadline) (option_leaf a arrival start num set dur)

  preferred_short : (start num : ℕ) (o : Option Prefer) → length (preferred a arrival start num o) ≤ 1
  preferred_short start num None = omega arith
  preferred_short start num (Some p) = on_short start num p.set p.dur

  preferred_rises : (start num : ℕ) (o : Option Prefer) → EachPair IsBefore (preferred a arrival start num o)
  preferred_rises start num None = tt
  preferred_rises start num (Some p) = on_rises start num p.set p.dur

  preferred_number : (start num : ℕ) (o : Option Prefer) → Each (λ m. m.num ≡ num) (preferred a arrival start num o)
  preferred_number start num None = tt
  preferred_number start num (Some p) = on_number start num p.set p.dur

  at_short : (start : ℕ) → length (options_at a arrival start) ≤ 2
  at_short start =
      let first = preferred_short start (2 * (start - arrival)) a.prefer in
      let second = on_short start (2 * (start - arrival) + 1) a.set a.dur in
      omega (arith, first, second, length-append (preferred a arrival start (2 * (start - arrival)) a.prefer) (option_on a arrival start (2 * (start - arrival) + 1) a.set a.dur))

  at_rises : (start : ℕ) → EachPair IsBefore (options_at a arrival start)
  at_rises start = EachPair-append IsBefore (preferred a arrival start (2 * (start - arrival)) a.prefer) _
      (preferred_rises start (2 * (start - arrival)) a.prefer) (on_rises start (2 * (start - arrival) + 1) a.set a.dur)
      (Each-across (λ (l : Leaf). l.num ≡ 2 * (start - arrival)) (λ (m : Leaf). m.num ≡ 2 * (start - arrival) + 1) IsBefore
      (λ x y p q. omega arith) (preferred a arrival start (2 * (start - arrival)) a.prefer) _
      (preferred_number start (2 * (start - arrival)) a.prefer) (on_number start (2 * (start - arrival) + 1) a.set a.dur))

  pub between_short : (from n : ℕ) → length (options_between a arrival from n) ≤ 2 * n
  between_short from zero = omega arith
  between_short from (suc n) =
      let here = at_short from in
      let rest = between_short (from + 1) n in
      omega (arith, here, rest, length-append (options_at a arrival from) (options_between a arrival (from + 1) n))

  module _ (sound : IsSoundAsk a) where
    -- an option of one of these slots
    pub record StartsWithin (from until : ℕ) (l : Leaf) : Type 0 where
      pub part : IsPart a l
      pub starts_from : from ≤ l.start
      pub starts_to : l.start < until
      pub low : 2 * (l.start - arrival) ≤ l.num
      pub high : l.num ≤ 2 * (l.start - arrival) + 1

    pub between_are : (from n : ℕ) → arrival ≤ from → from + n ≤ 20001 → Each (StartsWithin from (from + n)) (options_between a arrival from n)
    between_are from zero arrived early = tt
    between_are from (suc n) arrived early = Each-append (StartsWithin from (from + suc n)) (options_at a arrival from) _
        (Each-map (IsOption a arrival from) (StartsWithin from (from + suc n)) (λ l o. record {
          part = (o.good, o.worth, o.named);
          starts_from = omega (arith, o.starts);
          starts_to = omega (arith, o.starts);
          low = subst (λ s. 2 * (s - arrival) ≤ l.num) (sym o.starts) o.from;
          high = subst (λ s. l.num ≤ 2 * (s - arrival) + 1) (sym o.starts) o.to;
        }) (options_at a arrival from) (options_are a arrival from sound arrived (omega arith)))
        (Each-map (StartsWithin (from + 1) (from + 1 + n)) (StartsWithin from (from + suc n)) (λ l s. record {
          part = s.part;
          starts_from = omega (arith, s.starts_from);
          starts_to = omega (arith, s.starts_to);
          low = s.low;
          high = s.high;
        }) (options_between a arrival (from + 1) n) (between_are (from + 1) n (omega arith) (omega arith)))

    pub between_rises : (from n : ℕ) → arrival ≤ from → from + n ≤ 20001 → EachPair IsBefore (options_between a arrival from n)
    between_rises from zero arrived early = tt
    between_rises from (suc n) arrived early = EachPair-append IsBefore (options_at a arrival from) _
        (at_rises from) (between_rises (from + 1) n (omega arith) (omega arith))
        (Each-across (IsOption a arrival from) (StartsWithin (from + 1) (from + 1 + n)) IsBefore
        (λ x y p q. let high = p.to in let low = q.low in let later = q.starts_from in omega (arith, high, low, later))
        (options_at a arrival from) _ (options_are a arrival from sound arrived (omega arith)) (between_are (from + 1) n (omega arith) (omega arith)))

    parts_are : (from n : ℕ) → arrival ≤ from → from + n ≤ 20001 → Each (IsPart a) (options_between a arrival from n)
    parts_are from n arrived early = Each-map (StartsWithin from (from + n)) (IsPart a) (λ l s. s.part) (options_between a arrival from n) (between_are from n arrived early)

  -- ---- the tree of an offer
  pub record IsOffer (t : Tree) : Type 0 where
    pub well_made : IsWellMade t
    pub sets : EachLeaf (λ l. IsSetOf a l.set) t
    pub ascending : IsStrictlyIncreasing (numbers t)

  one_of_are : (ls : List Leaf) → Each (IsPart a) ls → EachPair IsBefore ls → length ls ≤ 128 → IfSome (one_of (map one ls)) IsOffer
  one_of_are [] parts rises short = tt
  one_of_are (l ∷ []) parts rises short = record {
    well_made = record {
      sound = (parts.0.0, parts.0.1);
      aligned = tt;
      distinct = distinct (l ∷ []) rises;
      few_leaves = short;
      shallow = omega arith;
    };
    sets = parts.0.2;
    ascending = rising (l.num ∷ []) (numbers_rise (l ∷ []) rises);
  }
  one_of_are (l ∷ m ∷ ls) parts rises short =
      let same = leaves_of_row (l ∷ m ∷ ls) in
      let deep = row_depth (l ∷ m ∷ ls) in
      record {
        well_made = record {
          sound = (tt, row_sound a (l ∷ m ∷ ls) parts, row_peak a (l ∷ m ∷ ls) parts);
          aligned = (tt, row_aligned (l ∷ m ∷ ls));
          distinct = subst (λ ks. AllPairs (λ l m. l.num ≢ m.num) ks) (sym same) (distinct (l ∷ m ∷ ls) rises);
          few_leaves = subst (λ ks. length ks ≤ 128) (sym same) short;
          shallow = omega (arith, deep);
        };
        sets = row_sets a (l ∷ m ∷ ls) parts;
        ascending = subst IsStrictlyIncreasing (sym (numbers_of_row (l ∷ m ∷ ls))) (rising (map (λ (l : Leaf). l.num) (l ∷ m ∷ ls)) (numbers_rise (l ∷ m ∷ ls) rises));
      }

  -- what holds of an offer that is there
  pub offer_is : (now window : ℕ) → IsSoundAsk a → arrival ≤ now → now ≤ 10000 → window ≤ 64 → IfSome (offer a arrival now window) IsOffer
  offer_is now window sound arrived early few =
      let short = between_short now window in
      one_of_are (options_between a arrival now window) (parts_are sound now window arrived (omega arith)) (between_rises sound now window arrived (omega arith)) (omega (arith, short))

  some_tree : (o : Option Expr) (t : Option Tree) → option_map tree o ≡ t → IfSome t IsOffer → IfSome o (λ e. IsOffer (tree e))
  some_tree None t same h = tt
  some_tree (Some e) t same h = subst (λ (u : Option Tree). IfSome u IsOffer) (sym same) h

  pub offered : (o : Option Expr) (now window : ℕ) → IsSoundAsk a → arrival ≤ now → now ≤ 10000 → window ≤ 64 → option_map tree o ≡ offer a arrival now window →
      IfSome o (λ e. IsOffer (tree e))
  offered o now window sound arrived early few same = some_tree o (offer a arrival now window) same (offer_is now window sound arrived early few)

-- ---- the loop over the starts
regroup : (ts : List Tree) (ps gs rest : List Leaf) → ((ts ++ map one ps) ++ map one gs) ++ map one rest ≡ ts ++ map one ((ps ++ gs) ++ rest)
regroup ts ps gs rest = simp (map-append, append_assoc)

pub loop_step : (a : Ask) (arrival start last : ℕ) (ts us vs whole : List Tree) (ps gs : List Leaf) → start < last →
    us ≡ ts ++ map one ps → vs ≡ us ++ map one gs →
    ps ≡ preferred a arrival start (2 * (start - arrival)) a.prefer → gs ≡ option_on a arrival start (2 * (start - arrival) + 1) a.set a.dur →
    ts ++ map one (options_between a arrival start (last - start)) ≡ whole →
    vs ++ map one (options_between a arrival (start + 1) (last - (start + 1))) ≡ whole
loop_step a arrival start last ts us vs whole ps gs lt first second is_first is_second h =
    let count : last - start ≡ suc (last - (start + 1)) = omega arith in
    let rest : List Leaf = options_between a arrival (start + 1) (last - (start + 1)) in
    let made : vs ≡ (ts ++ map one ps) ++ map one gs = second ∙ ap (λ (l : List Tree). l ++ map one gs) first in
    let both : ps ++ gs ≡ options_at a arrival start = ap (λ (l : List Leaf). l ++ gs) is_first
    ∙ ap (λ (l : List Leaf). preferred a arrival start (2 * (start - arrival)) a.prefer ++ l) is_second in
    ap (λ (l : List Tree). l ++ map one rest) made ∙ regroup ts ps gs rest
    ∙ ap (λ (l : List Leaf). ts ++ map one (l ++ rest)) both
    ∙ subst (λ n. ts ++ map one (options_between a arrival start n) ≡ whole) count h

pub loop_end : (a : Ask) (arrival start last : ℕ) (ts whole : List Tree) → last ≤ start →
    ts ++ map one (options_between a arrival start (last - start)) ≡ whole → ts ≡ whole
loop_end a arrival start last ts whole le h =
    let none_left : last - start ≡ 0 = omega arith in
    sym (append-nil ts) ∙ subst (λ n. ts ++ map one (options_between a arrival start n) ≡ whole) none_left h
