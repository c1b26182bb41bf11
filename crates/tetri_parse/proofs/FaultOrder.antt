-- The faults of the second pass stand one before the other.
use Rattle.std.proofs.Common.{◌≡◌, ◌⊎◌, inl, inr, ℕ, zero, suc, ◌+◌, ◌-◌, ◌*◌, ◌%◌, ◌<◌, ◌≤◌, ◌&&◌, ◌==◌, max, not, Bool, true, false, nat_lt, nat_le, if◌then◌else◌, List, [], ◌∷◌, ◌++◌, length, get_or, Option, Some, None, Result, Ok, Err, refl, sym, ap, subst, arith}
use Rattle.std.specs.Prelude.{IfOk}
use Rattle.std.specs.List.{list_any}
use Rattle.tetri_base.specs.Lists.{Each, EachPair}
use Rattle.tetri_base.specs.ResultSteps.{◌>>=◌}
use Rattle.tetri_base.proofs.ListLaws.{Each-across, Each-append, Each-at, Each-map, EachPair-append, EachPair-with}
use Rattle.tetri_cluster.specs.declared.cluster.NodeText.{NodeText}
use Rattle.tetri_cluster.specs.Sets.{set_added}
use Rattle.tetri_strl.specs.WellMade.{PEAK, peak_joined}
use Rattle.tetri_parse.specs.declared.fault.Fault.{Fault}
use Rattle.tetri_parse.specs.declared.fault.Fault.TheVariants.{Uneven, Mixed, TooRich, TooDeep, TooManyLeaves, Trailing}
use Rattle.tetri_parse.specs.declared.fault.Miss.{Miss}
use Rattle.tetri_parse.specs.declared.fault.ParseFault.{ParseFault}
use Rattle.tetri_parse.specs.declared.fault.ParseFault.TheVariants as faults
use Rattle.tetri_parse.specs.LeafText.{LeafText}
use Rattle.tetri_parse.specs.declared.token.Word.{Word}
use Rattle.tetri_parse.specs.declared.token.Word.TheVariants as word
use Rattle.tetri_parse.specs.Ascending.{fault_number, ComesBefore, IsLeast, AnswersLeast, FaultsAscend, LeastFault}
use Rattle.tetri_parse.specs.Faults.{fault_if, added_faults, set_faults, starts_below, leaf_faults, sets_past, all_faults, faults_of_all, first_of, fault_behind, first_fault, AnswersFault}
use Rattle.tetri_parse.specs.Grammar.{Rest, leaf_at, part_with_number, goes_on_to_child, children_at, body_at, expr_at, whole_at}
use Rattle.tetri_parse.specs.Phrase.{Phrase, Phrases, asked, joined, scaled, barred, nothing, followed, line_up, operator}
use Rattle.tetri_parse.specs.Rows.{row_at}
use Rattle.tetri_parse.specs.SetText.{set_at}
use Rattle.tetri_parse.specs.Settling.{first_start_of, peak_of, peaks_of}
use Rattle.tetri_parse.specs.Tokens.{skip_blanks, missed, mark_at, word_at, goes_on_at, number_at}
use Rattle.tetri_parse.proofs.Lengths.{goes_on_shorter, mark_shorter, number_shorter, set_shorter, skip_shorter, word_shorter}
use Rattle.tetri_parse.proofs.Steps.{both, passed, same_ok}

-- ---- where an expression stands: at most so many bytes are left at its word, and so many behind it
abbrev mutual
  IsPlaced : ℕ → Phrase → ℕ → Type 0
  IsPlaced high (asked l) low = (l.left ≤ high) × (l.set_left < l.left) × (l.value_left < l.set_left) × (low < l.value_left)
  IsPlaced high (joined op left ps) low = (left ≤ high) × ((mid : ℕ) × (mid < left) × ArePlaced mid ps low)
  IsPlaced high (scaled left p s) low = (left ≤ high) × ((mid : ℕ) × (mid < left) × IsPlaced mid p low)
  IsPlaced high (barred left p v) low = (left ≤ high) × ((mid : ℕ) × (mid < left) × IsPlaced mid p low)

  ArePlaced : ℕ → Phrases → ℕ → Type 0
  ArePlaced high nothing low = low ≤ high
  ArePlaced high (followed p ps) low = (mid : ℕ) × IsPlaced high p mid × ArePlaced mid ps low

mutual
  placed_order : (high : ℕ) (p : Phrase) (low : ℕ) → IsPlaced high p low → low ≤ high
  placed_order high (asked l) low h = omega (arith, h.0, h.1, h.2, h.3)
  placed_order high (joined op left ps) low h = omega (arith, h.0, h.1.1, all_placed_order h.1.0 ps low h.1.2)
  placed_order high (scaled left p s) low h = omega (arith, h.0, h.1.1, placed_order h.1.0 p low h.1.2)
  placed_order high (barred left p v) low h = omega (arith, h.0, h.1.1, placed_order h.1.0 p low h.1.2)

  all_placed_order : (high : ℕ) (ps : Phrases) (low : ℕ) → ArePlaced high ps low → low ≤ high
  all_placed_order high nothing low h = h
  all_placed_order high (followed p ps) low h = omega (arith, placed_order high p h.0 h.1, all_placed_order h.0 ps low h.2)

-- with fewer bytes left at its word
placed_from : (high more : ℕ) (p : Phrase) (low : ℕ) → high ≤ more → IsPlaced high p low → IsPlaced more p low
placed_from high more (asked l) low le h = (omega (arith, h.0), h.1, h.2, h.3)
placed_from high more (joined op left ps) low le h = (omega (arith, h.0), h.1)
placed_from high more (scaled left p s) low le h = (omega (arith, h.0), h.1)
placed_from high more (barred left p v) low le h = (omega (arith, h.0), h.1)

all_placed_from : (high more : ℕ) (ps : Phrases) (low : ℕ) → high ≤ more → ArePlaced high ps low → ArePlaced more ps low
all_placed_from high more nothing low le h = omega (arith, h)
all_placed_from high more (followed p ps) low le h = (h.0, placed_from high more p h.0 le h.1, h.2)

-- with more bytes behind it
mutual
  placed_to : (high : ℕ) (p : Phrase) (low less : ℕ) → less ≤ low → IsPlaced high p low → IsPlaced high p less
  placed_to high (asked l) low less le h = (h.0, h.1, h.2, omega (arith, h.3))
  placed_to high (joined op left ps) low less le h = (h.0, (h.1.0, h.1.1, all_placed_to h.1.0 ps low less le h.1.2))
  placed_to high (scaled left p s) low less le h = (h.0, (h.1.0, h.1.1, placed_to h.1.0 p low less le h.1.2))
  placed_to high (barred left p v) low less le h = (h.0, (h.1.0, h.1.1, placed_to h.1.0 p low less le h.1.2))

  all_placed_to : (high : ℕ) (ps : Phrases) (low less : ℕ) → less ≤ low → ArePlaced high ps low → ArePlaced high ps less
  all_placed_to high nothing low less le h = omega (arith, h)
  all_placed_to high (followed p ps) low less le h = (h.0, h.1, all_placed_to h.0 ps low less le h.2)

-- ---- what is read is placed
module _ {S : Type 0} (item : S → Result (Phrase × S) Miss) (goes_on : S → Result (Bool × S) Miss) (size : S → ℕ)
    (each : (s : S) (x : Phrase × S) → item s ≡ Ok x → IsPlaced (size s) x.0 (size x.1)) (goes_le : (s : S) (x : Bool × S) → goes_on s ≡ Ok x → size x.1 ≤ size s) where
  row_placed : (n : ℕ) (s : S) (x : List Phrase × S) → row_at item goes_on n s ≡ Ok x → ArePlaced (size s) (line_up x.0) (size x.1)
  unfolding row_at
  row_placed zero s x h = absurd (cc)
  row_placed (suc n) s x h =
      let a = both (item s) (λ first. goes_on first.1 >>= λ next. if next.0 then (row_at item goes_on n next.1 >>= λ others. Ok (first.0 ∷ others.0, others.1)) else Ok (first.0 ∷ [], next.1)) x h in
      let b = both (goes_on a.0.1) (λ next. if next.0 then (row_at item goes_on n next.1 >>= λ others. Ok (a.0.0 ∷ others.0, others.1)) else Ok (a.0.0 ∷ [], next.1)) x a.2 in
      by_next a.0 b.0.0 b.0.1 (each s a.0 a.1) (goes_le a.0.1 b.0 b.1) b.2 (λ y g. row_placed n b.0.1 y g)
    where
      by_next : (first : Phrase × S) (more : Bool) (t : S) → IsPlaced (size s) first.0 (size first.1) → size t ≤ size first.1 → (if more then (row_at item goes_on n t >>= λ others. Ok (first.0 ∷ others.0, others.1)) else Ok (first.0 ∷ [], t)) ≡ Ok x → ((y : List Phrase × S) → row_at item goes_on n t ≡ Ok y → ArePlaced (size t) (line_up y.0) (size y.1)) → ArePlaced (size s) (line_up x.0) (size x.1)
      by_next first true t here le g ih =
          let c = both (row_at item goes_on n t) (λ others. Ok (first.0 ∷ others.0, others.1)) x g in
          subst (λ (z : List Phrase × S). ArePlaced (size s) (line_up z.0) (size z.1)) (same_ok (first.0 ∷ c.0.0, c.0.1) x c.2)
          (size first.1, here, all_placed_from (size t) (size first.1) (line_up c.0.0) (size c.0.1) le (ih c.0 c.1))
      by_next first false t here le g ih =
          subst (λ (z : List Phrase × S). ArePlaced (size s) (line_up z.0) (size z.1)) (same_ok (first.0 ∷ [], t) x g) (size first.1, here, le)

module _ (cluster : List NodeText) where
  -- the leaf that is made of what was read, where so many bytes were left at its places
  abbrev made_leaf : Bool → ℕ → ℕ → List ℕ → Option (List ℕ) → ℕ → ℕ → ℕ → List ℕ → ℕ → LeafText
  made_leaf linear num left inner nodes k start dur before v =
      record { num = num; linear = linear; nodes = nodes; k = k; start = start; dur = dur; v = v; left = left; set_left = length (skip_blanks inner); value_left = length (skip_blanks before) }

  leaf_placed : (linear : Bool) (num left : ℕ) (text : List ℕ) (x : LeafText × List ℕ) → length text ≤ left → leaf_at cluster linear num left text ≡ Ok x → IsPlaced left (asked x.0) (length x.1)
  unfolding leaf_at
  leaf_placed linear num left text x le h =
      let a = both (mark_at 40 text) (λ inner. set_at cluster (skip_blanks inner) >>= λ set. mark_at 44 set.1 >>= λ a. number_at 1 4096 a >>= λ k. mark_at 44 k.1 >>= λ b. number_at 0 10000 b >>= λ start. mark_at 44 start.1 >>= λ c. number_at 1 10000 c >>= λ dur. mark_at 44 dur.1 >>= λ d. number_at 0 PEAK (skip_blanks d) >>= λ v. mark_at 41 v.1 >>= λ close. Ok (made_leaf linear num left inner set.0 k.0 start.0 dur.0 d v.0, close)) x h in
      from_set a.0 (mark_shorter 40 text a.0 a.1) a.2
    where
      from_value : (inner : List ℕ) (nodes : Option (List ℕ)) (k start dur : ℕ) (d : List ℕ) → length (skip_blanks inner) < left → length (skip_blanks d) < length (skip_blanks inner) →
          (number_at 0 PEAK (skip_blanks d) >>= λ v. mark_at 41 v.1 >>= λ close. Ok (made_leaf linear num left inner nodes k start dur d v.0, close)) ≡ Ok x → IsPlaced left (asked x.0) (length x.1)
      from_value inner nodes k start dur d first second g =
          let v = both (number_at 0 PEAK (skip_blanks d)) (λ v. mark_at 41 v.1 >>= λ close. Ok (made_leaf linear num left inner nodes k start dur d v.0, close)) x g in
          let close = both (mark_at 41 v.0.1) (λ close. Ok (made_leaf linear num left inner nodes k start dur d v.0.0, close)) x v.2 in
          let value = number_shorter 0 PEAK (skip_blanks d) v.0 v.1 in
          let last = mark_shorter 41 v.0.1 close.0 close.1 in
          subst (λ (y : LeafText × List ℕ). IsPlaced left (asked y.0) (length y.1)) (same_ok (made_leaf linear num left inner nodes k start dur d v.0.0, close.0) x close.2) (omega arith, first, second, omega (arith, value, last))

      from_start : (inner : List ℕ) (nodes : Option (List ℕ)) (k : ℕ) (b : List ℕ) → length (skip_blanks inner) < left → length b < length (skip_blanks inner) →
          (number_at 0 10000 b >>= λ start. mark_at 44 start.1 >>= λ c. number_at 1 10000 c >>= λ dur. mark_at 44 dur.1 >>= λ d. number_at 0 PEAK (skip_blanks d) >>= λ v. mark_at 41 v.1 >>= λ close. Ok (made_leaf linear num left inner nodes k start.0 dur.0 d v.0, close)) ≡ Ok x → IsPlaced left (asked x.0) (length x.1)
      from_start inner nodes k b first second g =
          let start = both (number_at 0 10000 b) (λ start. mark_at 44 start.1 >>= λ c. number_at 1 10000 c >>= λ dur. mark_at 44 dur.1 >>= λ d. number_at 0 PEAK (skip_blanks d) >>= λ v. mark_at 41 v.1 >>= λ close. Ok (made_leaf linear num left inner nodes k start.0 dur.0 d v.0, close)) x g in
          let c = both (mark_at 44 start.0.1) (λ c. number_at 1 10000 c >>= λ dur. mark_at 44 dur.1 >>= λ d. number_at 0 PEAK (skip_blanks d) >>= λ v. mark_at 41 v.1 >>= λ close. Ok (made_leaf linear num left inner nodes k start.0.0 dur.0 d v.0, close)) x start.2 in
          let dur = both (number_at 1 10000 c.0) (λ dur. mark_at 44 dur.1 >>= λ d. number_at 0 PEAK (skip_blanks d) >>= λ v. mark_at 41 v.1 >>= λ close. Ok (made_leaf linear num left inner nodes k start.0.0 dur.0 d v.0, close)) x c.2 in
          let d = both (mark_at 44 dur.0.1) (λ d. number_at 0 PEAK (skip_blanks d) >>= λ v. mark_at 41 v.1 >>= λ close. Ok (made_leaf linear num left inner nodes k start.0.0 dur.0.0 d v.0, close)) x dur.2 in
          let one = number_shorter 0 10000 b start.0 start.1 in
          let two = mark_shorter 44 start.0.1 c.0 c.1 in
          let three = number_shorter 1 10000 c.0 dur.0 dur.1 in
          let four = mark_shorter 44 dur.0.1 d.0 d.1 in
          from_value inner nodes k start.0.0 dur.0.0 d.0 first (omega (arith, one, two, three, four, skip_shorter d.0, second)) d.2

      from_set : (inner : List ℕ) → length inner < length text →
          (set_at cluster (skip_blanks inner) >>= λ set. mark_at 44 set.1 >>= λ a. number_at 1 4096 a >>= λ k. mark_at 44 k.1 >>= λ b. number_at 0 10000 b >>= λ start. mark_at 44 start.1 >>= λ c. number_at 1 10000 c >>= λ dur. mark_at 44 dur.1 >>= λ d. number_at 0 PEAK (skip_blanks d) >>= λ v. mark_at 41 v.1 >>= λ close. Ok (made_leaf linear num left inner set.0 k.0 start.0 dur.0 d v.0, close)) ≡ Ok x → IsPlaced left (asked x.0) (length x.1)
      from_set inner lt g =
          let set = both (set_at cluster (skip_blanks inner)) (λ set. mark_at 44 set.1 >>= λ a. number_at 1 4096 a >>= λ k. mark_at 44 k.1 >>= λ b. number_at 0 10000 b >>= λ start. mark_at 44 start.1 >>= λ c. number_at 1 10000 c >>= λ dur. mark_at 44 dur.1 >>= λ d. number_at 0 PEAK (skip_blanks d) >>= λ v. mark_at 41 v.1 >>= λ close. Ok (made_leaf linear num left inner set.0 k.0 start.0 dur.0 d v.0, close)) x g in
          let a = both (mark_at 44 set.0.1) (λ a. number_at 1 4096 a >>= λ k. mark_at 44 k.1 >>= λ b. number_at 0 10000 b >>= λ start. mark_at 44 start.1 >>= λ c. number_at 1 10000 c >>= λ dur. mark_at 44 dur.1 >>= λ d. number_at 0 PEAK (skip_blanks d) >>= λ v. mark_at 41 v.1 >>= λ close. Ok (made_leaf linear num left inner set.0.0 k.0 start.0 dur.0 d v.0, close)) x set.2 in
          let k = both (number_at 1 4096 a.0) (λ k. mark_at 44 k.1 >>= λ b. number_at 0 10000 b >>= λ start. mark_at 44 start.1 >>= λ c. number_at 1 10000 c >>= λ dur. mark_at 44 dur.1 >>= λ d. number_at 0 PEAK (skip_blanks d) >>= λ v. mark_at 41 v.1 >>= λ close. Ok (made_leaf linear num left inner set.0.0 k.0 start.0 dur.0 d v.0, close)) x a.2 in
          let b = both (mark_at 44 k.0.1) (λ b. number_at 0 10000 b >>= λ start. mark_at 44 start.1 >>= λ c. number_at 1 10000 c >>= λ dur. mark_at 44 dur.1 >>= λ d. number_at 0 PEAK (skip_blanks d) >>= λ v. mark_at 41 v.1 >>= λ close. Ok (made_leaf linear num left inner set.0.0 k.0.0 start.0 dur.0 d v.0, close)) x k.2 in
          let one = set_shorter cluster (skip_blanks inner) set.0 set.1 in
          let two = mark_shorter 44 set.0.1 a.0 a.1 in
          let three = number_shorter 1 4096 a.0 k.0 k.1 in
          let four = mark_shorter 44 k.0.1 b.0 b.1 in
          from_start inner set.0.0 k.0.0 b.0 (omega (arith, skip_shorter inner, lt, le)) (omega (arith, one, two, three, four)) b.2

  part_placed : (child : Rest → Result (Phrase × Rest) Miss) (taken : ℕ) (text : List ℕ) (x : (Phrase × ℕ) × Rest) → ((s : Rest) (y : Phrase × Rest) → child s ≡ Ok y → IsPlaced (length s.1) y.0 (length y.1.1)) → part_with_number cluster child taken text ≡ Ok x →
      (mid : ℕ) × (mid < length text) × IsPlaced mid x.0.0 (length x.1.1)
  unfolding part_with_number
  part_placed child taken text x each h =
      let a = both (mark_at 40 text) (λ inner. child (taken, inner) >>= λ part. mark_at 44 part.1.1 >>= λ comma. number_at 0 PEAK comma >>= λ number. mark_at 41 number.1 >>= λ close. Ok ((part.0, number.0), (part.1.0, close))) x h in
      let b = both (child (taken, a.0)) (λ part. mark_at 44 part.1.1 >>= λ comma. number_at 0 PEAK comma >>= λ number. mark_at 41 number.1 >>= λ close. Ok ((part.0, number.0), (part.1.0, close))) x a.2 in
      let c = both (mark_at 44 b.0.1.1) (λ comma. number_at 0 PEAK comma >>= λ number. mark_at 41 number.1 >>= λ close. Ok ((b.0.0, number.0), (b.0.1.0, close))) x b.2 in
      let d = both (number_at 0 PEAK c.0) (λ number. mark_at 41 number.1 >>= λ close. Ok ((b.0.0, number.0), (b.0.1.0, close))) x c.2 in
      let e = both (mark_at 41 d.0.1) (λ close. Ok ((b.0.0, d.0.0), (b.0.1.0, close))) x d.2 in
      let inner = mark_shorter 40 text a.0 a.1 in
      let comma = mark_shorter 44 b.0.1.1 c.0 c.1 in
      let number = number_shorter 0 PEAK c.0 d.0 d.1 in
      let close = mark_shorter 41 d.0.1 e.0 e.1 in
      subst (λ (y : (Phrase × ℕ) × Rest). (mid : ℕ) × (mid < length text) × IsPlaced mid y.0.0 (length y.1.1)) (same_ok ((b.0.0, d.0.0), (b.0.1.0, e.0)) x e.2)
      (length a.0, inner, placed_to (length a.0) b.0.0 (length b.0.1.1) (length e.0) (omega (arith, comma, number, close)) (each (taken, a.0) b.0 b.1))

  child_goes : (s : Rest) (x : Bool × Rest) → goes_on_to_child cluster s ≡ Ok x → length x.1.1 ≤ length s.1
  child_goes s x h =
      let a = both (goes_on_at 41 s.1) (λ y. Ok (y.0, (s.0, y.1))) x h in
      let e = same_ok (a.0.0, (s.0, a.0.1)) x a.2 in
      omega (arith, ap (λ (y : Bool × Rest). length y.1.1) e, goes_on_shorter 41 s.1 a.0 a.1)

  body_placed : (child : Rest → Result (Phrase × Rest) Miss) (w : Word) (left taken : ℕ) (text : List ℕ) (x : Phrase × Rest) → ((s : Rest) (y : Phrase × Rest) → child s ≡ Ok y → IsPlaced (length s.1) y.0 (length y.1.1)) → length text ≤ left →
      body_at cluster child w left taken text ≡ Ok x → IsPlaced left x.0 (length x.1.1)
  unfolding body_at children_at
  body_placed child (word.Leaf linear) left taken text x each le h =
      let p = passed (nat_le 128 taken) (record { fault = TooManyLeaves; left = left }) (leaf_at cluster linear taken left text >>= λ leaf. Ok (asked leaf.0, (taken + 1, leaf.1))) x h in
      let a = both (leaf_at cluster linear taken left text) (λ leaf. Ok (asked leaf.0, (taken + 1, leaf.1))) x p.1 in
      subst (λ (y : Phrase × Rest). IsPlaced left y.0 (length y.1.1)) (same_ok (asked a.0.0, (taken + 1, a.0.1)) x a.2) (leaf_placed linear taken left text a.0 le a.1)
  body_placed child (word.Join j) left taken text x each le h =
      let a = both (mark_at 40 text >>= λ inner. row_at child (goes_on_to_child cluster) (length inner) (taken, inner)) (λ parts. Ok (joined (operator j) left (line_up parts.0), parts.1)) x h in
      let b = both (mark_at 40 text) (λ inner. row_at child (goes_on_to_child cluster) (length inner) (taken, inner)) a.0 a.1 in
      subst (λ (y : Phrase × Rest). IsPlaced left y.0 (length y.1.1)) (same_ok (joined (operator j) left (line_up a.0.0), a.0.1) x a.2)
      (omega arith, (length b.0, omega (arith, mark_shorter 40 text b.0 b.1, le), row_placed child (goes_on_to_child cluster) (λ s. length s.1) each child_goes (length b.0) (taken, b.0) a.0 b.2))
  body_placed child word.Scale left taken text x each le h =
      let a = both (part_with_number cluster child taken text) (λ part. Ok (scaled left part.0.0 part.0.1, part.1)) x h in
      let b = part_placed child taken text a.0 each a.1 in
      subst (λ (y : Phrase × Rest). IsPlaced left y.0 (length y.1.1)) (same_ok (scaled left a.0.0.0 a.0.0.1, a.0.1) x a.2) (omega arith, (b.0, omega (arith, b.1, le), b.2))
  body_placed child word.Barrier left taken text x each le h =
      let a = both (part_with_number cluster child taken text) (λ part. Ok (barred left part.0.0 part.0.1, part.1)) x h in
      let b = part_placed child taken text a.0 each a.1 in
      subst (λ (y : Phrase × Rest). IsPlaced left y.0 (length y.1.1)) (same_ok (barred left a.0.0.0 a.0.0.1, a.0.1) x a.2) (omega arith, (b.0, omega (arith, b.1, le), b.2))

  expr_placed : (levels : ℕ) (s : Rest) (x : Phrase × Rest) → expr_at cluster levels s ≡ Ok x → IsPlaced (length s.1) x.0 (length x.1.1)
  unfolding expr_at
  expr_placed zero s x h = let a = both (word_at (skip_blanks s.1)) (λ w. Err (missed TooDeep (skip_blanks s.1))) x h in absurd (cc)
  expr_placed (suc levels) s x h =
      let a = both (word_at (skip_blanks s.1)) (λ w. body_at cluster (expr_at cluster levels) w.0 (length (skip_blanks s.1)) s.0 w.1) x h in
      placed_from (length (skip_blanks s.1)) (length s.1) x.0 (length x.1.1) (skip_shorter s.1)
      (body_placed (expr_at cluster levels) a.0.0 (length (skip_blanks s.1)) s.0 a.0.1 x (λ t y. expr_placed levels t y) (word_shorter (skip_blanks s.1) a.0 a.1) a.2)

  whole_placed : (text : List ℕ) (p : Phrase) → whole_at cluster text ≡ Ok p → (low : ℕ) × IsPlaced (length text) p low
  unfolding whole_at
  whole_placed text p h =
      let a = both (expr_at cluster 64 (0, text)) (λ made. if length (skip_blanks made.1.1) == 0 then Ok made.0 else Err (missed Trailing (skip_blanks made.1.1))) p h in
      let b = passed_end (length (skip_blanks a.0.1.1) == 0) a.0.0 (missed Trailing (skip_blanks a.0.1.1)) a.2 in
      (length a.0.1.1, subst (λ q. IsPlaced (length text) q (length a.0.1.1)) b (expr_placed 64 (0, text) a.0 a.1))
    where
      passed_end : (b : Bool) (q : Phrase) (m : Miss) → (if b then Ok q else Err m) ≡ Ok p → q ≡ p
      passed_end true q m g = same_ok q p g
      passed_end false q m g = absurd (cc)

-- ---- faults between two places
abbrev Before : Miss → Miss → Type 0
Before m n = (n.left < m.left) ⊎ ((m.left ≡ n.left) × (fault_number m.fault < fault_number n.fault))

abbrev LiesBetween : ℕ → ℕ → Miss → Type 0
LiesBetween high low m = (low < m.left) × (m.left ≤ high)

record AreBetween (high low : ℕ) (ms : List Miss) : Type 0 where
  within : Each (LiesBetween high low) ms
  ordered : EachPair Before ms

none_between : (high low : ℕ) → AreBetween high low []
none_between high low = record { within = tt; ordered = tt }

if_between : (b : Bool) (fault : Fault) (left high low : ℕ) → low < left → left ≤ high → AreBetween high low (fault_if b fault left)
if_between true fault left high low lt le = record { within = ((lt, le), tt); ordered = (tt, tt) }
if_between false fault left high low lt le = none_between high low

-- first those at the greater places
append_between : (high mid low : ℕ) (ms ns : List Miss) → mid ≤ high → low ≤ mid → AreBetween high mid ms → AreBetween mid low ns → AreBetween high low (ms ++ ns)
append_between high mid low ms ns below above f g = record {
  within =
      Each-append (LiesBetween high low) ms ns (Each-map (LiesBetween high mid) (LiesBetween high low) (λ m h. (omega (arith, h.0, above), h.1)) ms f.within)
      (Each-map (LiesBetween mid low) (LiesBetween high low) (λ n h. (h.0, omega (arith, h.1, below))) ns g.within);
  ordered =
      EachPair-append Before ms ns f.ordered g.ordered
      (Each-across (LiesBetween high mid) (LiesBetween mid low) Before (λ m n h k. inl (omega (arith, h.0, k.1))) ms ns f.within g.within);
}

set_between : (left : ℕ) (nodes : Option (List ℕ)) (sets : List (List ℕ)) (low : ℕ) → low < left → AreBetween left low (set_faults left nodes sets)
set_between left None sets low lt = record { within = ((lt, omega arith), tt); ordered = (tt, tt) }
set_between left (Some nodes) sets low lt = by_added (set_added nodes sets)
  where
    by_added : (o : Option (ℕ × List (List ℕ))) → AreBetween left low (added_faults left o)
    by_added None = record { within = ((lt, omega arith), tt); ordered = (tt, tt) }
    by_added (Some x) = none_between left low

rich_between : (c : Bool) (left mid low : ℕ) (ms : List Miss) → mid < left → low ≤ mid → AreBetween mid low ms → AreBetween left low (fault_if c TooRich left ++ ms)
rich_between c left mid low ms lt le h = append_between left mid low (fault_if c TooRich left) ms (omega (arith, lt)) le (if_between c TooRich left left mid lt (omega arith)) h

-- a leaf that is mixed and too rich is both at its word
word_between : (b c : Bool) (left mid low : ℕ) (ms : List Miss) → mid < left → low ≤ mid → AreBetween mid low ms → AreBetween left low (fault_if b Mixed left ++ (fault_if c TooRich left ++ ms))
word_between false c left mid low ms lt le h = rich_between c left mid low ms lt le h
word_between true c left mid low ms lt le h =
    let rest = rich_between c left mid low ms lt le h in
    let behind : Each (Before (record { fault = Mixed; left = left })) ms = Each-map (LiesBetween mid low) (Before (record { fault = Mixed; left = left })) (λ n k. inl (omega (arith, k.1, lt))) ms h.within in
    record {
      within = ((omega (arith, lt, le), omega arith), rest.within);
      ordered = (Each-append (Before (record { fault = Mixed; left = left })) (fault_if c TooRich left) ms (tied c) behind, rest.ordered);
    }
  where
    tied : (b : Bool) → Each (Before (record { fault = Mixed; left = left })) (fault_if b TooRich left)
    tied true = (inr (refl, omega arith), tt)
    tied false = tt

module _ (unit : ℕ) where
  leaf_between : (starts : List ℕ) (l : LeafText) (sets : List (List ℕ)) (high low : ℕ) → IsPlaced high (asked l) low → AreBetween high low (leaf_faults unit starts l sets)
  leaf_between starts l sets high low h =
      let value = if_between (l.linear && not (l.v * unit % l.k == 0)) Uneven l.value_left l.value_left low h.3 (omega arith) in
      let set = append_between l.set_left l.value_left low (set_faults l.set_left l.nodes sets) _ (omega (arith, h.2)) (omega (arith, h.3)) (set_between l.set_left l.nodes sets l.value_left h.2) value in
      let all = word_between (list_any (λ s. not (s == l.start)) starts) (nat_lt PEAK (l.v * unit)) l.left l.set_left low _ h.1 (omega (arith, h.2, h.3)) set in
      record { within = Each-map (LiesBetween l.left low) (LiesBetween high low) (λ m k. (k.0, omega (arith, k.1, h.0))) (leaf_faults unit starts l sets) all.within; ordered = all.ordered }

  mutual
    faults_between : (starts : List ℕ) (p : Phrase) (sets : List (List ℕ)) (high low : ℕ) → IsPlaced high p low → AreBetween high low (all_faults unit starts p sets)
    faults_between starts (asked l) sets high low h = leaf_between starts l sets high low h
    faults_between starts (joined op left ps) sets high low h =
        append_between high h.1.0 low (fault_if (nat_lt PEAK (peak_joined op (peaks_of unit ps))) TooRich left) (faults_of_all unit (starts_below op starts (first_start_of ps)) ps sets) (omega (arith, h.0, h.1.1)) (all_placed_order h.1.0 ps low h.1.2)
        (if_between (nat_lt PEAK (peak_joined op (peaks_of unit ps))) TooRich left high h.1.0 h.1.1 h.0)
        (all_between (starts_below op starts (first_start_of ps)) ps sets h.1.0 low h.1.2)
    faults_between starts (scaled left p s) sets high low h =
        append_between high h.1.0 low (fault_if (nat_lt PEAK (s * peak_of unit p)) TooRich left) (all_faults unit starts p sets) (omega (arith, h.0, h.1.1)) (placed_order h.1.0 p low h.1.2)
        (if_between (nat_lt PEAK (s * peak_of unit p)) TooRich left high h.1.0 h.1.1 h.0)
        (faults_between starts p sets h.1.0 low h.1.2)
    faults_between starts (barred left p v) sets high low h =
        append_between high h.1.0 low (fault_if (nat_lt PEAK (max (v * unit) (peak_of unit p))) TooRich left) (all_faults unit starts p sets) (omega (arith, h.0, h.1.1)) (placed_order h.1.0 p low h.1.2)
        (if_between (nat_lt PEAK (max (v * unit) (peak_of unit p))) TooRich left high h.1.0 h.1.1 h.0)
        (faults_between starts p sets h.1.0 low h.1.2)

    all_between : (starts : List ℕ) (ps : Phrases) (sets : List (List ℕ)) (high low : ℕ) → ArePlaced high ps low → AreBetween high low (faults_of_all unit starts ps sets)
    all_between starts nothing sets high low h = none_between high low
    all_between starts (followed p ps) sets high low h =
        append_between high h.0 low (all_faults unit starts p sets) (faults_of_all unit starts ps (sets_past unit p sets)) (placed_order high p h.0 h.1) (all_placed_order h.0 ps low h.2)
        (faults_between starts p sets high h.0 h.1)
        (all_between starts ps (sets_past unit p sets) h.0 low h.2)

-- ---- by their offsets
offsets_ascend : (count low : ℕ) (ms : List Miss) → AreBetween count low ms → EachPair (ComesBefore count) ms
offsets_ascend count low ms h = EachPair-with (LiesBetween count low) Before (ComesBefore count) (λ m n p q before. comes m n p.1 q.1 before) ms h.within h.ordered
  where
    comes : (m n : Miss) → m.left ≤ count → n.left ≤ count → Before m n → ComesBefore count m n
    comes m n p q (inl lt) = inl (omega (arith, p, q, lt))
    comes m n p q (inr same) = inr (ap (λ k. count - k) same.0, same.1)

pub faults_ascend : (text : List ℕ) (unit : ℕ) (cluster : List NodeText) (sets : List (List ℕ)) → FaultsAscend text unit cluster sets
faults_ascend text unit cluster sets = by_pass (whole_at cluster text) (λ p h. whole_placed cluster text p h)
  where
    by_pass : (r : Result Phrase Miss) → ((p : Phrase) → r ≡ Ok p → (low : ℕ) × IsPlaced (length text) p low) → IfOk r (λ p. EachPair (ComesBefore (length text)) (all_faults unit [] p sets))
    by_pass (Ok p) placed = let h = placed p refl in offsets_ascend (length text) h.0 (all_faults unit [] p sets) (faults_between unit [] p sets (length text) h.0 h.1)
    by_pass (Err m) placed = tt

-- ---- the one that is answered
pub least_answered : {A : Type 0} (text : List ℕ) (unit : ℕ) (cluster : List NodeText) (sets : List (List ℕ)) (result : Result A ParseFault) → AnswersFault text (first_fault text unit cluster sets) result → LeastFault text unit cluster sets result
least_answered {A = A} text unit cluster sets result h = by_pass (whole_at cluster text) (faults_ascend text unit cluster sets) h
  where
    first_least : (m : Miss) (ms : List Miss) → EachPair (ComesBefore (length text)) (m ∷ ms) → IsLeast (length text) (m ∷ ms) m
    first_least m ms pairs = record {
      among = (0, omega arith, refl);
      first = λ n at. by_place n at.0 at.1 at.2;
    }
      where
        by_place : (n : Miss) (k : ℕ) → k < length (m ∷ ms) → get_or (m ∷ ms) k n ≡ n → (n ≡ m) ⊎ ComesBefore (length text) m n
        by_place n zero lt e = inl (sym e)
        by_place n (suc k) lt e = inr (Each-at (ComesBefore (length text) m) ms n pairs.0 (k, omega (arith, lt), e))

    by_list : (ms : List Miss) (r : Result A ParseFault) → EachPair (ComesBefore (length text)) ms → AnswersFault text (first_of ms) r → AnswersLeast (length text) ms r
    by_list [] (Ok x) pairs g = refl
    by_list [] (Err (faults.At offset fault)) pairs g = absurd (cc)
    by_list [] (Err faults.NoMemory) pairs g = tt
    by_list (m ∷ ms) (Ok x) pairs g = absurd (cc)
    by_list (m ∷ ms) (Err (faults.At offset fault)) pairs g =
        let same : (length text - m.left, m.fault) ≡ (offset, fault) = in_some (length text - m.left, m.fault) (offset, fault) g in
        (m, first_least m ms pairs, sym (ap (λ (x : ℕ × Fault). x.0) same), sym (ap (λ (x : ℕ × Fault). x.1) same))
      where
        in_some : (x y : ℕ × Fault) → Path (Option (ℕ × Fault)) (Some x) (Some y) → x ≡ y
        in_some x y e = cc
    by_list (m ∷ ms) (Err faults.NoMemory) pairs g = tt

    by_pass : (r : Result Phrase Miss) → IfOk r (λ p. EachPair (ComesBefore (length text)) (all_faults unit [] p sets)) → AnswersFault text (fault_behind unit sets r) result → IfOk r (λ p. AnswersLeast (length text) (all_faults unit [] p sets) result)
    by_pass (Ok p) pairs g = by_list (all_faults unit [] p sets) result pairs g
    by_pass (Err m) pairs g = tt
