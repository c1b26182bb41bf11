-- The first pass meets the same first fault in two texts that are the same through the faulty word.
use Rattle.std.proofs.Common.{◌≡◌, ℕ, zero, suc, ◌+◌, ◌-◌, ◌≤◌, ◌<◌, ◌||◌, ◌==◌, Bool, true, false, nat_lt, if◌then◌else◌, List, [], ◌∷◌, ◌++◌, length, take, drop, Option, Some, None, Result, Ok, Err, IfErr, refl, sym, ap, ◌∙◌, subst, arith, length-append, length-drop}
use Rattle.std.specs.List.{prefix_len}
use Rattle.std.proofs.lemmas.Bool.Decides.{nat_tests}
use Rattle.std.proofs.lemmas.List.{take-append-drop}
use Rattle.std.proofs.Math.Seq.{take-append_seam, drop-append_seam}
use Rattle.tetri_base.specs.ResultSteps.{◌>>=◌}
use Rattle.tetri_strl.specs.Tree.{greatest}
use Rattle.tetri_strl.specs.WellMade.{PEAK}
use Rattle.tetri_cluster.specs.declared.cluster.NodeText.{NodeText}
use Rattle.tetri_parse.specs.declared.fault.Fault.{Fault}
use Rattle.tetri_parse.specs.declared.fault.Fault.TheVariants.{Unexpected, NumberRange, Trailing, TooDeep, TooManyLeaves}
use Rattle.tetri_parse.specs.declared.fault.Miss.{Miss}
use Rattle.tetri_parse.specs.declared.token.Class.TheVariants.{Blank, Digit, Letter, Named}
use Rattle.tetri_parse.specs.declared.token.Word.{Word}
use Rattle.tetri_parse.specs.declared.token.Word.TheVariants as word
use Rattle.tetri_parse.specs.FirstPass.{front_word, IsSameThrough, FaultIsWithin, FaultStays}
use Rattle.tetri_parse.specs.Grammar.{Rest, leaf_at, part_with_number, goes_on_to_child, children_at, body_at, expr_at, whole_at}
use Rattle.tetri_parse.specs.Phrase.{Phrase, joined, nothing}
use Rattle.tetri_parse.specs.Rows.{row_at}
use Rattle.tetri_parse.specs.SetText.{Part, every, tagged, listed, listed_first, part_first, part_at, and_first, and_at, shared_nodes, set_at}
use Rattle.tetri_parse.specs.Tokens.{stands, skip_blanks, missed, missing, mark_first, mark_at, known_word, word_first, word_at, name_first, name_at, goes_on_first, goes_on_at, numeral, number_in, number_first, number_at}
use Rattle.tetri_parse.proofs.Lengths.{skip_shorter, goes_on_takes, and_takes}
use Rattle.tetri_parse.proofs.Places.{Behind, Place, Kind, plain, valued, equal, Ahead, all_behind, byte_behind, drop_behind, none_behind, at_first, at_end, missing_first, further, reach, reach_le, ahead_bind}
use Rattle.tetri_parse.proofs.Runs.{run, run_more, run_none, blank_first, skipped_still, narrower, letter_named, digit_named}
use Rattle.tetri_parse.proofs.Steps.{both, same_ok}
use Rattle.tetri_parse.proofs.TokensBack.{no_blank}
use Rattle.tetri_parse.proofs.WordFirst.{crowded, refused_or, word_or, behind_word, word_then_body}

-- what is left behind an expression, with the number of leaves
abbrev counted : Kind Rest
counted = equal plain

-- a whole expression; no text is left then
abbrev done : Kind Phrase
done = record { text = λ p. []; same = λ p q. Unit {0}; itself = λ p. tt }

-- two texts that are the same up to the byte c, behind which cs and ds stand; no blank is there, and the same run of a name's bytes
module _ (c : ℕ) (cs ds : List ℕ) (still : stands Blank c ≡ false) (named : run (stands Named) (c ∷ cs) ≡ run (stands Named) (c ∷ ds)) where
  data Like : List ℕ → List ℕ → Type 0 where
    here : Like (c ∷ cs) (c ∷ ds)
    there : (b : ℕ) (t u : List ℕ) → Like t u → Like (b ∷ t) (b ∷ u)

  sizes : (t u : List ℕ) → Like t u → (length t + length (c ∷ ds) ≡ length u + length (c ∷ cs)) × (length (c ∷ cs) ≤ length t) × (length (c ∷ ds) ≤ length u)
  sizes _ _ here = (omega arith, omega arith, omega arith)
  sizes _ _ (there b t u l) = let s = sizes t u l in (omega (arith, s.0), omega (arith, s.1), omega (arith, s.2))

  -- what is left, if it reaches cs far
  abbrev Next : List ℕ → List ℕ → Type 0
  Next t u = length (c ∷ cs) ≤ length t → Like t u

  by_heads : (P : List ℕ → List ℕ → Type 0) → ((b : ℕ) (t u : List ℕ) → Like (b ∷ t) (b ∷ u) → Next t u → P (b ∷ t) (b ∷ u)) → (t u : List ℕ) → Like t u → P t u
  by_heads P f _ _ here = f c cs ds here (λ g. absurd (omega (arith, g)))
  by_heads P f _ _ (there b t u l) = f b t u (there b t u l) (λ g. l)

  skip_like : (t u : List ℕ) → Like t u → Like (skip_blanks t) (skip_blanks u)
  skip_like _ _ here = subst (λ t. Like t (skip_blanks (c ∷ ds))) (sym (no_blank c cs still)) (subst (λ u. Like (c ∷ cs) u) (sym (no_blank c ds still)) here)
  skip_like _ _ (there b t u l) = by_first (stands Blank b) refl (skip_like t u l)
    where
      by_first : (x : Bool) → stands Blank b ≡ x → Like (skip_blanks t) (skip_blanks u) → Like (skip_blanks (b ∷ t)) (skip_blanks (b ∷ u))
      by_first true is ih = subst (λ v. Like v (skip_blanks (b ∷ u))) (sym (blank_first b t is)) (subst (λ v. Like (skip_blanks t) v) (sym (blank_first b u is)) ih)
      by_first false is ih = subst (λ v. Like v (skip_blanks (b ∷ u))) (sym (no_blank b t is)) (subst (λ v. Like (b ∷ t) v) (sym (no_blank b u is)) (there b t u l))

  -- runs of so many bytes, the same in both
  record Runs (n m : ℕ) (t u : List ℕ) : Type 0 where
    count : n ≡ m
    taken : take n t ≡ take m u
    rest : Next (drop n t) (drop m u)

  runs : (p : ℕ → Bool) → ((b : ℕ) → p b ≡ true → stands Named b ≡ true) → (t u : List ℕ) → Like t u → Runs (prefix_len p t) (prefix_len p u) t u
  runs p within _ _ here =
      let x = narrower p (stands Named) within (c ∷ cs) in
      let y = narrower p (stands Named) within (c ∷ ds) in
      let same = sym x.0 ∙ ap (prefix_len p) named ∙ y.0 in
      record {
        count = same;
        taken = sym x.1 ∙ ap (take (prefix_len p (c ∷ cs))) named ∙ ap (λ k. take k (run (stands Named) (c ∷ ds))) same ∙ y.1;
        rest = λ g.
            let none : prefix_len p (c ∷ cs) ≡ 0 = omega (arith, g, length-drop (prefix_len p (c ∷ cs)) (c ∷ cs)) in
            subst (λ k. Like (drop k (c ∷ cs)) (drop (prefix_len p (c ∷ ds)) (c ∷ ds))) (sym none) (subst (λ k. Like (c ∷ cs) (drop k (c ∷ ds))) (sym none ∙ same) here);
      }
  runs p within _ _ (there b t u l) = by_first (p b) refl (runs p within t u l)
    where
      by_first : (x : Bool) → p b ≡ x → Runs (prefix_len p t) (prefix_len p u) t u → Runs (prefix_len p (b ∷ t)) (prefix_len p (b ∷ u)) (b ∷ t) (b ∷ u)
      by_first true is r =
          subst (λ n. Runs n (prefix_len p (b ∷ u)) (b ∷ t) (b ∷ u)) (sym (run_more p b t is))
          (subst (λ m. Runs (suc (prefix_len p t)) m (b ∷ t) (b ∷ u)) (sym (run_more p b u is))
          (record { count = ap suc r.count; taken = ap (λ v. b ∷ v) r.taken; rest = r.rest }))
      by_first false is r =
          subst (λ n. Runs n (prefix_len p (b ∷ u)) (b ∷ t) (b ∷ u)) (sym (run_none p b t is))
          (subst (λ m. Runs 0 m (b ∷ t) (b ∷ u)) (sym (run_none p b u is))
          (record { count = refl; taken = refl; rest = λ g. there b t u l }))

  -- what a step gives at the one text follows what it gives at the other
  abbrev Follows : {Y : Type 0} → Kind Y → Y → Result Y Miss → Type 0
  Follows k y (Ok z) = k.same y z × Like (k.text y) (k.text z)
  Follows k y (Err m) = ⊥

  abbrev Kept : {Y : Type 0} → Kind Y → Result Y Miss → Result Y Miss → Type 0
  Kept k (Ok y) q = length (c ∷ cs) ≤ length (k.text y) → Follows k y q
  Kept k (Err m) q = m.left ≡ length (c ∷ cs) → q ≡ Err (record { fault = m.fault; left = length (c ∷ ds) })

  module _ {Y : Type 0} (k : Kind Y) where
    when_reached : (r q : Result Y Miss) → (length (c ∷ cs) ≤ reach k r → Kept k r q) → Kept k r q
    when_reached (Ok y) q h = λ g. h g g
    when_reached (Err m) q h = λ g. h (omega (arith, g)) g

    missed_kept : (fault : Fault) (t u : List ℕ) → Like t u → Kept k (Err (missed fault t)) (Err (missed fault u))
    missed_kept fault t u l = λ g. ap (λ n. Err (record { fault = fault; left = n })) (omega (arith, (sizes t u l).0, g))

    missing_kept : (t u : List ℕ) → Like t u → Kept k (Err (missing t)) (Err (missing u))
    missing_kept = by_heads (λ t u. Kept k (Err (missing t)) (Err (missing u))) (λ b t u l next. missed_kept Unexpected (b ∷ t) (b ∷ u) l)

    tested : (a b : Bool) (r q s v : Result Y Miss) → a ≡ b → (a ≡ true → Kept k r q) → (a ≡ false → Kept k s v) → Kept k (if a then r else s) (if b then q else v)
    tested true true r q s v e f g = f refl
    tested false false r q s v e f g = g refl
    tested true false r q s v e f g = absurd (cc)
    tested false true r q s v e f g = absurd (cc)

    kept_bind : {X : Type 0} (j : Kind X) (r q : Result X Miss) (g i : X → Result Y Miss) → ((x : X) → Ahead k (j.text x) (g x)) → Kept j r q → ((x z : X) → r ≡ Ok x → j.same x z → Like (j.text x) (j.text z) → Kept k (g x) (i z)) → Kept k (r >>= g) (q >>= i)
    kept_bind j (Err m) q g i ahead kept next = λ h. ap (λ s. s >>= i) (kept h)
    kept_bind {X = X} j (Ok x) q g i ahead kept next = when_reached (g x) (q >>= i) (λ h. follow q (kept (omega (arith, h, reach_le k (j.text x) (g x) (ahead x)))))
      where
        follow : (q : Result X Miss) → Follows j x q → Kept k (g x) (q >>= i)
        follow (Ok z) f = next x z refl f.0 f.1
        follow (Err m) f = absurd f

  -- a step at each of two texts
  record IsStep {X Y : Type 0} (j : Kind X) (k : Kind Y) (f h : X → Result Y Miss) : Type 0 where
    ahead : (x : X) → Ahead k (j.text x) (f x)
    kept : (x z : X) → j.same x z → Like (j.text x) (j.text z) → Kept k (f x) (h z)

  after : {X Y Z : Type 0} {j : Kind X} {k : Kind Y} {l : Kind Z} {f h : X → Result Y Miss} {g i : X → Y → Result Z Miss} → IsStep j k f h → ((x z : X) → j.same x z → IsStep k l (g x) (i z)) → IsStep j l (λ x. f x >>= g x) (λ x. h x >>= i x)
  after {j = j} {k = k} {l = l} {f = f} {h = h} {g = g} {i = i} s t = record {
    ahead = λ x. ahead_bind l k (j.text x) (f x) (g x) (s.ahead x) (t x x (j.itself x)).ahead;
    kept = λ x z same like. kept_bind l k (f x) (h z) (g x) (i z) (t x x (j.itself x)).ahead (s.kept x z same like) (λ y w is. (t x z same).kept y w);
  }

  -- a step at a text that begins with no blank
  record IsFirst {Y : Type 0} (k : Kind Y) (f h : List ℕ → Result Y Miss) : Type 0 where
    ahead : (t : List ℕ) → skip_blanks t ≡ t → Ahead k t (f t)
    kept : (t u : List ℕ) → Like t u → Kept k (f t) (h u)

  skipped : {Y : Type 0} (k : Kind Y) (f h : List ℕ → Result Y Miss) → IsFirst k f h → IsStep plain k (λ t. f (skip_blanks t)) (λ t. h (skip_blanks t))
  skipped k f h s = record {
    ahead = λ t. further k t (skip_blanks t) (f (skip_blanks t)) (drop_behind (prefix_len (stands Blank) t) t) (s.ahead (skip_blanks t) (skipped_still t));
    kept = λ t u same l. s.kept (skip_blanks t) (skip_blanks u) (skip_like t u l);
  }

  choose : {Y : Type 0} (k : Kind Y) (t : List ℕ) (b : Bool) (r s : Result Y Miss) → Ahead k t r → Ahead k t s → Ahead k t (if b then r else s)
  choose k t true r s x y = x
  choose k t false r s x y = y

  -- what is read behind a byte that is read
  behind_byte : {Y : Type 0} (k : Kind Y) (f h : List ℕ → Result Y Miss) → IsStep plain k f h → (t u : List ℕ) → Next t u → Kept k (f t) (h u)
  behind_byte k f h s t u next = when_reached k (f t) (h u) (λ g. s.kept t u tt (next (omega (arith, g, reach_le k t (f t) (s.ahead t)))))

  by_bytes : (P : List ℕ → Type 0) → P [] → ((b : ℕ) (t : List ℕ) → P (b ∷ t)) → (t : List ℕ) → P t
  by_bytes P none some [] = none
  by_bytes P none some (b ∷ t) = some b t

  -- a step that looks at its first byte
  first_byte : {Y : Type 0} (k : Kind Y) (f : List ℕ → Result Y Miss) → Ahead k [] (f []) → ((b : ℕ) (t : List ℕ) → skip_blanks (b ∷ t) ≡ b ∷ t → Ahead k (b ∷ t) (f (b ∷ t))) → ((b : ℕ) (t u : List ℕ) → Like (b ∷ t) (b ∷ u) → Next t u → Kept k (f (b ∷ t)) (f (b ∷ u))) → IsStep plain k (λ t. f (skip_blanks t)) (λ t. f (skip_blanks t))
  first_byte k f none ahead kept = skipped k f f (record { ahead = by_bytes (λ t. skip_blanks t ≡ t → Ahead k t (f t)) (λ s. none) ahead; kept = by_heads (λ t u. Kept k (f t) (f u)) kept })

  -- a step that only makes another value
  ends : {X Y : Type 0} (j : Kind X) (k : Kind Y) (v w : X → Y) → ((x : X) → k.text (v x) ≡ j.text x) → ((x : X) → k.text (w x) ≡ j.text x) → ((x z : X) → j.same x z → k.same (v x) (w z)) → IsStep j k (λ x. Ok (v x)) (λ x. Ok (w x))
  ends j k v w e f same = record {
    ahead = λ x. subst (λ t. Behind (j.text x) t) (sym (e x)) (all_behind (j.text x));
    kept = λ x z s l g. (same x z s, subst (λ t. Like t (k.text (w z))) (sym (e x)) (subst (λ u. Like (j.text x) u) (sym (f z)) l));
  }

  mark_step : (mark : ℕ) → IsStep plain plain (mark_at mark) (mark_at mark)
  mark_step mark = first_byte plain (mark_first mark) (at_end [])
      (λ b t s. choose plain (b ∷ t) (b == mark) (Ok t) (Err (missing (b ∷ t))) (byte_behind b t) (at_first (b ∷ t) s))
      (λ b t u l next. tested plain (b == mark) (b == mark) (Ok t) (Ok u) (Err (missing (b ∷ t))) (Err (missing (b ∷ u))) refl (λ is g. (tt, next g)) (λ is. missing_kept plain (b ∷ t) (b ∷ u) l))

  goes_on_step : (last : ℕ) → IsStep plain (equal plain) (goes_on_at last) (goes_on_at last)
  goes_on_step last = first_byte k (goes_on_first last) (at_end [])
      (λ b t s. choose k (b ∷ t) (b == 44) (Ok (true, t)) (other b t) (byte_behind b t) (choose k (b ∷ t) (b == last) (Ok (false, t)) (Err (missing (b ∷ t))) (byte_behind b t) (at_first (b ∷ t) s)))
      (λ b t u l next. tested k (b == 44) (b == 44) (Ok (true, t)) (Ok (true, u)) (other b t) (other b u) refl (λ is g. ((refl, tt), next g)) (λ is.
      tested k (b == last) (b == last) (Ok (false, t)) (Ok (false, u)) (Err (missing (b ∷ t))) (Err (missing (b ∷ u))) refl (λ is g. ((refl, tt), next g)) (λ is. missing_kept k (b ∷ t) (b ∷ u) l)))
    where
      k : Kind (Bool × List ℕ)
      k = equal plain

      other : ℕ → List ℕ → Result (Bool × List ℕ) Miss
      other b t = if b == last then Ok (false, t) else Err (missing (b ∷ t))

  name_step : IsStep plain (valued plain) name_at name_at
  name_step = skipped k (λ t. name_first (count t) t) (λ t. name_first (count t) t) (record {
    ahead = λ t s. choose k t (count t == 0) (Err (missing t)) (found t) (missing_first t s) (drop_behind (count t) t);
    kept = λ t u l.
        let r = runs (stands Named) (λ b e. e) t u l in
        tested k (count t == 0) (count u == 0) (Err (missing t)) (Err (missing u)) (found t) (found u) (ap (λ n. n == 0) r.count) (λ is. missing_kept k t u l) (λ is g. (tt, r.rest g));
  })
    where
      k : Kind (List ℕ × List ℕ)
      k = valued plain

      count : List ℕ → ℕ
      count t = prefix_len (stands Named) t

      found : List ℕ → Result (List ℕ × List ℕ) Miss
      found t = Ok (take (count t) t, drop (count t) t)

  number_step : (low high : ℕ) → IsStep plain (valued plain) (number_at low high) (number_at low high)
  number_step low high = skipped k (λ t. number_first low high (count t) t) (λ t. number_first low high (count t) t) (record {
    ahead = λ t s. choose k t (count t == 0) (Err (missing t)) (number_in low high (value t) t (drop (count t) t)) (missing_first t s) (choose k t (out (value t)) (Err (missed NumberRange t)) (Ok (value t, drop (count t) t)) (at_first t s) (drop_behind (count t) t));
    kept = λ t u l.
        let r = runs (stands Digit) digit_named t u l in
        tested k (count t == 0) (count u == 0) (Err (missing t)) (Err (missing u)) (number_in low high (value t) t (drop (count t) t)) (number_in low high (value u) u (drop (count u) u)) (ap (λ n. n == 0) r.count) (λ is. missing_kept k t u l) (λ is.
        tested k (out (value t)) (out (value u)) (Err (missed NumberRange t)) (Err (missed NumberRange u)) (Ok (value t, drop (count t) t)) (Ok (value u, drop (count u) u)) (ap (λ ds. out (numeral ds)) r.taken) (λ is. missed_kept k NumberRange t u l) (λ is g. (tt, r.rest g)));
  })
    where
      k : Kind (ℕ × List ℕ)
      k = valued plain

      count : List ℕ → ℕ
      count t = prefix_len (stands Digit) t

      value : List ℕ → ℕ
      value t = numeral (take (count t) t)

      out : ℕ → Bool
      out n = nat_lt n low || nat_lt high n

  tagged_step : IsStep plain (valued plain) (λ t. name_at t >>= λ name. Ok (tagged name.0, name.1)) (λ t. name_at t >>= λ name. Ok (tagged name.0, name.1))
  tagged_step = after name_step (λ x z same. ends (valued plain) (valued plain) (λ name. (tagged name.0, name.1)) (λ name. (tagged name.0, name.1)) (λ name. refl) (λ name. refl) (λ a b s. s))

  -- items one after the other, of which another follows behind a byte at least
  module _ {A Y : Type 0} (j : Kind Y) (item other : Y → Result (A × Y) Miss) (goes_on goes : Y → Result (Bool × Y) Miss)
      (item_step : IsStep j (valued j) item other) (goes_step : IsStep j (equal j) goes_on goes) (takes : (s x : Y) → goes_on s ≡ Ok (true, x) → length (j.text x) < length (j.text s)) where
    more_ahead : (n : ℕ) → ((s : Y) → Ahead (valued j) (j.text s) (row_at item goes_on n s)) → (first : A × Y) (next : Bool × Y) → Ahead {Y = List A × Y} (valued j) (j.text next.1) (if next.0 then (row_at item goes_on n next.1 >>= λ others. Ok (first.0 ∷ others.0, others.1)) else Ok (first.0 ∷ [], next.1))
    more_ahead n ih first next =
        choose (valued j) (j.text next.1) next.0 (row_at item goes_on n next.1 >>= λ others. Ok (first.0 ∷ others.0, others.1)) (Ok (first.0 ∷ [], next.1))
        (ahead_bind (valued j) (valued j) (j.text next.1) (row_at item goes_on n next.1) (λ others. Ok (first.0 ∷ others.0, others.1)) (ih next.1) (λ others. all_behind (j.text others.1)))
        (all_behind (j.text next.1))

    row_ahead : (n : ℕ) (s : Y) → Ahead (valued j) (j.text s) (row_at item goes_on n s)
    unfolding row_at
    row_ahead zero s = at_end (j.text s)
    row_ahead (suc n) s =
        ahead_bind (valued j) (valued j) (j.text s) (item s) (λ first. goes_on first.1 >>= λ next. if next.0 then (row_at item goes_on n next.1 >>= λ others. Ok (first.0 ∷ others.0, others.1)) else Ok (first.0 ∷ [], next.1)) (item_step.ahead s)
        (λ first. ahead_bind (valued j) (equal j) (j.text first.1) (goes_on first.1) (λ next. if next.0 then (row_at item goes_on n next.1 >>= λ others. Ok (first.0 ∷ others.0, others.1)) else Ok (first.0 ∷ [], next.1)) (goes_step.ahead first.1) (more_ahead n (row_ahead n) first))

    row_kept : (n m : ℕ) (s u : Y) → j.same s u → Like (j.text s) (j.text u) → length (j.text u) ≤ m → Kept (valued j) (row_at item goes_on n s) (row_at other goes m u)
    unfolding row_at
    row_kept zero m s u same l le = λ g. absurd (omega (arith, g))
    row_kept (suc n) zero s u same l le = absurd (omega (arith, le, (sizes (j.text s) (j.text u) l).2))
    row_kept (suc n) (suc m) s u same l le =
        kept_bind (valued j) (valued j) (item s) (other u) (λ first. goes_on first.1 >>= λ next. behind first next) (λ first. goes first.1 >>= λ next. behind_other first next)
        (λ first. ahead_bind (valued j) (equal j) (j.text first.1) (goes_on first.1) (behind first) (goes_step.ahead first.1) (more_ahead n (row_ahead n) first))
        (item_step.kept s u same l)
        (λ x z is same_x like_x. kept_bind (valued j) (equal j) (goes_on x.1) (goes z.1) (behind x) (behind_other z) (more_ahead n (row_ahead n) x) (goes_step.kept x.1 z.1 same_x like_x) (λ y w at same_y like_y.
        tested (valued j) y.0 w.0 (row_at item goes_on n y.1 >>= λ others. Ok (x.0 ∷ others.0, others.1)) (row_at other goes m w.1 >>= λ others. Ok (z.0 ∷ others.0, others.1)) (Ok (x.0 ∷ [], y.1)) (Ok (z.0 ∷ [], w.1)) same_y.0
        (λ on. kept_bind (valued j) (valued j) (row_at item goes_on n y.1) (row_at other goes m w.1) (λ others. Ok (x.0 ∷ others.0, others.1)) (λ others. Ok (z.0 ∷ others.0, others.1)) (λ others. all_behind (j.text others.1))
        (row_kept n m y.1 w.1 same_y.1 like_y (omega (arith, le, (sizes (j.text s) (j.text u) l).0, (sizes (j.text y.1) (j.text w.1) like_y).0, takes x.1 y.1 (at ∙ ap (λ b. Ok (b, y.1)) on), reach_le (valued j) (j.text s) (Ok x) (subst (λ r. Ahead (valued j) (j.text s) r) is (item_step.ahead s)))))
        (λ a b at same_a like_a g. (same_a, like_a)))
        (λ off g. (same_y.1, like_y))))
      where
        behind : A × Y → Bool × Y → Result (List A × Y) Miss
        behind first next = if next.0 then (row_at item goes_on n next.1 >>= λ others. Ok (first.0 ∷ others.0, others.1)) else Ok (first.0 ∷ [], next.1)

        behind_other : A × Y → Bool × Y → Result (List A × Y) Miss
        behind_other first next = if next.0 then (row_at other goes m next.1 >>= λ others. Ok (first.0 ∷ others.0, others.1)) else Ok (first.0 ∷ [], next.1)

  -- items of a text alone
  row_step : {A : Type 0} (item : List ℕ → Result (A × List ℕ) Miss) (goes_on : List ℕ → Result (Bool × List ℕ) Miss) → IsStep plain (valued plain) item item → IsStep plain (equal plain) goes_on goes_on → ((s x : List ℕ) → goes_on s ≡ Ok (true, x) → length x < length s) → IsStep plain (valued plain) (λ t. row_at item goes_on (length t) t) (λ t. row_at item goes_on (length t) t)
  row_step item goes_on a b takes = record {
    ahead = λ t. row_ahead plain item item goes_on goes_on a b takes (length t) t;
    kept = λ t u same l. row_kept plain item item goes_on goes_on a b takes (length t) (length u) t u same l (omega arith);
  }

  names_step : IsStep plain (valued plain) (λ t. row_at name_at (goes_on_at 125) (length t) t >>= λ names. Ok (listed names.0, names.1)) (λ t. row_at name_at (goes_on_at 125) (length t) t >>= λ names. Ok (listed names.0, names.1))
  names_step = after (row_step name_at (goes_on_at 125) name_step (goes_on_step 125) (goes_on_takes 125)) (λ x z same. ends (valued plain) (valued plain) (λ names. (listed names.0, names.1)) (λ names. (listed names.0, names.1)) (λ names. refl) (λ names. refl) (λ a b s. s))

  listed_step : IsStep plain (valued plain) (λ t. listed_first (skip_blanks t)) (λ t. listed_first (skip_blanks t))
  listed_step = first_byte k listed_first (at_end [])
      (λ b t s. choose k (b ∷ t) (b == 125) (Ok (listed [], t)) (names (b ∷ t)) (byte_behind b t) (names_step.ahead (b ∷ t)))
      (λ b t u l next. tested k (b == 125) (b == 125) (Ok (listed [], t)) (Ok (listed [], u)) (names (b ∷ t)) (names (b ∷ u)) refl (λ is g. (tt, next g)) (λ is. names_step.kept (b ∷ t) (b ∷ u) tt l))
    where
      k : Kind (Part × List ℕ)
      k = valued plain

      names : List ℕ → Result (Part × List ℕ) Miss
      names t = row_at name_at (goes_on_at 125) (length t) t >>= λ names. Ok (listed names.0, names.1)

  part_step : IsStep plain (valued plain) part_at part_at
  unfolding part_at
  part_step = first_byte k part_first (at_end [])
      (λ b t s. choose k (b ∷ t) (b == 42) (Ok (every, t)) (other b t) (byte_behind b t) (choose k (b ∷ t) (b == 123) (listed_first (skip_blanks t)) (name (b ∷ t)) (further k (b ∷ t) t (listed_first (skip_blanks t)) (byte_behind b t) (listed_step.ahead t)) (tagged_step.ahead (b ∷ t))))
      (λ b t u l next. tested k (b == 42) (b == 42) (Ok (every, t)) (Ok (every, u)) (other b t) (other b u) refl (λ is g. (tt, next g)) (λ is.
      tested k (b == 123) (b == 123) (listed_first (skip_blanks t)) (listed_first (skip_blanks u)) (name (b ∷ t)) (name (b ∷ u)) refl (λ is. behind_byte k (λ t. listed_first (skip_blanks t)) (λ t. listed_first (skip_blanks t)) listed_step t u next) (λ is. tagged_step.kept (b ∷ t) (b ∷ u) tt l)))
    where
      k : Kind (Part × List ℕ)
      k = valued plain

      name : List ℕ → Result (Part × List ℕ) Miss
      name t = name_at t >>= λ name. Ok (tagged name.0, name.1)

      other : ℕ → List ℕ → Result (Part × List ℕ) Miss
      other b t = if b == 123 then listed_first (skip_blanks t) else name (b ∷ t)

  and_step : IsStep plain (equal plain) (λ t. Ok (and_at t)) (λ t. Ok (and_at t))
  and_step = record {
    ahead = λ t. stands_behind t (skip_blanks t) (drop_behind (prefix_len (stands Blank) t) t);
    kept = λ t u same l. by_heads (λ v w. length (c ∷ cs) ≤ length (and_first v t).1 → Follows (equal plain) (and_first v t) (Ok (and_first w u))) (λ b v w m next. by_mark t u l v w next (b == 38)) (skip_blanks t) (skip_blanks u) (skip_like t u l);
  }
    where
      marked : Bool → List ℕ → List ℕ → Bool × List ℕ
      marked m v t = if m then (true, v) else (false, t)

      behind_mark : (t v : List ℕ) (m : Bool) → Behind t v → Behind t (marked m v t).1
      behind_mark t v true b = b
      behind_mark t v false b = all_behind t

      stands_behind : (t v : List ℕ) → Behind t v → Behind t (and_first v t).1
      stands_behind t [] w = all_behind t
      stands_behind t (b ∷ v) w = behind_mark t v (b == 38) (further plain t (b ∷ v) (Ok v) w (byte_behind b v))

      by_mark : (t u : List ℕ) → Like t u → (v w : List ℕ) → Next v w → (m : Bool) → length (c ∷ cs) ≤ length (marked m v t).1 → Follows (equal plain) (marked m v t) (Ok (marked m w u))
      by_mark t u l v w next true g = ((refl, tt), next g)
      by_mark t u l v w next false g = ((refl, tt), l)

  set_step : (cluster : List NodeText) → IsStep plain (valued plain) (set_at cluster) (set_at cluster)
  unfolding set_at
  set_step cluster = after (row_step part_at (λ t. Ok (and_at t)) part_step and_step and_takes) (λ x z same. ends (valued plain) (valued plain) (λ parts. (shared_nodes cluster parts.0, parts.1)) (λ parts. (shared_nodes cluster parts.0, parts.1)) (λ parts. refl) (λ parts. refl) (λ a b s. s))

  -- a step at what another left
  on_rest : {A X Y : Type 0} {j : Kind X} {k : Kind Y} {f h : X → Result Y Miss} → IsStep j k f h → IsStep {X = A × X} (valued j) k (λ x. f x.1) (λ x. h x.1)
  on_rest s = record { ahead = λ x. s.ahead x.1; kept = λ x z. s.kept x.1 z.1 }

  -- a step behind blanks
  past_blanks : {Y : Type 0} {k : Kind Y} {f h : List ℕ → Result Y Miss} → IsStep plain k f h → IsStep plain k (λ t. f (skip_blanks t)) (λ t. h (skip_blanks t))
  past_blanks {k = k} {f = f} s = record {
    ahead = λ t. further k t (skip_blanks t) (f (skip_blanks t)) (drop_behind (prefix_len (stands Blank) t) t) (s.ahead (skip_blanks t));
    kept = λ t u same l. s.kept (skip_blanks t) (skip_blanks u) tt (skip_like t u l);
  }

  module _ (cluster : List NodeText) where
    leaf_step : (linear : Bool) (num near left far : ℕ) → IsStep plain (valued plain) (leaf_at cluster linear num left) (leaf_at cluster linear near far)
    unfolding leaf_at
    leaf_step linear num near left far =
        after (mark_step 40) (λ _ _ _. after (past_blanks (set_step cluster)) (λ _ _ _. after (on_rest (mark_step 44)) (λ _ _ _. after (number_step 1 4096) (λ _ _ _. after (on_rest (mark_step 44)) (λ _ _ _. after (number_step 0 10000) (λ _ _ _.
        after (on_rest (mark_step 44)) (λ _ _ _. after (number_step 1 10000) (λ _ _ _. after (on_rest (mark_step 44)) (λ _ _ _. after (past_blanks (number_step 0 PEAK)) (λ _ _ _. after (on_rest (mark_step 41)) (λ _ _ _.
        ends plain (valued plain) _ _ (λ x. refl) (λ x. refl) (λ x z s. tt))))))))))))

  -- steps that give the same
  agrees : {X Y : Type 0} {j : Kind X} {k : Kind Y} {f g : X → Result Y Miss} → ((x : X) → f x ≡ g x) → IsStep j k g g → IsStep j k f f
  agrees {j = j} {k = k} {f = f} {g = g} e s = record {
    ahead = λ x. subst (λ r. Ahead k (j.text x) r) (sym (e x)) (s.ahead x);
    kept = λ x z same l. subst (λ r. Kept k r (f z)) (sym (e x)) (subst (λ q. Kept k (g x) q) (sym (e z)) (s.kept x z same l));
  }

  word_step : (test : Word → ℕ → Bool) (fault : Fault) → IsStep counted (equal plain) (word_or test fault) (word_or test fault)
  word_step test fault = record {
    ahead = λ s.
        let t = skip_blanks s.1 in
        further k s.1 t (word_or test fault s) (drop_behind (prefix_len (stands Blank) s.1) s.1) (from t (skipped_still s.1) s.0 (known_word (run (stands Letter) t)));
    kept = λ s u same l.
        let t = skip_like s.1 u.1 l in
        let r = runs (stands Letter) letter_named (skip_blanks s.1) (skip_blanks u.1) t in
        subst (λ o. Kept k (word_or test fault s) (word_first o (after_word (skip_blanks u.1)) (skip_blanks u.1) >>= λ w. refused_or (test w.0 u.0) fault (skip_blanks u.1) w)) (ap known_word r.taken)
        (by_word (skip_blanks s.1) (skip_blanks u.1) t r.rest s.0 u.0 same.0 (known_word (run (stands Letter) (skip_blanks s.1))));
  }
    where
      k : Kind (Word × List ℕ)
      k = equal plain

      after_word : List ℕ → List ℕ
      after_word t = drop (prefix_len (stands Letter) t) t

      given : Option Word → List ℕ → List ℕ → ℕ → Result (Word × List ℕ) Miss
      given o rest t taken = word_first o rest t >>= λ w. refused_or (test w.0 taken) fault t w

      from : (t : List ℕ) → skip_blanks t ≡ t → (taken : ℕ) (o : Option Word) → Ahead k t (given o (after_word t) t taken)
      from t s taken None = missing_first t s
      from t s taken (Some w) = choose k t (test w taken) (Err (missed fault t)) (Ok (w, after_word t)) (at_first t s) (drop_behind (prefix_len (stands Letter) t) t)

      by_word : (t v : List ℕ) → Like t v → Next (after_word t) (after_word v) → (n m : ℕ) → n ≡ m → (o : Option Word) → Kept k (given o (after_word t) t n) (given o (after_word v) v m)
      by_word t v l next n m e None = missing_kept k t v l
      by_word t v l next n m e (Some w) = tested k (test w n) (test w m) (Err (missed fault t)) (Err (missed fault v)) (Ok (w, after_word t)) (Ok (w, after_word v)) (ap (test w) e) (λ is. missed_kept k fault t v l) (λ is g. ((refl, tt), next g))

  child_goes_on : (cluster : List NodeText) → IsStep counted (equal counted) (goes_on_to_child cluster) (goes_on_to_child cluster)
  child_goes_on cluster = record {
    ahead = λ s. (step s.0 s.0 refl).ahead s.1;
    kept = λ s u same l. (step s.0 u.0 same.0).kept s.1 u.1 tt l;
  }
    where
      step : (n m : ℕ) → n ≡ m → IsStep plain (equal counted) (λ t. goes_on_at 41 t >>= λ x. Ok (x.0, (n, x.1))) (λ t. goes_on_at 41 t >>= λ x. Ok (x.0, (m, x.1)))
      step n m e = after (goes_on_step 41) (λ _ _ _. ends (equal plain) (equal counted) (λ x. (x.0, (n, x.1))) (λ x. (x.0, (m, x.1))) (λ x. refl) (λ x. refl) (λ x z s. (s.0, (e, tt))))

  module _ (cluster : List NodeText) (child : Rest → Result (Phrase × Rest) Miss) (child_step : IsStep counted (valued counted) child child) where
    at_count : (taken : ℕ) → IsStep plain (valued counted) (λ t. child (taken, t)) (λ t. child (taken, t))
    at_count taken = record { ahead = λ t. child_step.ahead (taken, t); kept = λ t u same l. child_step.kept (taken, t) (taken, u) (refl, tt) l }

    part_step_with_number : (taken : ℕ) → IsStep plain (valued counted) (part_with_number cluster child taken) (part_with_number cluster child taken)
    unfolding part_with_number
    part_step_with_number taken =
        after (mark_step 40) (λ _ _ _. after (at_count taken) (λ _ _ _. after (mark_at_rest 44) (λ part other same. after (number_step 0 PEAK) (λ _ _ _. after (on_rest (mark_step 41)) (λ _ _ _.
        ends plain (valued counted) _ _ (λ x. refl) (λ x. refl) (λ x z s. same))))))
      where
        mark_at_rest : (mark : ℕ) → IsStep (valued counted) plain (λ (part : Phrase × Rest). mark_at mark part.1.1) (λ (part : Phrase × Rest). mark_at mark part.1.1)
        mark_at_rest mark = record { ahead = λ part. (mark_step mark).ahead part.1.1; kept = λ part other same l. (mark_step mark).kept part.1.1 other.1.1 tt l }

    children_step : (taken : ℕ) → IsStep plain (valued counted) (children_at cluster child taken) (children_at cluster child taken)
    unfolding children_at
    children_step taken = after (mark_step 40) (λ _ _ _. record {
      ahead = λ t. row_ahead counted child child (goes_on_to_child cluster) (goes_on_to_child cluster) child_step (child_goes_on cluster) takes (length t) (taken, t);
      kept = λ t u same l. row_kept counted child child (goes_on_to_child cluster) (goes_on_to_child cluster) child_step (child_goes_on cluster) takes (length t) (length u) (taken, t) (taken, u) (refl, tt) l (omega arith);
    })
      where
        takes : (s x : Rest) → goes_on_to_child cluster s ≡ Ok (true, x) → length x.1 < length s.1
        takes s x h =
            let a = both (goes_on_at 41 s.1) (λ y. Ok (y.0, (s.0, y.1))) (true, x) h in
            let e = same_ok (a.0.0, (s.0, a.0.1)) (true, x) a.2 in
            let on : a.0.0 ≡ true = ap (λ (y : Bool × Rest). y.0) e in
            let rest : a.0.1 ≡ x.1 = ap (λ (y : Bool × Rest). y.1.1) e in
            goes_on_takes 41 s.1 x.1 (a.1 ∙ ap (λ b. Ok (b, a.0.1)) on ∙ ap (λ t. Ok (true, t)) rest)

    body_step : (w : Word) (near far taken : ℕ) → IsStep plain (valued counted) (behind_word cluster child w near taken) (behind_word cluster child w far taken)
    unfolding body_at
    body_step (word.Leaf linear) near far taken = after (leaf_step cluster linear taken taken near far) (λ _ _ _. ends (valued plain) (valued counted) _ _ (λ x. refl) (λ x. refl) (λ x z s. (refl, tt)))
    body_step (word.Join j) near far taken = after (children_step taken) (λ _ _ _. ends (valued counted) (valued counted) _ _ (λ x. refl) (λ x. refl) (λ x z s. s))
    body_step word.Scale near far taken = after (part_step_with_number taken) (λ _ _ _. ends (valued counted) (valued counted) _ _ (λ x. refl) (λ x. refl) (λ x z s. s))
    body_step word.Barrier near far taken = after (part_step_with_number taken) (λ _ _ _. ends (valued counted) (valued counted) _ _ (λ x. refl) (λ x. refl) (λ x z s. s))

    -- what is read behind a word that is read
    word_body_step : (near far n m : ℕ) → n ≡ m → IsStep (equal plain) (valued counted) (λ (w : Word × List ℕ). behind_word cluster child w.0 near n w.1) (λ (w : Word × List ℕ). behind_word cluster child w.0 far m w.1)
    word_body_step near far n m e = record {
      ahead = λ w. (body_step w.0 near near n).ahead w.1;
      kept = λ w z same l. subst (λ (x : Word × ℕ). Kept (valued counted) (behind_word cluster child w.0 near n w.1) (behind_word cluster child x.0 far x.1 z.1)) {x = (w.0, n)} {y = (z.0, m)} (ap (λ v. (v, n)) same.0 ∙ ap (λ v. (z.0, v)) e) ((body_step w.0 near far n).kept w.1 z.1 tt l);
    }

  module _ (cluster : List NodeText) where
    expr_step : (levels : ℕ) → IsStep counted (valued counted) (expr_at cluster levels) (expr_at cluster levels)
    unfolding expr_at
    expr_step zero = agrees (λ s. none (word_at (skip_blanks s.1)) (skip_blanks s.1)) (after (word_step (λ w taken. true) TooDeep) (λ _ _ _. ends (equal plain) (valued counted) (λ w. (joined greatest 0 nothing, (0, w.1))) (λ w. (joined greatest 0 nothing, (0, w.1))) (λ w. refl) (λ w. refl) (λ w z s. (refl, tt))))
      where
        none : (r : Result (Word × List ℕ) Miss) (t : List ℕ) → Path (Result (Phrase × Rest) Miss) (r >>= λ w. Err (missed TooDeep t)) ((r >>= λ w. refused_or true TooDeep t w) >>= λ w. Ok (joined greatest 0 nothing, (0, w.1)))
        none (Ok w) t = refl
        none (Err m) t = refl
    expr_step (suc levels) =
        agrees (λ s. word_then_body cluster (expr_at cluster levels) (word_at (skip_blanks s.1)) (skip_blanks s.1) s.0) (after (word_step crowded TooManyLeaves) (λ s u same. word_body_step cluster (expr_at cluster levels) (expr_step levels) (length (skip_blanks s.1)) (length (skip_blanks u.1)) s.0 u.0 same.0))

    whole_step : IsStep plain done (whole_at cluster) (whole_at cluster)
    unfolding whole_at
    whole_step = after {k = valued counted} (record { ahead = λ t. (expr_step 64).ahead (0, t); kept = λ t u same l. (expr_step 64).kept (0, t) (0, u) (refl, tt) l }) (λ _ _ _. record {
      ahead = λ made. further done made.1.1 (skip_blanks made.1.1) (ended made.0 (skip_blanks made.1.1)) (drop_behind (prefix_len (stands Blank) made.1.1) made.1.1) (choose done (skip_blanks made.1.1) (length (skip_blanks made.1.1) == 0) (Ok made.0) (Err (missed Trailing (skip_blanks made.1.1))) (none_behind (skip_blanks made.1.1)) (at_first (skip_blanks made.1.1) (skipped_still made.1.1)));
      kept = λ made other same l. by_heads (λ t u. Kept done (ended made.0 t) (ended other.0 u)) (λ b t u m next. tested done (length (b ∷ t) == 0) (length (b ∷ u) == 0) (Ok made.0) (Ok other.0) (Err (missed Trailing (b ∷ t))) (Err (missed Trailing (b ∷ u))) (some b t ∙ sym (some b u)) (λ is. absurd (let e = some b t in cc)) (λ is. missed_kept done Trailing (b ∷ t) (b ∷ u) m)) (skip_blanks made.1.1) (skip_blanks other.1.1) (skip_like made.1.1 other.1.1 l);
    })
      where
        ended : Phrase → List ℕ → Result Phrase Miss
        ended p t = if length t == 0 then Ok p else Err (missed Trailing t)

        some : (b : ℕ) (t : List ℕ) → (length (b ∷ t) == 0) ≡ false
        some b t = grind (arith, nat_tests)

-- the fault of a text stands in it, at a byte that is no blank or at its end
fault_place : (cluster : List NodeText) (text : List ℕ) (m : Miss) → whole_at cluster text ≡ Err m → Place text m.left
fault_place cluster text m e = subst (λ r. Ahead done text r) e ((whole_step 0 [] [] refl refl cluster).ahead text)

pub fault_within : (cluster : List NodeText) (text : List ℕ) → FaultIsWithin cluster text
fault_within cluster text = by_result (whole_at cluster text) refl
  where
    by_result : (r : Result Phrase Miss) → whole_at cluster text ≡ r → IfErr r (λ m. m.left ≤ length text)
    by_result (Ok p) e = tt
    by_result (Err m) e = reach_le done text (Err m) (fault_place cluster text m e)

like_behind : (c : ℕ) (cs ds : List ℕ) (still : stands Blank c ≡ false) (named : run (stands Named) (c ∷ cs) ≡ run (stands Named) (c ∷ ds)) (front : List ℕ) → Like c cs ds still named (front ++ c ∷ cs) (front ++ c ∷ ds)
like_behind c cs ds still named [] = here
like_behind c cs ds still named (b ∷ bs) = there b (bs ++ c ∷ cs) (bs ++ c ∷ ds) (like_behind c cs ds still named bs)

-- a byte that is not skipped is no blank
not_blank : (c : ℕ) (cs : List ℕ) → skip_blanks (c ∷ cs) ≡ c ∷ cs → stands Blank c ≡ false
not_blank c cs h = by_test (stands Blank c) refl
  where
    by_test : (b : Bool) → stands Blank c ≡ b → stands Blank c ≡ false
    by_test false e = e
    by_test true e = absurd (omega (arith, ap length (sym (blank_first c cs e) ∙ h), skip_shorter cs))

-- the same word begins with the same run of a name's bytes
same_run : (c : ℕ) (cs ds : List ℕ) → front_word (c ∷ ds) ≡ front_word (c ∷ cs) → run (stands Named) (c ∷ cs) ≡ run (stands Named) (c ∷ ds)
same_run c cs ds h = by_test (stands Named c) refl h
  where
    by_test : (b : Bool) → stands Named c ≡ b → Path (List ℕ) (c ∷ (if b then run (stands Named) ds else [])) (c ∷ (if b then run (stands Named) cs else [])) → run (stands Named) (c ∷ cs) ≡ run (stands Named) (c ∷ ds)
    by_test true e g = ap (λ n. take n (c ∷ cs)) (run_more (stands Named) c cs e) ∙ sym g ∙ sym (ap (λ n. take n (c ∷ ds)) (run_more (stands Named) c ds e))
    by_test false e g = ap (λ n. take n (c ∷ cs)) (run_none (stands Named) c cs e) ∙ sym (ap (λ n. take n (c ∷ ds)) (run_none (stands Named) c ds e))

module _ (cluster : List NodeText) (front : List ℕ) (m : Miss) where
  -- behind the same front the same word stands first
  meets_again : (rest behind : List ℕ) → skip_blanks rest ≡ rest → length rest ≡ m.left → front_word behind ≡ front_word rest → whole_at cluster (front ++ rest) ≡ Err m → whole_at cluster (front ++ behind) ≡ Err (record { fault = m.fault; left = length behind })
  meets_again [] [] still size same e = e ∙ ap (λ n. Err (record { fault = m.fault; left = n })) (sym size)
  meets_again [] (d ∷ ds) still size same e = absurd (cc)
  meets_again (c ∷ cs) [] still size same e = absurd (cc)
  meets_again (c ∷ cs) (d ∷ ds) still size same e = from d (cc) same
    where
      from_same : front_word (c ∷ ds) ≡ front_word (c ∷ cs) → whole_at cluster (front ++ c ∷ ds) ≡ Err (record { fault = m.fault; left = length (c ∷ ds) })
      from_same word =
          let named = same_run c cs ds word in
          let calm = not_blank c cs still in
          subst (λ r. Kept c cs ds calm named done r (whole_at cluster (front ++ c ∷ ds))) e ((whole_step c cs ds calm named cluster).kept (front ++ c ∷ cs) (front ++ c ∷ ds) tt (like_behind c cs ds calm named front)) (sym size)

      from : (d : ℕ) → c ≡ d → front_word (d ∷ ds) ≡ front_word (c ∷ cs) → whole_at cluster (front ++ d ∷ ds) ≡ Err (record { fault = m.fault; left = length (d ∷ ds) })
      from d at word = subst (λ b. front_word (b ∷ ds) ≡ front_word (c ∷ cs) → whole_at cluster (front ++ b ∷ ds) ≡ Err (record { fault = m.fault; left = length (b ∷ ds) })) at from_same word

pub fault_stays : (cluster : List NodeText) (text : List ℕ) → FaultStays cluster text
fault_stays cluster text = by_result (whole_at cluster text) refl
  where
    by_result : (r : Result Phrase Miss) → whole_at cluster text ≡ r → IfErr r (λ m. (other : List ℕ) → IsSameThrough (length text - m.left) text other → whole_at cluster other ≡ Err (record { fault = m.fault; left = length other - (length text - m.left) }))
    by_result (Ok p) e = tt
    by_result (Err m) e = λ other same.
        let p = fault_place cluster text m e in
        let offset : length text - m.left ≡ length p.front = omega (arith, ap length p.whole, length-append p.front p.rest, p.size) in
        let cut : take (length text - m.left) text ≡ p.front = ap (λ n. take n text) offset ∙ ap (take (length p.front)) p.whole ∙ take-append_seam p.front p.rest in
        let rest : drop (length text - m.left) text ≡ p.rest = ap (λ n. drop n text) offset ∙ ap (drop (length p.front)) p.whole ∙ drop-append_seam p.front p.rest in
        let behind = drop (length text - m.left) other in
        let whole : other ≡ p.front ++ behind = sym (take-append-drop (length text - m.left) other) ∙ ap (λ t. t ++ behind) (same.0 ∙ cut) in
        let again = meets_again cluster p.front m p.rest behind p.still p.size (same.1 ∙ ap front_word rest) (ap (whole_at cluster) (sym p.whole) ∙ e) in
        ap (whole_at cluster) whole ∙ again ∙ ap (λ n. Err (record { fault = m.fault; left = n })) (length-drop (length text - m.left) other)
