-- No step of reading leaves more bytes than it was given, and one over a mark leaves fewer.
use Rattle.std.proofs.Common.{◌≡◌, ℕ, zero, suc, ◌<◌, ◌≤◌, ◌||◌, ◌==◌, Bool, true, false, nat_lt, if◌then◌else◌, List, [], ◌∷◌, length, take, drop, Option, Some, None, Result, Ok, Err, ap, arith, length-drop}
use Rattle.std.specs.List.{prefix_len}
use Rattle.tetri_base.specs.ResultSteps.{◌>>=◌}
use Rattle.tetri_cluster.specs.declared.cluster.NodeText.{NodeText}
use Rattle.tetri_parse.specs.declared.fault.Fault.TheVariants.{NumberRange}
use Rattle.tetri_parse.specs.declared.fault.Miss.{Miss}
use Rattle.tetri_parse.specs.declared.token.Class.TheVariants.{Blank, Digit, Letter, Named}
use Rattle.tetri_parse.specs.declared.token.Word.{Word}
use Rattle.tetri_parse.specs.Rows.{row_at}
use Rattle.tetri_parse.specs.SetText.{Part, every, tagged, listed, listed_first, part_first, part_at, and_first, and_at, parts_at, shared_nodes, set_at}
use Rattle.tetri_parse.specs.Tokens.{stands, skip_blanks, missed, missing, mark_first, mark_at, known_word, word_first, word_at, name_at, goes_on_first, goes_on_at, numeral, number_in, number_at}
use Rattle.tetri_parse.proofs.Steps.{both, passed, same_ok}

pub skip_shorter : (text : List ℕ) → length (skip_blanks text) ≤ length text
skip_shorter text = omega (arith, length-drop (prefix_len (stands Blank) text) text)

pub mark_shorter : (mark : ℕ) (text rest : List ℕ) → mark_at mark text ≡ Ok rest → length rest < length text
mark_shorter mark text rest h = from (skip_blanks text) (skip_shorter text) h
  where
    from : (t : List ℕ) → length t ≤ length text → mark_first mark t ≡ Ok rest → length rest < length text
    from [] le g = absurd (cc)
    from (b ∷ bs) le g = by_mark (b == mark) g
      where
        by_mark : (m : Bool) → (if m then Ok bs else Err (missing (b ∷ bs))) ≡ Ok rest → length rest < length text
        by_mark true f = let e : bs ≡ rest = same_ok bs rest f in omega (arith, ap length e, le)
        by_mark false f = absurd (cc)

pub word_shorter : (text : List ℕ) (x : Word × List ℕ) → word_at text ≡ Ok x → length x.1 ≤ length text
word_shorter text x h = by_word (known_word (take (prefix_len (stands Letter) text) text)) h
  where
    by_word : (o : Option Word) → word_first o (drop (prefix_len (stands Letter) text) text) text ≡ Ok x → length x.1 ≤ length text
    by_word None g = absurd (cc)
    by_word (Some w) g =
        let e = same_ok (w, drop (prefix_len (stands Letter) text) text) x g in
        omega (arith, ap (λ (y : Word × List ℕ). length y.1) e, length-drop (prefix_len (stands Letter) text) text)

pub number_shorter : (low high : ℕ) (text : List ℕ) (x : ℕ × List ℕ) → number_at low high text ≡ Ok x → length x.1 ≤ length text
number_shorter low high text x h =
    let t = skip_blanks text in
    let count = prefix_len (stands Digit) t in
    let n = numeral (take count t) in
    let p = passed (count == 0) (missing t) (number_in low high n t (drop count t)) x h in
    let q = passed (nat_lt n low || nat_lt high n) (missed NumberRange t) (Ok (n, drop count t)) x p.1 in
    let e = same_ok (n, drop count t) x q.1 in
    omega (arith, ap (λ (y : ℕ × List ℕ). length y.1) e, length-drop count t, skip_shorter text)

name_shorter : (text : List ℕ) (x : List ℕ × List ℕ) → name_at text ≡ Ok x → length x.1 ≤ length text
name_shorter text x h =
    let t = skip_blanks text in
    let count = prefix_len (stands Named) t in
    let p = passed (count == 0) (missing t) (Ok (take count t, drop count t)) x h in
    let e = same_ok (take count t, drop count t) x p.1 in
    omega (arith, ap (λ (y : List ℕ × List ℕ). length y.1) e, length-drop count t, skip_shorter text)

pub goes_on_shorter : (last : ℕ) (text : List ℕ) (x : Bool × List ℕ) → goes_on_at last text ≡ Ok x → length x.1 ≤ length text
goes_on_shorter last text x h = from (skip_blanks text) (skip_shorter text) h
  where
    from : (t : List ℕ) → length t ≤ length text → goes_on_first last t ≡ Ok x → length x.1 ≤ length text
    from [] le g = absurd (cc)
    from (b ∷ bs) le g = by_mark (b == 44) (b == last) g
      where
        ends : (more : Bool) → (more, bs) ≡ x → length x.1 ≤ length text
        ends more e = omega (arith, ap (λ (y : Bool × List ℕ). length y.1) e, le)

        by_mark : (m n : Bool) → (if m then Ok (true, bs) else if n then Ok (false, bs) else Err (missing (b ∷ bs))) ≡ Ok x → length x.1 ≤ length text
        by_mark true n f = ends true (same_ok (true, bs) x f)
        by_mark false true f = ends false (same_ok (false, bs) x f)
        by_mark false false f = absurd (cc)

-- items that leave no more each
module _ {S A : Type 0} (item : S → Result (A × S) Miss) (goes_on : S → Result (Bool × S) Miss) (size : S → ℕ)
    (item_le : (s : S) (x : A × S) → item s ≡ Ok x → size x.1 ≤ size s) (goes_le : (s : S) (x : Bool × S) → goes_on s ≡ Ok x → size x.1 ≤ size s) where
  row_shorter : (n : ℕ) (s : S) (x : List A × S) → row_at item goes_on n s ≡ Ok x → size x.1 ≤ size s
  unfolding row_at
  row_shorter zero s x h = absurd (cc)
  row_shorter (suc n) s x h =
      let a = both (item s) (λ first. goes_on first.1 >>= λ next. if next.0 then (row_at item goes_on n next.1 >>= λ others. Ok (first.0 ∷ others.0, others.1)) else Ok (first.0 ∷ [], next.1)) x h in
      let b = both (goes_on a.0.1) (λ next. if next.0 then (row_at item goes_on n next.1 >>= λ others. Ok (a.0.0 ∷ others.0, others.1)) else Ok (a.0.0 ∷ [], next.1)) x a.2 in
      let first = item_le s a.0 a.1 in
      let next = goes_le a.0.1 b.0 b.1 in
      by_next a.0.0 b.0.0 b.0.1 (omega (arith, first, next)) b.2 (λ y g. row_shorter n b.0.1 y g)
    where
      by_next : (p : A) (more : Bool) (t : S) → size t ≤ size s → (if more then (row_at item goes_on n t >>= λ others. Ok (p ∷ others.0, others.1)) else Ok (p ∷ [], t)) ≡ Ok x → ((y : List A × S) → row_at item goes_on n t ≡ Ok y → size y.1 ≤ size t) → size x.1 ≤ size s
      by_next p true t le g ih =
          let c = both (row_at item goes_on n t) (λ others. Ok (p ∷ others.0, others.1)) x g in
          let e = same_ok (p ∷ c.0.0, c.0.1) x c.2 in
          omega (arith, ap (λ (y : List A × S). size y.1) e, ih c.0 c.1, le)
      by_next p false t le g ih =
          let e = same_ok (p ∷ [], t) x g in
          omega (arith, ap (λ (y : List A × S). size y.1) e, le)

listed_shorter : (text : List ℕ) (x : Part × List ℕ) → listed_first text ≡ Ok x → length x.1 ≤ length text
listed_shorter [] x h = absurd (cc)
listed_shorter (b ∷ bs) x h = by_brace (b == 125) h
  where
    by_brace : (m : Bool) → (if m then Ok (listed [], bs) else (row_at name_at (goes_on_at 125) (length (b ∷ bs)) (b ∷ bs) >>= λ names. Ok (listed names.0, names.1))) ≡ Ok x → length x.1 ≤ length (b ∷ bs)
    by_brace true g = let e = same_ok (listed [], bs) x g in omega (arith, ap (λ (y : Part × List ℕ). length y.1) e)
    by_brace false g =
        let c = both (row_at name_at (goes_on_at 125) (length (b ∷ bs)) (b ∷ bs)) (λ names. Ok (listed names.0, names.1)) x g in
        let e = same_ok (listed c.0.0, c.0.1) x c.2 in
        omega (arith, ap (λ (y : Part × List ℕ). length y.1) e, row_shorter name_at (goes_on_at 125) length name_shorter (goes_on_shorter 125) (length (b ∷ bs)) (b ∷ bs) c.0 c.1)

part_shorter : (text : List ℕ) (x : Part × List ℕ) → part_at text ≡ Ok x → length x.1 ≤ length text
unfolding part_at
part_shorter text x h = from (skip_blanks text) (skip_shorter text) h
  where
    from : (t : List ℕ) → length t ≤ length text → part_first t ≡ Ok x → length x.1 ≤ length text
    from [] le g = absurd (cc)
    from (b ∷ bs) le g = by_mark (b == 42) (b == 123) g
      where
        by_mark : (m n : Bool) → (if m then Ok (every, bs) else if n then listed_first (skip_blanks bs) else (name_at (b ∷ bs) >>= λ name. Ok (tagged name.0, name.1))) ≡ Ok x → length x.1 ≤ length text
        by_mark true n f = let e = same_ok (every, bs) x f in omega (arith, ap (λ (y : Part × List ℕ). length y.1) e, le)
        by_mark false true f = omega (arith, listed_shorter (skip_blanks bs) x f, skip_shorter bs, le)
        by_mark false false f =
            let c = both (name_at (b ∷ bs)) (λ name. Ok (tagged name.0, name.1)) x f in
            let e = same_ok (tagged c.0.0, c.0.1) x c.2 in
            omega (arith, ap (λ (y : Part × List ℕ). length y.1) e, name_shorter (b ∷ bs) c.0 c.1, le)

abbrev marked_or : Bool → List ℕ → List ℕ → Bool × List ℕ
marked_or m rest text = if m then (true, rest) else (false, text)

and_shorter : (text : List ℕ) (x : Bool × List ℕ) → Path (Result (Bool × List ℕ) Miss) (Ok (and_at text)) (Ok x) → length x.1 ≤ length text
and_shorter text x h = omega (arith, ap (λ (y : Bool × List ℕ). length y.1) (same_ok (and_at text) x h), from (skip_blanks text) (skip_shorter text))
  where
    from : (t : List ℕ) → length t ≤ length text → length (and_first t text).1 ≤ length text
    from [] le = omega arith
    from (b ∷ bs) le = by_mark (b == 38)
      where
        by_mark : (m : Bool) → length (marked_or m bs text).1 ≤ length text
        by_mark true = omega (arith, le)
        by_mark false = omega arith

-- where a list goes on, its comma was read
pub goes_on_takes : (last : ℕ) (text rest : List ℕ) → goes_on_at last text ≡ Ok (true, rest) → length rest < length text
goes_on_takes last text rest h = from (skip_blanks text) (skip_shorter text) h
  where
    from : (t : List ℕ) → length t ≤ length text → goes_on_first last t ≡ Ok (true, rest) → length rest < length text
    from [] le g = absurd (cc)
    from (b ∷ t) le g = by_mark (b == 44) (b == last) g
      where
        by_mark : (m n : Bool) → Path (Result (Bool × List ℕ) Miss) (if m then Ok (true, t) else if n then Ok (false, t) else Err (missing (b ∷ t))) (Ok (true, rest)) → length rest < length text
        by_mark true n f = let e : t ≡ rest = ap (λ (y : Bool × List ℕ). y.1) (same_ok (true, t) (true, rest) f) in omega (arith, ap length e, le)
        by_mark false true f = let e : false ≡ true = ap (λ (y : Bool × List ℕ). y.0) (same_ok (false, t) (true, rest) f) in absurd (cc)
        by_mark false false f = absurd (cc)

pub and_takes : (text rest : List ℕ) → Path (Result (Bool × List ℕ) Miss) (Ok (and_at text)) (Ok (true, rest)) → length rest < length text
and_takes text rest h = from (skip_blanks text) (skip_shorter text) (same_ok (and_at text) (true, rest) h)
  where
    from : (t : List ℕ) → length t ≤ length text → and_first t text ≡ (true, rest) → length rest < length text
    from [] le g = let e : false ≡ true = ap (λ (y : Bool × List ℕ). y.0) g in absurd (cc)
    from (b ∷ t) le g = by_mark (b == 38) g
      where
        by_mark : (m : Bool) → Path (Bool × List ℕ) (if m then (true, t) else (false, text)) (true, rest) → length rest < length text
        by_mark true f = let e : t ≡ rest = ap (λ (y : Bool × List ℕ). y.1) f in omega (arith, ap length e, le)
        by_mark false f = let e : false ≡ true = ap (λ (y : Bool × List ℕ). y.0) f in absurd (cc)

pub set_shorter : (cluster : List NodeText) (text : List ℕ) (x : Option (List ℕ) × List ℕ) → set_at cluster text ≡ Ok x → length x.1 ≤ length text
unfolding set_at
set_shorter cluster text x h =
    let c = both (parts_at text) (λ parts. Ok (shared_nodes cluster parts.0, parts.1)) x h in
    let e = same_ok (shared_nodes cluster c.0.0, c.0.1) x c.2 in
    omega (arith, ap (λ (y : Option (List ℕ) × List ℕ). length y.1) e, row_shorter part_at (λ t. Ok (and_at t)) length part_shorter and_shorter (length text) text c.0 c.1)
