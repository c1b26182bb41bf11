-- What a step reads is in the bytes that it takes, whatever stands behind them.
use Rattle.std.proofs.Common.{◌≡◌, ℕ, zero, suc, ◌+◌, ◌-◌, ◌≤◌, ◌==◌, Bool, true, false, cond, if◌then◌else◌, Option, List, [], ◌∷◌, ◌++◌, length, take, drop, Result, Ok, Err, refl, sym, ap, ◌∙◌, subst, arith, append_assoc, append-nil, length-append}
use Rattle.std.specs.List.{prefix_len}
use Rattle.std.proofs.lemmas.List.{take-append-drop}
use Rattle.std.proofs.lemmas.List.Folds.{length-prefix_len}
use Rattle.std.proofs.Math.Seq.{take-append_seam, drop-append_seam}
use Rattle.std.proofs.lemmas.Bool.Decides.{nat_tests}
use Rattle.tetri_base.specs.ResultSteps.{◌>>=◌}
use Rattle.tetri_cluster.specs.declared.cluster.NodeText.{NodeText}
use Rattle.tetri_parse.specs.declared.fault.Miss.{Miss}
use Rattle.tetri_parse.specs.declared.fault.Stop.{Stop}
use Rattle.tetri_parse.specs.declared.fault.Stop.TheVariants as stops
use Rattle.tetri_parse.specs.declared.token.Class.TheVariants.{Blank, Named}
use Rattle.tetri_parse.specs.Answers.{Stops}
use Rattle.tetri_parse.specs.Rows.{row_at}
use Rattle.tetri_parse.specs.SetText.{Part, every, tagged, listed, listed_first, part_first, part_at, and_first, and_at, parts_at, shared_nodes, set_at, set_end, said_nodes, nodes_in}
use Rattle.tetri_parse.specs.Tokens.{stands, skip_blanks, missing, name_first, name_at, goes_on_first, goes_on_at}
use Rattle.tetri_parse.proofs.Steps.{both, passed, same_ok}
use Rattle.tetri_parse.proofs.TokensBack.{test_false}

-- the bytes that a step takes, with what of those behind them still stands there
record Reads {A : Type 0} (least : ℕ) (f : List ℕ → Result (A × List ℕ) Miss) (text : List ℕ) (x : A) (rest : List ℕ) : Type 0 where
  front : List ℕ
  whole : text ≡ front ++ rest
  some : least ≤ length front
  alike : (left more : List ℕ) → rest ≡ left ++ more → f (front ++ left) ≡ Ok (x, left)

-- a step that takes so many bytes at least
abbrev IsLocal : {A : Type 0} → ℕ → (List ℕ → Result (A × List ℕ) Miss) → Type 0
IsLocal {A} least f = (text : List ℕ) (x : A × List ℕ) → f text ≡ Ok x → Reads least f text x.0 x.1

-- a run of bytes of a class ends where it ended, whatever of the rest stands behind it
same_run : (p : ℕ → Bool) (text left more : List ℕ) → drop (prefix_len p text) text ≡ left ++ more → prefix_len p (take (prefix_len p text) text ++ left) ≡ prefix_len p text
same_run p [] [] more h = refl
same_run p [] (l ∷ ls) more h = absurd (cc)
same_run p (b ∷ bs) left more h = by_first (p b) refl h (same_run p bs left more)
  where
    none : (ls : List ℕ) → p b ≡ false → b ∷ bs ≡ ls ++ more → prefix_len p ls ≡ 0
    none [] is g = refl
    none (l ∷ ls) is g = let e : p l ≡ false = subst (λ n. p n ≡ false) (cc) is in ap (λ t. cond {A = ℕ} t (1 + prefix_len p ls) 0) e

    by_first : (t : Bool) → p b ≡ t → drop (cond {A = ℕ} t (1 + prefix_len p bs) 0) (b ∷ bs) ≡ left ++ more → (drop (prefix_len p bs) bs ≡ left ++ more → prefix_len p (take (prefix_len p bs) bs ++ left) ≡ prefix_len p bs) → prefix_len p (take (cond {A = ℕ} t (1 + prefix_len p bs) 0) (b ∷ bs) ++ left) ≡ cond {A = ℕ} t (1 + prefix_len p bs) 0
    by_first true is g ih =
        let k : 1 + prefix_len p bs ≡ suc (prefix_len p bs) = omega arith in
        let e = ih (subst (λ m. drop m (b ∷ bs) ≡ left ++ more) k g) in
        ap (λ m. prefix_len p (take m (b ∷ bs) ++ left)) k
        ∙ ap (λ t. cond {A = ℕ} t (1 + prefix_len p (take (prefix_len p bs) bs ++ left)) 0) is
        ∙ ap (λ m. 1 + m) e
    by_first false is g ih = none left is g

-- a run and what stands behind it
module _ (p : ℕ → Bool) (text left more : List ℕ) (h : drop (prefix_len p text) text ≡ left ++ more) where
  abbrev run : List ℕ
  run = take (prefix_len p text) text

  run_taken : take (prefix_len p (run ++ left)) (run ++ left) ≡ run
  run_taken = ap (λ n. take n (run ++ left)) (same_run p text left more h ∙ sym (length-prefix_len p text)) ∙ take-append_seam run left

  run_left : drop (prefix_len p (run ++ left)) (run ++ left) ≡ left
  run_left = ap (λ n. drop n (run ++ left)) (same_run p text left more h ∙ sym (length-prefix_len p text)) ∙ drop-append_seam run left

run_whole : (p : ℕ → Bool) (text : List ℕ) → text ≡ take (prefix_len p text) text ++ drop (prefix_len p text) text
run_whole p text = sym (take-append-drop (prefix_len p text) text)

-- behind blanks a step reads what it reads
skipped : {A : Type 0} (n : ℕ) (g : List ℕ → Result (A × List ℕ) Miss) (text : List ℕ) (a : A) (rest : List ℕ) → Reads n g (skip_blanks text) a rest → Reads n (λ t. g (skip_blanks t)) text a rest
skipped n g text a rest r = record {
  front = blanks ++ r.front;
  whole = run_whole (stands Blank) text ∙ ap (λ t. blanks ++ t) r.whole ∙ sym (joined blanks r.front rest);
  some = omega (arith, r.some, length-append blanks r.front);
  alike = λ left more h.
      let cut : skip_blanks text ≡ (r.front ++ left) ++ more = r.whole ∙ ap (λ t. r.front ++ t) h ∙ sym (joined r.front left more) in
      ap (λ t. g (skip_blanks t)) (joined blanks r.front left)
      ∙ ap g (run_left (stands Blank) text (r.front ++ left) more cut)
      ∙ r.alike left more h;
}
  where
    blanks : List ℕ
    blanks = take (prefix_len (stands Blank) text) text

    joined : (xs ys zs : List ℕ) → (xs ++ ys) ++ zs ≡ xs ++ (ys ++ zs)
    joined xs ys zs = simp append_assoc

-- a step that takes more takes fewer at least
fewer : {A : Type 0} {f : List ℕ → Result (A × List ℕ) Miss} {text : List ℕ} {a : A} {rest : List ℕ} → Reads 1 f text a rest → Reads 0 f text a rest
fewer r = record { front = r.front; whole = r.whole; some = omega arith; alike = r.alike }

-- a step over one byte, and what is read behind it
behind_byte : {A : Type 0} (n : ℕ) (g f : List ℕ → Result (A × List ℕ) Miss) (b : ℕ) (bs : List ℕ) (a : A) (rest : List ℕ) → ((ls : List ℕ) → g (b ∷ ls) ≡ f ls) → Reads n f bs a rest → Reads 1 g (b ∷ bs) a rest
behind_byte n g f b bs a rest same r = record {
  front = b ∷ r.front;
  whole = ap (λ t. b ∷ t) r.whole;
  some = omega arith;
  alike = λ left more h. same (r.front ++ left) ∙ r.alike left more h;
}

nothing_read : {A : Type 0} (a : A) (text : List ℕ) → Reads 0 (λ t. Ok (a, t)) text a text
nothing_read a text = record { front = []; whole = refl; some = omega arith; alike = λ left more h. refl }

one_byte : {A : Type 0} (g : List ℕ → Result (A × List ℕ) Miss) (b : ℕ) (bs : List ℕ) (a : A) → ((ls : List ℕ) → g (b ∷ ls) ≡ Ok (a, ls)) → Reads 1 g (b ∷ bs) a bs
one_byte g b bs a same = behind_byte 0 g (λ t. Ok (a, t)) b bs a bs same (nothing_read a bs)

-- steps that agree on texts that begin with this byte
same_on : {A : Type 0} (g f : List ℕ → Result (A × List ℕ) Miss) (b : ℕ) (bs : List ℕ) (a : A) (rest : List ℕ) → ((ls : List ℕ) → g (b ∷ ls) ≡ f (b ∷ ls)) → Reads 1 f (b ∷ bs) a rest → Reads 1 g (b ∷ bs) a rest
same_on {A} g f b bs a rest same r = from r.front r.whole r.some r.alike
  where
    from : (front : List ℕ) → b ∷ bs ≡ front ++ rest → 1 ≤ length front → ((left more : List ℕ) → rest ≡ left ++ more → f (front ++ left) ≡ Ok (a, left)) → Reads 1 g (b ∷ bs) a rest
    from [] whole some alike = absurd (omega (arith, some))
    from (c ∷ cs) whole some alike = record {
      front = c ∷ cs;
      whole = whole;
      some = some;
      alike = λ left more h. subst (λ d. g (d ∷ cs ++ left) ≡ f (d ∷ cs ++ left)) (cc) (same (cs ++ left)) ∙ alike left more h;
    }

-- what is made of what is read
made_from : {A B : Type 0} (n : ℕ) (f : List ℕ → Result (A × List ℕ) Miss) (k : A → B) (text : List ℕ) (a : A) (rest : List ℕ) → Reads n f text a rest → Reads n (λ t. f t >>= λ y. Ok (k y.0, y.1)) text (k a) rest
made_from n f k text a rest r = record {
  front = r.front;
  whole = r.whole;
  some = r.some;
  alike = λ left more h. ap (λ s. s >>= λ y. Ok (k y.0, y.1)) (r.alike left more h);
}

name_local : IsLocal 1 name_at
name_local text x h =
    subst (λ (y : List ℕ × List ℕ). Reads 1 name_at text y.0 y.1) e (skipped 1 (λ u. name_first (prefix_len (stands Named) u) u) text name (drop count t) (record {
      front = name;
      whole = run_whole (stands Named) t;
      some = some_bytes (length-prefix_len (stands Named) t) p.0;
      alike = λ left more g.
          let n = same_run (stands Named) t left more g in
          ap (λ k. name_first k (name ++ left)) n
          ∙ test_false (count == 0) (Err (missing (name ++ left))) (Ok (take count (name ++ left), drop count (name ++ left))) p.0
          ∙ ap (λ k. Ok (take k (name ++ left), drop k (name ++ left))) (sym (length-prefix_len (stands Named) t))
          ∙ ap (λ u. Ok (u, drop (length name) (name ++ left))) (take-append_seam name left)
          ∙ ap (λ u. Ok (name, u)) (drop-append_seam name left);
    }))
  where
    t : List ℕ
    t = skip_blanks text

    count : ℕ
    count = prefix_len (stands Named) t

    name : List ℕ
    name = take count t

    p : ((count == 0) ≡ false) × Path (Result (List ℕ × List ℕ) Miss) (Ok (name, drop count t)) (Ok x)
    p = passed (count == 0) (missing t) (Ok (name, drop count t)) x h

    e : (name, drop count t) ≡ x
    e = same_ok (name, drop count t) x p.1

    some_bytes : length name ≡ count → (count == 0) ≡ false → 1 ≤ length name
    some_bytes l g = grind (arith, nat_tests)

goes_on_local : (last : ℕ) → IsLocal 0 (goes_on_at last)
goes_on_local last text x h = skipped 0 (goes_on_first last) text x.0 x.1 (from (skip_blanks text) h)
  where
    from : (t : List ℕ) → goes_on_first last t ≡ Ok x → Reads 0 (goes_on_first last) t x.0 x.1
    from [] g = absurd (cc)
    from (b ∷ bs) g = by_mark (b == 44) (b == last) refl refl g
      where
        ends : (more : Bool) → ((ls : List ℕ) → goes_on_first last (b ∷ ls) ≡ Ok (more, ls)) → (more, bs) ≡ x → Reads 0 (goes_on_first last) (b ∷ bs) x.0 x.1
        ends more same e = subst (λ (y : Bool × List ℕ). Reads 0 (goes_on_first last) (b ∷ bs) y.0 y.1) e (fewer (one_byte (goes_on_first last) b bs more same))

        by_mark : (m n : Bool) → (b == 44) ≡ m → (b == last) ≡ n → (if m then Ok (true, bs) else if n then Ok (false, bs) else Err (missing (b ∷ bs))) ≡ Ok x → Reads 0 (goes_on_first last) (b ∷ bs) x.0 x.1
        by_mark true n i j f = ends true (λ ls. rw i refl) (same_ok (true, bs) x f)
        by_mark false true i j f = ends false (λ ls. rw (i, j) refl) (same_ok (false, bs) x f)
        by_mark false false i j f = absurd (cc)

-- items one after the other, the text of each of a byte at least
module _ {A : Type 0} (item : List ℕ → Result (A × List ℕ) Miss) (goes_on : List ℕ → Result (Bool × List ℕ) Miss) (item_local : IsLocal 1 item) (goes_local : IsLocal 0 goes_on) where
  record ReadsRow (text : List ℕ) (xs : List A) (rest : List ℕ) : Type 0 where
    front : List ℕ
    whole : text ≡ front ++ rest
    some : 1 ≤ length front
    alike : (left more : List ℕ) → rest ≡ left ++ more → (m : ℕ) → length front ≤ m → row_at item goes_on m (front ++ left) ≡ Ok (xs, left)

  row_reads : (n : ℕ) (text : List ℕ) (x : List A × List ℕ) → row_at item goes_on n text ≡ Ok x → ReadsRow text x.0 x.1
  unfolding row_at
  row_reads zero text x h = absurd (cc)
  row_reads (suc n) text x h =
      let a = both (item text) (λ first. goes_on first.1 >>= λ next. if next.0 then (row_at item goes_on n next.1 >>= λ others. Ok (first.0 ∷ others.0, others.1)) else Ok (first.0 ∷ [], next.1)) x h in
      let b = both (goes_on a.0.1) (λ next. if next.0 then (row_at item goes_on n next.1 >>= λ others. Ok (a.0.0 ∷ others.0, others.1)) else Ok (a.0.0 ∷ [], next.1)) x a.2 in
      by_next a.0.0 a.0.1 (item_local text a.0 a.1) b.0.0 b.0.1 (goes_local a.0.1 b.0 b.1) b.2 (λ y g. row_reads n b.0.1 y g)
    where
      by_next : (p : A) (mid : List ℕ) → Reads 1 item text p mid → (on : Bool) (t : List ℕ) → Reads 0 goes_on mid on t → (if on then (row_at item goes_on n t >>= λ others. Ok (p ∷ others.0, others.1)) else Ok (p ∷ [], t)) ≡ Ok x → ((y : List A × List ℕ) → row_at item goes_on n t ≡ Ok y → ReadsRow t y.0 y.1) → ReadsRow text x.0 x.1
      by_next p mid i true t g f ih =
          let c = both (row_at item goes_on n t) (λ others. Ok (p ∷ others.0, others.1)) x f in
          let r = ih c.0 c.1 in
          subst (λ (y : List A × List ℕ). ReadsRow text y.0 y.1) (same_ok (p ∷ c.0.0, c.0.1) x c.2) (record {
            front = i.front ++ (g.front ++ r.front);
            whole = i.whole ∙ ap (λ u. i.front ++ u) (g.whole ∙ ap (λ u. g.front ++ u) r.whole) ∙ simp append_assoc;
            some = omega (arith, i.some, length-append i.front (g.front ++ r.front));
            alike = λ left more e m le.
                let last : t ≡ (r.front ++ left) ++ more = r.whole ∙ ap (λ u. r.front ++ u) e ∙ simp append_assoc in
                let inner : mid ≡ (g.front ++ (r.front ++ left)) ++ more = g.whole ∙ ap (λ u. g.front ++ u) last ∙ simp append_assoc in
                let first = i.alike (g.front ++ (r.front ++ left)) more inner in
                let next = g.alike (r.front ++ left) more last in
                let k : m ≡ suc (m - 1) = omega (arith, le, i.some, length-append i.front (g.front ++ r.front)) in
                let others = r.alike left more e (m - 1) (omega (arith, le, i.some, length-append i.front (g.front ++ r.front), length-append g.front r.front)) in
                let split : (i.front ++ (g.front ++ r.front)) ++ left ≡ i.front ++ (g.front ++ (r.front ++ left)) = simp append_assoc in
                rw (split, k, first, next, others) refl;
          })
      by_next p mid i false t g f ih =
          subst (λ (y : List A × List ℕ). ReadsRow text y.0 y.1) (same_ok (p ∷ [], t) x f) (record {
            front = i.front ++ g.front;
            whole = i.whole ∙ ap (λ u. i.front ++ u) g.whole ∙ simp append_assoc;
            some = omega (arith, i.some, length-append i.front g.front);
            alike = λ left more e m le.
                let inner : mid ≡ (g.front ++ left) ++ more = g.whole ∙ ap (λ u. g.front ++ u) e ∙ simp append_assoc in
                let first = i.alike (g.front ++ left) more inner in
                let next = g.alike left more e in
                let k : m ≡ suc (m - 1) = omega (arith, le, i.some, length-append i.front g.front) in
                let split : (i.front ++ g.front) ++ left ≡ i.front ++ (g.front ++ left) = simp append_assoc in
                rw (split, k, first, next) refl;
          })

  row_local : IsLocal 1 (λ t. row_at item goes_on (length t) t)
  row_local text x h =
      let r = row_reads (length text) text x h in
      record {
        front = r.front;
        whole = r.whole;
        some = r.some;
        alike = λ left more e. r.alike left more e (length (r.front ++ left)) (omega (arith, length-append r.front left));
      }

listed_local : IsLocal 1 listed_first
listed_local [] x h = absurd (cc)
listed_local (b ∷ bs) x h = by_brace (b == 125) refl h
  where
    names : List ℕ → Result (List (List ℕ) × List ℕ) Miss
    names t = row_at name_at (goes_on_at 125) (length t) t

    by_brace : (m : Bool) → (b == 125) ≡ m → (if m then Ok (listed [], bs) else (names (b ∷ bs) >>= λ ns. Ok (listed ns.0, ns.1))) ≡ Ok x → Reads 1 listed_first (b ∷ bs) x.0 x.1
    by_brace true i g = subst (λ (y : Part × List ℕ). Reads 1 listed_first (b ∷ bs) y.0 y.1) (same_ok (listed [], bs) x g) (one_byte listed_first b bs (listed []) (λ ls. rw i refl))
    by_brace false i g =
        let c = both (names (b ∷ bs)) (λ ns. Ok (listed ns.0, ns.1)) x g in
        subst (λ (y : Part × List ℕ). Reads 1 listed_first (b ∷ bs) y.0 y.1) (same_ok (listed c.0.0, c.0.1) x c.2)
        (same_on listed_first (λ t. names t >>= λ ns. Ok (listed ns.0, ns.1)) b bs (listed c.0.0) c.0.1 (λ ls. rw i refl)
        (made_from 1 names listed (b ∷ bs) c.0.0 c.0.1 (row_local name_at (goes_on_at 125) name_local (goes_on_local 125) (b ∷ bs) c.0 c.1)))

part_local : IsLocal 1 part_at
unfolding part_at
part_local text x h = skipped 1 part_first text x.0 x.1 (from (skip_blanks text) h)
  where
    from : (t : List ℕ) → part_first t ≡ Ok x → Reads 1 part_first t x.0 x.1
    from [] g = absurd (cc)
    from (b ∷ bs) g = by_mark (b == 42) (b == 123) refl refl g
      where
        by_mark : (m n : Bool) → (b == 42) ≡ m → (b == 123) ≡ n → (if m then Ok (every, bs) else if n then listed_first (skip_blanks bs) else (name_at (b ∷ bs) >>= λ name. Ok (tagged name.0, name.1))) ≡ Ok x → Reads 1 part_first (b ∷ bs) x.0 x.1
        by_mark true n i j f = subst (λ (y : Part × List ℕ). Reads 1 part_first (b ∷ bs) y.0 y.1) (same_ok (every, bs) x f) (one_byte part_first b bs every (λ ls. rw i refl))
        by_mark false true i j f =
            behind_byte 1 part_first (λ t. listed_first (skip_blanks t)) b bs x.0 x.1 (λ ls. rw (i, j) refl)
            (skipped 1 listed_first bs x.0 x.1 (listed_local (skip_blanks bs) x f))
        by_mark false false i j f =
            let c = both (name_at (b ∷ bs)) (λ name. Ok (tagged name.0, name.1)) x f in
            subst (λ (y : Part × List ℕ). Reads 1 part_first (b ∷ bs) y.0 y.1) (same_ok (tagged c.0.0, c.0.1) x c.2)
            (same_on part_first (λ t. name_at t >>= λ name. Ok (tagged name.0, name.1)) b bs (tagged c.0.0) c.0.1 (λ ls. rw (i, j) refl)
            (made_from 1 name_at tagged (b ∷ bs) c.0.0 c.0.1 (name_local (b ∷ bs) c.0 c.1)))

abbrev marked : Bool → List ℕ → List ℕ → Bool × List ℕ
marked b rest text = if b then (true, rest) else (false, text)

-- where no part follows, none follows in a front of the text either
none_follows : (left more kept held : List ℕ) → (and_first (skip_blanks (left ++ more)) kept).0 ≡ false → and_first (skip_blanks left) held ≡ (false, held)
none_follows [] more kept held h = refl
none_follows (l ∷ ls) more kept held h = by_first (stands Blank l) refl h (none_follows ls more kept held)
  where
    by_mark : (b : Bool) → (marked b (ls ++ more) kept).0 ≡ false → marked b ls held ≡ (false, held)
    by_mark true g = absurd (cc)
    by_mark false g = refl

    by_first : (t : Bool) → stands Blank l ≡ t → (and_first (drop (cond {A = ℕ} t (1 + prefix_len (stands Blank) (ls ++ more)) 0) (l ∷ ls ++ more)) kept).0 ≡ false → ((and_first (skip_blanks (ls ++ more)) kept).0 ≡ false → and_first (skip_blanks ls) held ≡ (false, held)) → and_first (drop (cond {A = ℕ} t (1 + prefix_len (stands Blank) ls) 0) (l ∷ ls)) held ≡ (false, held)
    by_first true is g ih =
        let far : 1 + prefix_len (stands Blank) (ls ++ more) ≡ suc (prefix_len (stands Blank) (ls ++ more)) = omega arith in
        let near : 1 + prefix_len (stands Blank) ls ≡ suc (prefix_len (stands Blank) ls) = omega arith in
        ap (λ m. and_first (drop m (l ∷ ls)) held) near ∙ ih (subst (λ m. (and_first (drop m (l ∷ ls ++ more)) kept).0 ≡ false) far g)
    by_first false is g ih = by_mark (l == 38) g

another_follows : (t left kept : List ℕ) → Path (Result (Bool × List ℕ) Miss) (Ok (and_first (skip_blanks t) [])) (Ok (true, left)) → Path (Result (Bool × List ℕ) Miss) (Ok (and_first (skip_blanks t) kept)) (Ok (true, left))
another_follows t left kept g = from (skip_blanks t) g
  where
    from : (u : List ℕ) → Path (Result (Bool × List ℕ) Miss) (Ok (and_first u [])) (Ok (true, left)) → Path (Result (Bool × List ℕ) Miss) (Ok (and_first u kept)) (Ok (true, left))
    from [] f = let e : false ≡ true = ap (λ (y : Bool × List ℕ). y.0) (same_ok (false, []) (true, left) f) in absurd (cc)
    from (b ∷ bs) f = by_mark (b == 38) f
      where
        by_mark : (m : Bool) → Path (Result (Bool × List ℕ) Miss) (Ok (marked m bs [])) (Ok (true, left)) → Path (Result (Bool × List ℕ) Miss) (Ok (marked m bs kept)) (Ok (true, left))
        by_mark true k = k
        by_mark false k = let e : false ≡ true = ap (λ (y : Bool × List ℕ). y.0) (same_ok (false, []) (true, left) k) in absurd (cc)

and_local : IsLocal 0 (λ t. Ok (and_at t))
and_local text x h = subst (λ (y : Bool × List ℕ). Reads 0 (λ t. Ok (and_at t)) text y.0 y.1) (same_ok (and_at text) x h) (by_next (skip_blanks text) refl)
  where
    stays : (and_at text).0 ≡ false → Reads 0 (λ t. Ok (and_at t)) text false text
    stays unmarked = record {
      front = [];
      whole = refl;
      some = omega arith;
      alike = λ left more e. ap Ok (none_follows left more text left (subst (λ t. (and_first (skip_blanks t) text).0 ≡ false) e unmarked));
    }

    by_next : (t : List ℕ) → skip_blanks text ≡ t → Reads 0 (λ u. Ok (and_at u)) text (and_first t text).0 (and_first t text).1
    by_next [] e = stays (ap (λ t. (and_first t text).0) e)
    by_next (b ∷ bs) e = by_mark (b == 38) refl
      where
        goes : (b == 38) ≡ true → Reads 1 (λ u. Ok (and_first u [])) (b ∷ bs) true bs
        goes i = one_byte (λ u. Ok (and_first u [])) b bs true (λ ls. rw i refl)

        by_mark : (m : Bool) → (b == 38) ≡ m → Reads 0 (λ u. Ok (and_at u)) text (marked m bs text).0 (marked m bs text).1
        by_mark false i = stays (ap (λ t. (and_first t text).0) e ∙ rw i refl)
        by_mark true i =
            let r = skipped 1 (λ u. Ok (and_first u [])) text true bs (subst (λ t. Reads 1 (λ u. Ok (and_first u [])) t true bs) (sym e) (goes i)) in
            record { front = r.front; whole = r.whole; some = omega arith; alike = λ left more f. another_follows (r.front ++ left) left (r.front ++ left) (r.alike left more f) }

-- the front of a text that is a set's text names by itself what it names there
module _ (cluster : List NodeText) (text rest : List ℕ) (h : set_end text ≡ Ok rest) where
  abbrev front_of : List ℕ
  front_of = take (length text - length rest) text

  pub front_named : set_at cluster text ≡ Ok (nodes_in cluster front_of, rest)
  unfolding set_at nodes_in
  front_named =
      let c = both (parts_at text) (λ parts. Ok parts.1) rest h in
      let e = same_ok c.0.1 rest c.2 in
      let r = row_local part_at (λ t. Ok (and_at t)) part_local and_local text c.0 c.1 in
      let whole : text ≡ r.front ++ rest = r.whole ∙ ap (λ t. r.front ++ t) e in
      let size : length text - length rest ≡ length r.front = omega (arith, ap length whole, length-append r.front rest) in
      let front : front_of ≡ r.front = ap (λ n. take n text) size ∙ ap (take (length r.front)) whole ∙ take-append_seam r.front rest in
      let alone : parts_at r.front ≡ Ok (c.0.0, []) = ap parts_at (sym (simp append-nil)) ∙ r.alike [] c.0.1 refl in
      let named : nodes_in cluster front_of ≡ shared_nodes cluster c.0.0 = ap (nodes_in cluster) front ∙ ap (λ parts. said_nodes (parts >>= λ ps. Ok (shared_nodes cluster ps.0, ps.1))) alone in
      ap (λ parts. parts >>= λ ps. Ok (shared_nodes cluster ps.0, ps.1)) (c.1 ∙ ap (λ t. Ok (c.0.0, t)) e) ∙ ap (λ o. Ok (o, rest)) (sym named)

-- what is no set's text there names none
pub front_stops : (cluster : List NodeText) (text : List ℕ) (e : Stop) → Stops e (set_end text) → Stops e (set_at cluster text)
unfolding set_at
front_stops cluster text stops.NoMemory h = tt
front_stops cluster text (stops.Missed m) h = by_parts (parts_at text) h
  where
    by_parts : (r : Result (List Part × List ℕ) Miss) → Path (Result (List ℕ) Miss) (r >>= λ parts. Ok parts.1) (Err m) → Path (Result (Option (List ℕ) × List ℕ) Miss) (r >>= λ parts. Ok (shared_nodes cluster parts.0, parts.1)) (Err m)
    by_parts (Ok x) g = absurd (cc)
    by_parts (Err n) g = ap Err (cc)
