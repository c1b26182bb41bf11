-- The spans of a picture are those of the pieces that its cycles launch.
use Rattle.std.proofs.Common.{◌≡◌, ℕ, ◌+◌, Bool, true, false, cond, List, [], ◌∷◌, ◌++◌, All, map, filter, not, Contains, refl, sym, ap, ◌∙◌, subst, append_assoc, inl, inr, arith, suc}
use Rattle.std.specs.Prelude.{nat_le}
use Rattle.std.specs.List.Sorted.{IsPermutation}
use Rattle.std.proofs.lemmas.Bool.{false≢true}
use Rattle.std.proofs.lemmas.List.{append-nil, map-append}
use Rattle.std.proofs.lemmas.List.Elements.{All-contains, All-map, All-weaker, Contains-append_left, Contains-append_right, filter_passes}
use Rattle.std.proofs.lemmas.List.Sorted.{IsPermutation-refl, IsPermutation-trans, IsPermutation-append_comm, IsPermutation-append_left, IsPermutation-append_right, IsPermutation-map, IsPermutation-filter_both}
use Rattle.tetri_report.specs.Block.{Block}
use Rattle.tetri_base.specs.Lists.{has}
use Rattle.tetri_space.proofs.InstanceLaws.{in_map}
use Rattle.tetri_state.specs.After.{new_pieces}
use Rattle.tetri_state.specs.Begin.{begin, is_over, occurring, prolonged, staying as state_staying}
use Rattle.tetri_state.specs.Pieces.{IsSameRun}
use Rattle.tetri_state.specs.Planning.{instance_of}
use Rattle.tetri_state.specs.Snapshot.{Snapshot, opening_state}
use Rattle.tetri_state.specs.declared.pieces.Piece.{Piece}
use Rattle.tetri_trace.specs.Scenario.{Scenario}
use Rattle.tetri_chart.specs.Pieces.{fate_of, leaving, pieces_from, running, runs_on, span_of, staying}
use Rattle.tetri_cycles.specs.Observed.{next}
use Rattle.tetri_chart.specs.RunSpans.{AreSpansOf, AreSpansOfAll, IsSpanOf, RunsIn, TellsPieces}
use Rattle.tetri_chart.specs.declared.picture.Span.{Span}
use Rattle.tetri_chart.proofs.SameRunLemmas.{passing, stay_alike}
use Rattle.tetri_svg.specs.declared.fate.Fate.TheVariants.{Ended, Cancelled, Failed, RunsOn}

module _ (t : Scenario) where
  -- whether a piece that runs before a slot runs on
  abbrev pub goes_on : Snapshot → Piece → Bool
  goes_on s p = runs_on (fate_of (occurring t s) s.now p)

  -- the span of a piece that runs in this state, where these cycles are still to come
  abbrev pub span_in : Snapshot → List Block → Piece → Span
  span_in s [] p = span_of s.now RunsOn p
  span_in s (b ∷ bs) p = cond (goes_on s p) (span_in (next t s b) bs p) (span_of s.now (fate_of (occurring t s) s.now p) p)

  -- those of the pieces that the cycles launch
  abbrev pub launched_spans : Snapshot → List Block → List Span
  launched_spans s [] = []
  launched_spans s (b ∷ bs) = map (span_in (next t s b) bs) (new_pieces t (instance_of t (begin t s)) b.grants) ++ launched_spans (next t s b) bs

  module _ (s : Snapshot) (b : Block) (bs : List Block) where
    of_staying : (ps : List Piece) → map (span_in s (b ∷ bs)) (filter (goes_on s) ps) ≡ map (span_in (next t s b) bs) (filter (goes_on s) ps)
    of_staying [] = refl
    of_staying (p ∷ ps) = by_test (goes_on s p) refl (of_staying ps)
      where
        rest : List Piece
        rest = filter (goes_on s) ps

        by_test : (c : Bool) → goes_on s p ≡ c → map (span_in s (b ∷ bs)) rest ≡ map (span_in (next t s b) bs) rest →
            map (span_in s (b ∷ bs)) (cond c (p ∷ rest) rest) ≡ map (span_in (next t s b) bs) (cond c (p ∷ rest) rest)
        by_test true is others =
            ap (λ c. cond c (span_in (next t s b) bs p) (span_of s.now (fate_of (occurring t s) s.now p) p) ∷ map (span_in s (b ∷ bs)) rest) is
            ∙ ap (λ xs. span_in (next t s b) bs p ∷ xs) others
        by_test false is others = others

    of_leaving : (ps : List Piece) → map (span_in s (b ∷ bs)) (filter (λ p. not (goes_on s p)) ps) ≡ leaving (occurring t s) s.now ps
    of_leaving [] = refl
    of_leaving (p ∷ ps) = by_test (goes_on s p) refl (of_leaving ps)
      where
        rest : List Piece
        rest = filter (λ p. not (goes_on s p)) ps

        ends : Piece → Span
        ends p = span_of s.now (fate_of (occurring t s) s.now p) p

        by_test : (c : Bool) → goes_on s p ≡ c → map (span_in s (b ∷ bs)) rest ≡ map ends rest →
            map (span_in s (b ∷ bs)) (cond (not c) (p ∷ rest) rest) ≡ map ends (cond (not c) (p ∷ rest) rest)
        by_test false is others =
            ap (λ c. cond c (span_in (next t s b) bs p) (ends p) ∷ map (span_in s (b ∷ bs)) rest) is ∙ ap (λ xs. ends p ∷ xs) others
        by_test true is others = others

    parted : (ps : List Piece) →
        IsPermutation (map (span_in s (b ∷ bs)) ps) (leaving (occurring t s) s.now ps ++ map (span_in (next t s b) bs) (staying (occurring t s) s.now ps))
    parted ps =
        let f : Piece → Bool = goes_on s in
        let g : Piece → Bool = λ p. not (goes_on s p) in
        let left : List Span = leaving (occurring t s) s.now ps in
        let both : IsPermutation (map (span_in s (b ∷ bs)) ps) (map (span_in s (b ∷ bs)) (filter f ps ++ filter g ps)) =
        IsPermutation-map (span_in s (b ∷ bs)) ps (filter f ps ++ filter g ps) (IsPermutation-filter_both f g (λ p. refl) ps) in
        let apart : map (span_in s (b ∷ bs)) (filter f ps ++ filter g ps) ≡ map (span_in (next t s b) bs) (filter f ps) ++ left =
        map-append (span_in s (b ∷ bs)) (filter f ps) (filter g ps) ∙ ap (λ xs. xs ++ map (span_in s (b ∷ bs)) (filter g ps)) (of_staying ps)
        ∙ ap (λ xs. map (span_in (next t s b) bs) (filter f ps) ++ xs) (of_leaving ps) in
        IsPermutation-trans _ _ _ (subst (IsPermutation (map (span_in s (b ∷ bs)) ps)) apart both) (IsPermutation-append_comm (map (span_in (next t s b) bs) (filter f ps)) left)

  -- the pieces of a run that goes on are those that run and those that it launches
  reordered : (s : Snapshot) (ps : List Piece) (bs : List Block) → IsPermutation (map (span_in s bs) ps ++ launched_spans s bs) (pieces_from t s ps bs)
  reordered s ps [] = subst (λ xs. IsPermutation xs (map (span_of s.now RunsOn) ps)) (sym (append-nil (map (span_of s.now RunsOn) ps))) (IsPermutation-refl (map (span_of s.now RunsOn) ps))
  reordered s ps (b ∷ bs) =
      let on : List Piece = staying (occurring t s) s.now ps in
      let new : List Piece = new_pieces t (instance_of t (begin t s)) b.grants in
      let left : List Span = leaving (occurring t s) s.now ps in
      let going : List Span = map (span_in (next t s b) bs) on in
      let launched : List Span = map (span_in (next t s b) bs) new in
      let later : List Span = launched_spans (next t s b) bs in
      let after : List Span = pieces_from t (next t s b) (running t s ps b) bs in
      let goes : IsPermutation (going ++ (launched ++ later)) after =
      subst (λ xs. IsPermutation xs after) (ap (λ xs. xs ++ later) (map-append (span_in (next t s b) bs) on new) ∙ append_assoc going launched later)
      (reordered (next t s b) (running t s ps b) bs) in
      IsPermutation-trans _ _ _ (IsPermutation-append_left (launched ++ later) (map (span_in s (b ∷ bs)) ps) (left ++ going) (parted s b bs ps))
      (subst (λ xs. IsPermutation xs (left ++ after)) (sym (append_assoc left going (launched ++ later))) (IsPermutation-append_right left (going ++ (launched ++ later)) after goes))

  module _ (s : Snapshot) where
    goes_alike : (p q : Piece) → IsSameRun p q → goes_on s q ≡ goes_on s p
    goes_alike p q k =
        let fate : ℕ → ℕ → Bool = λ real job.
        runs_on (cond (nat_le real s.now) Ended (cond (has (occurring t s).failed job) Failed (cond (has (occurring t s).cancelled job) Cancelled RunsOn))) in
        ap (λ real. fate real q.job) k.real ∙ ap (fate p.real) k.job

    prolonged_same : (p q : Piece) → IsSameRun p q → IsSameRun p (prolonged s.now q)
    prolonged_same p q k = by_test (is_over s.now q)
      where
        by_test : (c : Bool) → IsSameRun p (cond c (record q { expected = s.now + 1 }) q)
        by_test true = record { job = k.job; leaf = k.leaf; nodes = k.nodes; started = k.started; real = k.real }
        by_test false = k

    prolonged_goes : (q : Piece) → goes_on s (prolonged s.now q) ≡ goes_on s q
    prolonged_goes q = goes_alike q (prolonged s.now q) (prolonged_same q q (record { job = refl; leaf = refl; nodes = refl; started = refl; real = refl }))

    -- a piece runs once the slot has begun exactly where it ran before and runs on
    runs_begun : (p : Piece) → RunsIn s p → goes_on s p ≡ true → RunsIn (begin t s) p
    runs_begun p runs goes =
        let q : Piece = runs.0 in
        let stays : Contains (filter (goes_on s) s.pieces) q = passing (goes_on s) s.pieces q runs.1 (goes_alike p q runs.2 ∙ goes) in
        (prolonged s.now q, in_map (prolonged s.now) (state_staying t s) q (subst (λ ps. Contains ps q) (sym (stay_alike t s)) stays), prolonged_same p q runs.2)

    begun_goes : (p : Piece) → RunsIn (begin t s) p → goes_on s p ≡ true
    begun_goes p runs =
        let P : Piece → Type 0 = λ q. goes_on s q ≡ true in
        let stays : All P (state_staying t s) = subst (All P) (sym (stay_alike t s)) (filter_passes (goes_on s) s.pieces) in
        let begun : All P (map (prolonged s.now) (state_staying t s)) =
        All-map P (prolonged s.now) (state_staying t s) (All-weaker P (λ q. goes_on s (prolonged s.now q) ≡ true) (λ q goes. prolonged_goes q ∙ goes) (state_staying t s) stays) in
        sym (goes_alike p runs.0 runs.2) ∙ All-contains P (map (prolonged s.now) (state_staying t s)) runs.0 begun runs.1

    begun_runs_next : (b : Block) (p : Piece) → RunsIn (begin t s) p → RunsIn (next t s b) p
    begun_runs_next b p runs = (runs.0, Contains-append_left (begin t s).pieces (new_pieces t (instance_of t (begin t s)) b.grants) runs.0 runs.1, runs.2)

    new_runs_next : (b : Block) (p : Piece) → Contains (new_pieces t (instance_of t (begin t s)) b.grants) p → RunsIn (next t s b) p
    new_runs_next b p at = (
      p,
      Contains-append_right (begin t s).pieces (new_pieces t (instance_of t (begin t s)) b.grants) p at,
      record { job = refl; leaf = refl; nodes = refl; started = refl; real = refl },
    )

  is_span : (s : Snapshot) (bs : List Block) (p : Piece) → RunsIn s p → IsSpanOf t s bs p (span_in s bs p)
  is_span s [] p runs = refl
  is_span s (b ∷ bs) p runs = by_test (goes_on s p) refl (λ on. is_span (next t s b) bs p (begun_runs_next s b p on))
    where
      ends : Span
      ends = span_of s.now (fate_of (occurring t s) s.now p) p

      by_test : (c : Bool) → goes_on s p ≡ c → (RunsIn (begin t s) p → IsSpanOf t (next t s b) bs p (span_in (next t s b) bs p)) →
          IsSpanOf t s (b ∷ bs) p (cond c (span_in (next t s b) bs p) ends)
      by_test true is later = let on = runs_begun s p runs is in inl (on, later on)
      by_test false is later = inr (λ on. false≢true (sym is ∙ begun_goes s p on), refl)

  are_spans : (s : Snapshot) (bs : List Block) (ps : List Piece) → ((p : Piece) → Contains ps p → RunsIn s p) → AreSpansOf t s bs ps (map (span_in s bs) ps)
  are_spans s bs [] run = refl
  are_spans s bs (p ∷ ps) run =
      (span_in s bs p, map (span_in s bs) ps, refl, is_span s bs p (run p (0, omega arith, refl)), are_spans s bs ps (λ q at. run q (suc at.0, omega (arith, at.1), at.2)))

  are_all : (s : Snapshot) (bs : List Block) → AreSpansOfAll t s bs (launched_spans s bs)
  are_all s [] = refl
  are_all s (b ∷ bs) =
      let new : List Piece = new_pieces t (instance_of t (begin t s)) b.grants in (
        map (span_in (next t s b) bs) new,
        launched_spans (next t s b) bs,
        refl,
        are_spans (next t s b) bs new (new_runs_next s b),
        are_all (next t s b) bs,
      )

  -- the spans of a picture are those of the pieces that its cycles launch
  pub tells_pieces : (bs : List Block) → TellsPieces t bs (pieces_from t (opening_state t) [] bs)
  tells_pieces bs = record {
    told = launched_spans (opening_state t) bs;
    one_each = are_all (opening_state t) bs;
    reordered = reordered (opening_state t) [] bs;
  }
