-- How the answers that were written grow by one, and where the writing stops.
use Rattle.std.proofs.Common.{◌≡◌, ℕ, suc, ◌+◌, ◌<◌, ◌≤◌, Bool, true, false, cond, List, [], ◌∷◌, ◌++◌, Contains, length, take, refl, sym, ap, ◌∙◌, subst, arith}
use Rattle.std.specs.Prelude.{filter, Option, Some, None}
use Rattle.std.specs.Io.KnownBytes.{append_known}
use Rattle.std.proofs.lemmas.Grind.{flat_map-append}
use Rattle.std.proofs.lemmas.List.{append-nil, length-append, length-map, take_all}
use Rattle.std.proofs.lemmas.List.Elements.{All-contains, All-map, filter-append}
use Rattle.tetri_io.specs.Sink.{AppendsPart}
use Rattle.tetri_io.proofs.TextLaws.{append_known-append}
use Rattle.tetri_strl.specs.declared.grants.Grant.{Grant}
use Rattle.tetri_space.specs.Space.{Bid, Space}
use Rattle.tetri_split.specs.Parts.{jobs_in}
use Rattle.tetri_commands.specs.Printing.{IsInstanceOf}
use Rattle.tetri_reserve.specs.Answers.{EachAnswer, IsAnswer, booked, is_booked}
use Rattle.tetri_reserve.specs.Book.{IsBook}
use Rattle.tetri_reserve.specs.Meaning.{IsTrueAnswer}
use Rattle.tetri_reserve.specs.declared.answer.Answer.{Answer}
use Rattle.tetri_trace.specs.Scenario.{Scenario}
use Rattle.tetri_commands.specs.Answered.{AreFirstAnswers, answer, count, first_instance}
use Rattle.tetri_commands.specs.AnswersTold.{StoppedBetweenAnswers, StoppedInAnswersText, WroteAll, WroteAnswers}
use Rattle.tetri_commands.specs.AnswerText.{answer_text, answers_text, booked_line, count_text}

-- a job of the instance is one of the trace's
pub job_known : (t : Scenario) (i : Space) → IsInstanceOf t i → (job : ℕ) → Contains (jobs_in i.bids) job → job < length t.submissions
job_known t i is job at = All-contains (λ n. n < length t.submissions) (jobs_in i.bids) job (All-map (λ n. n < length t.submissions) (λ (b : Bid). b.job) i.bids is.jobs) at

-- 1 for an answer that books its job, else 0
abbrev pub one_if : Bool → ℕ
one_if t = cond t 1 0

pub one_if_le : (t : Bool) → one_if t ≤ 1
one_if_le true = omega arith
one_if_le false = omega arith

booked_more : (answers : List Answer) (a : Answer) → length (booked (answers ++ a ∷ [])) ≡ length (booked answers) + one_if (is_booked a.kind)
booked_more answers a =
    length-map (filter (λ (x : Answer). is_booked x.kind) (answers ++ a ∷ [])) (λ (x : Answer). x.job)
    ∙ ap length (filter-append (λ (x : Answer). is_booked x.kind) answers (a ∷ []))
    ∙ length-append (filter (λ (x : Answer). is_booked x.kind) answers) (filter (λ (x : Answer). is_booked x.kind) (a ∷ []))
    ∙ ap (λ n. length (filter (λ (x : Answer). is_booked x.kind) answers) + n) (by_test (is_booked a.kind))
    ∙ ap (λ n. n + one_if (is_booked a.kind)) (sym (length-map (filter (λ (x : Answer). is_booked x.kind) answers) (λ (x : Answer). x.job)))
  where
    by_test : (t : Bool) → length (cond t (a ∷ []) []) ≡ one_if t
    by_test true = refl
    by_test false = refl

-- there are as many answers as jobs
as_long : (P : List Answer → Bid → Answer → Type 0) (earlier : List Answer) (bs : List Bid) (answers : List Answer) → EachAnswer P earlier bs answers → length answers ≡ length bs
as_long P earlier [] [] h = refl
as_long P earlier [] (a ∷ answers) h = absurd h
as_long P earlier (b ∷ bs) [] h = absurd h
as_long P earlier (b ∷ bs) (a ∷ answers) h = ap suc (as_long P (earlier ++ a ∷ []) bs answers h.1)

append_none : (known : Option (List ℕ)) → append_known known [] ≡ known
append_none None = refl
append_none (Some bytes) = ap Some (append-nil bytes)

module _ (t : Scenario) where
  abbrev s : Space
  s = first_instance t

  abbrev budget : ℕ
  budget = t.header.budget

  -- The book stands behind the answers for so many jobs, which book so many; these were written.
  pub record Answering (i booked_count : ℕ) (w : Space) (carry : List Grant) (before now : Option (List ℕ)) : Type 0 where
    pub answers : List Answer
    pub book : IsBook s budget i answers w carry
    pub as_many : length answers ≡ i
    pub counted : booked_count ≡ length (booked answers)
    pub written : now ≡ append_known before (answers_text t s answers)

  pub none_answered : (w : Space) (carry : List Grant) (before : Option (List ℕ)) → IsBook s budget 0 [] w carry → Answering 0 0 w carry before before
  none_answered w carry before book = record {
    answers = [];
    book = book;
    as_many = refl;
    counted = refl;
    written = sym (append_none before);
  }

  -- nothing was written yet
  pub stopped_first : (before now : Option (List ℕ)) → now ≡ before → StoppedBetweenAnswers t before now
  stopped_first before now e = record { past = []; front = []; told = record { are = record { answered = tt; meaning = tt }; told = refl }; written = e ∙ sym (append_none before) }

  firsts : (i : ℕ) (answers : List Answer) (w : Space) (carry : List Grant) → IsBook s budget i answers w carry → length answers ≡ i → AreFirstAnswers t answers
  firsts i answers w carry book e = record {
    answered = subst (λ n. EachAnswer (IsAnswer s budget) [] (take n s.bids) answers) (sym e) book.answered;
    meaning = subst (λ n. EachAnswer (IsTrueAnswer s budget) [] (take n s.bids) answers) (sym e) book.meaning;
  }

  module _ (i booked_count : ℕ) (w v : Space) (carry held : List Grant) (before middle now : Option (List ℕ)) (so_far : Answering i booked_count w carry before middle) where
    pub stopped_between : now ≡ middle → StoppedBetweenAnswers t before now
    stopped_between e = record {
      past = so_far.answers;
      front = answers_text t s so_far.answers;
      told = record { are = firsts i so_far.answers w carry so_far.book so_far.as_many; told = refl };
      written = e ∙ so_far.written;
    }

    module _ (a : Answer) (next : IsBook s budget (i + 1) (so_far.answers ++ a ∷ []) v held) where
      as_many_more : length (so_far.answers ++ a ∷ []) ≡ i + 1
      as_many_more = length-append so_far.answers (a ∷ []) ∙ ap (λ n. n + 1) so_far.as_many

      pub one_more : (more : ℕ) → more ≡ booked_count + one_if (is_booked a.kind) → now ≡ append_known middle (answer_text t s a) → Answering (i + 1) more v held before now
      one_more more counted written = record {
        answers = so_far.answers ++ a ∷ [];
        book = next;
        as_many = as_many_more;
        counted = counted ∙ ap (λ n. n + one_if (is_booked a.kind)) so_far.counted ∙ sym (booked_more so_far.answers a);
        written = written ∙ ap (λ k. append_known k (answer_text t s a)) so_far.written ∙ append_known-append before (answers_text t s so_far.answers) (answer_text t s a)
            ∙ ap (append_known before)
            (sym (flat_map-append (answer_text t s) so_far.answers (a ∷ []) ∙ ap (λ x. answers_text t s so_far.answers ++ x) (append-nil (answer_text t s a))));
      }

      pub stopped_in_answer : AppendsPart middle now (answer_text t s a) → StoppedInAnswersText t before now
      stopped_in_answer part = record {
        past = so_far.answers;
        front = answers_text t s so_far.answers;
        told = record { are = firsts i so_far.answers w carry so_far.book so_far.as_many; told = refl };
        text = answer_text t s a;
        next = answer a (firsts (i + 1) (so_far.answers ++ a ∷ []) v held next as_many_more);
        part = part.0;
        proper = part.1;
        written = part.2 ∙ ap (λ k. append_known k (take part.0 (answer_text t s a))) so_far.written
            ∙ append_known-append before (answers_text t s so_far.answers) (take part.0 (answer_text t s a));
      }

    pub all_answered : length s.bids ≤ i → WroteAll t booked_count before middle
    all_answered past = record {
      answers = so_far.answers;
      are = record {
        answered = subst (λ (bs : List Bid). EachAnswer (IsAnswer s budget) [] bs so_far.answers) (take_all i s.bids past) so_far.book.answered;
        meaning = subst (λ (bs : List Bid). EachAnswer (IsTrueAnswer s budget) [] bs so_far.answers) (take_all i s.bids past) so_far.book.meaning;
      };
      counted = so_far.counted;
      written = so_far.written;
    }

  -- the last line is that of these answers
  pub count_line : (booked_count : ℕ) (before middle : Option (List ℕ)) (all : WroteAll t booked_count before middle) (jobs : ℕ) → jobs ≡ length s.bids →
      booked_line booked_count jobs ≡ count_text all.answers
  count_line booked_count before middle all jobs e =
      ap (λ n. booked_line n jobs) all.counted ∙ ap (booked_line (length (booked all.answers))) (e ∙ sym (as_long (IsAnswer s budget) [] s.bids all.answers all.are.answered))

  module _ (booked_count : ℕ) (before middle now : Option (List ℕ)) (all : WroteAll t booked_count before middle) where
    whole : length all.answers ≡ length s.bids
    whole = as_long (IsAnswer s budget) [] s.bids all.answers all.are.answered

    all_first : AreFirstAnswers t all.answers
    all_first =
        let e : take (length all.answers) s.bids ≡ s.bids = take_all (length all.answers) s.bids (omega (arith, whole)) in
        record {
          answered = subst (λ (bs : List Bid). EachAnswer (IsAnswer s budget) [] bs all.answers) (sym e) all.are.answered;
          meaning = subst (λ (bs : List Bid). EachAnswer (IsTrueAnswer s budget) [] bs all.answers) (sym e) all.are.meaning;
        }

    pub stopped_before_count : now ≡ middle → StoppedBetweenAnswers t before now
    stopped_before_count e = record { past = all.answers; front = answers_text t s all.answers; told = record { are = all_first; told = refl }; written = e ∙ all.written }

    module _ (line : List ℕ) (is : line ≡ count_text all.answers) where
      pub stopped_in_count : AppendsPart middle now line → StoppedInAnswersText t before now
      stopped_in_count part =
          let own = subst (AppendsPart middle now) is part in
          record {
            past = all.answers;
            front = answers_text t s all.answers;
            told = record { are = all_first; told = refl };
            text = count_text all.answers;
            next = count whole;
            part = own.0;
            proper = own.1;
            written = own.2 ∙ ap (λ k. append_known k (take own.0 (count_text all.answers))) all.written
                ∙ append_known-append before (answers_text t s all.answers) (take own.0 (count_text all.answers));
          }

      pub wrote_answers : now ≡ append_known middle line → WroteAnswers t before now
      wrote_answers e = record {
        answers = all.answers;
        are = all.are;
        written = e ∙ ap (append_known middle) is ∙ ap (λ k. append_known k (count_text all.answers)) all.written
            ∙ append_known-append before (answers_text t s all.answers) (count_text all.answers);
      }
