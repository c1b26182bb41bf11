-- Steps of reading a line.
use Rattle.std.proofs.Common.{◌≡◌, ℕ, ◌≤◌, false, List, length, None, Some, Ok, Err, refl, ◌∙◌}
use Rattle.std.specs.Prelude.{Option, Result}
use Rattle.std.proofs.lemmas.Bool.{le-ltb}
use Rattle.serde_json.specs.Data.{Data}
use Rattle.tetri_base.specs.ResultSteps.{◌>>=◌}
use Rattle.tetri_notice.specs.Answers.{Gives}
use Rattle.tetri_notice.specs.Fields.{object_in}
use Rattle.tetri_notice.specs.Headers.{HeaderText, header_in}
use Rattle.tetri_notice.specs.declared.fault.Stop.{Stop}
use Rattle.tetri_notice.specs.declared.fault.Stop.TheVariants as stops
use Rattle.tetri_notice.specs.declared.fault.TraceWhy.{TraceWhy}
use Rattle.tetri_trace.specs.Lines.{add_event, add_line, add_object, begun, event_line, header_line, is_blank_line}
use Rattle.tetri_trace.specs.Scenario.{Scenario}

-- what two steps give is what the third goes on with
pub in_turn : {A B C E : Type 0} (r : Result A E) (f : A → Result B E) (g : B → Result C E) (b : B) → (r >>= f) ≡ Ok b → (r >>= λ a. f a >>= g) ≡ g b
in_turn (Ok a) f g b e = rw e refl
in_turn (Err why) f g b e = absurd (cc)

-- a line that is short enough and not blank is an object
past_limits : (so_far : Option Scenario) (line : List ℕ) (next : ℕ) → length line ≤ 1048576 → next ≤ 67108864 → is_blank_line line ≡ false → add_line so_far (line, next) ≡ (object_in line >>= add_object so_far)
unfolding add_line
past_limits so_far line next short early text = rw (le-ltb 1048576 (length line) short, le-ltb 67108864 next early, text) refl

event_added : (r : Result Data TraceWhy) (s : Scenario) → (r >>= add_object (Some s)) ≡ ((r >>= add_event s) >>= λ t. Ok (Some t))
event_added (Ok d) s = refl
event_added (Err why) s = refl

header_then : (r : Result HeaderText TraceWhy) → (r >>= λ h. begun h >>= λ s. Ok (Some s)) ≡ ((r >>= begun) >>= λ t. Ok (Some t))
header_then (Ok h) = refl
header_then (Err why) = refl

header_added : (r : Result Data TraceWhy) → (r >>= add_object None) ≡ ((r >>= λ d. header_in d >>= begun) >>= λ t. Ok (Some t))
header_added (Ok d) = header_then (header_in d)
header_added (Err why) = refl

pub given_some : {X : Type 0} (f : X → Scenario) (result : Result X Stop) (reading : Result Scenario TraceWhy) → Gives f result reading → Gives (λ x. Some (f x)) result (reading >>= λ t. Ok (Some t))
given_some f (Ok x) reading h = rw h refl
given_some f (Err (stops.Because why)) reading h = rw h refl
given_some f (Err stops.NoMemory) reading h = tt

-- a line behind the header
pub gives_event : {X : Type 0} (f : X → Scenario) (result : Result X Stop) (s : Scenario) (line : List ℕ) (next : ℕ) → length line ≤ 1048576 → next ≤ 67108864 → is_blank_line line ≡ false → Gives f result (event_line s line)
    → Gives (λ x. Some (f x)) result (add_line (Some s) (line, next))
gives_event f result s line next short early text h = rw (past_limits (Some s) line next short early text ∙ event_added (object_in line) s) (given_some f result (event_line s line) h)

-- the line of the header
pub header_first : (line : List ℕ) (next : ℕ) → length line ≤ 1048576 → next ≤ 67108864 → is_blank_line line ≡ false → add_line None (line, next) ≡ (header_line line >>= λ t. Ok (Some t))
header_first line next short early text = past_limits None line next short early text ∙ header_added (object_in line)
