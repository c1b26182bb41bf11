-- What follows where a job has a place in a trace, and where it is outside the wanted part of the log; and with which numbers it has one.
use Rattle.std.proofs.Common.{◌≡◌, ◌+◌, ◌-◌, ◌*◌, ◌/◌, ◌<◌, ◌≤◌, ◌∙◌, ℕ, Bool, true, false, cond, refl, ap, sym, arith, div-lt_iff_lt-mul, div-mul-le_self}
use Rattle.std.proofs.Math.Nat.{mul-le-mul_right}
use Rattle.std.specs.Prelude.{◌==◌, ◌&&◌, None, Option, Some, Result, Ok, Err, is_ok, nat_le, nat_lt, unwrap_or}
use Rattle.std.proofs.lemmas.Bool.Decides.{nat_tests}
use Rattle.std.proofs.lemmas.Nat.{le-div, mul-le}
use Rattle.tetri_base.specs.ResultSteps.{◌>>=◌}
use Rattle.tetri_logs.specs.Options.{AreGood}
use Rattle.tetri_logs.specs.Origin.{begun_at, is_in_run, may_begin}
use Rattle.tetri_logs.specs.Placing.{arrival_of, ask_of, cancel_of, is_outside, late_of, place, within_run, within_slots}
use Rattle.tetri_logs.specs.Scale.{is_part_node, moment_of, nodes_of, room_of, slot_of, slots_of, worth_by, worth_of}
use Rattle.tetri_logs.specs.Swf.{refused}
use Rattle.tetri_logs.specs.declared.account.Account.{Account}
use Rattle.tetri_logs.specs.declared.entry.Cause.{Cause}
use Rattle.tetri_logs.specs.declared.entry.Cause.TheVariants.{Beyond, NoSet, Outside, PartNode, TooLarge}
use Rattle.tetri_logs.specs.declared.options.Settings.{Settings}
use Rattle.tetri_logs.specs.declared.options.Worth.{Worth}
use Rattle.tetri_logs.specs.declared.options.Worth.TheVariants.{NodeSlots, Job}

-- ---- steps that may fail
-- a step behind which the others go well
past : {A B : Type 0} (r : Result A Cause) (f : A → Result B Cause) (P : Type 0) → ((x : A) → is_ok (f x) ≡ true → P) → is_ok (r >>= f) ≡ true → P
past (Ok x) f P next is = next x is
past (Err e) f P next is = absurd (cc)

-- a step before others that go well goes well
begins : {A B : Type 0} (r : Result A Cause) (f : A → Result B Cause) → is_ok (r >>= f) ≡ true → is_ok r ≡ true
begins (Ok x) f is = refl
begins (Err e) f is = is

-- where a step and those behind it go well, so do others that go well with them
onward : {A B C : Type 0} (r q : Result A Cause) (f : A → Result B Cause) (g : A → Result C Cause) → (is_ok r ≡ true → is_ok q ≡ true)
    → ((x y : A) → is_ok (f x) ≡ true → is_ok (g y) ≡ true) → is_ok (r >>= f) ≡ true → is_ok (q >>= g) ≡ true
onward (Ok x) (Ok y) f g both next is = next x y is
onward (Ok x) (Err e) f g both next is = both refl
onward (Err e) q f g both next is = absurd (cc)

-- the same of one step before others
onward_same : {A B C : Type 0} (r : Result A Cause) (f : A → Result B Cause) (g : A → Result C Cause)
    → ((x : A) → is_ok (f x) ≡ true → is_ok (g x) ≡ true) → is_ok (r >>= f) ≡ true → is_ok (r >>= g) ≡ true
onward_same (Ok x) f g next is = next x is
onward_same (Err e) f g next is = is

refuses : {B : Type 0} (b : Bool) (cause : Cause) (f : Unit {0} → Result B Cause) → b ≡ true → (refused b cause >>= f) ≡ Err cause
refuses true cause f is = refl
refuses false cause f is = absurd (cc)

-- ---- slots
div-mono : (m n k : ℕ) → 1 ≤ k → m ≤ n → m / k ≤ n / k
div-mono m n k some less = le-div (m / k) n k some (omega (arith, div-mul-le_self m k, less))

-- a step behind a test goes well where the test holds
tested : {A : Type 0} (b : Bool) (x : A) → is_ok (cond b (Ok x) (Err Beyond)) ≡ b
tested true x = refl
tested false x = refl

-- a slot of a run is below 10,000, and each below is one
within-below : (slot : ℕ) → is_ok (within_run slot) ≡ true → slot < 10000
within-below slot is =
    let told : nat_lt slot 10000 ≡ true = sym (tested (nat_lt slot 10000) slot) ∙ is in
    grind (arith, nat_tests, told)

within-from : (slot : ℕ) → slot < 10000 → is_ok (within_run slot) ≡ true
within-from slot small =
    let test : nat_lt slot 10000 ≡ true = grind (arith, nat_tests, small) in
    tested (nat_lt slot 10000) slot ∙ test

within-earlier : (m n : ℕ) → m ≤ n → is_ok (within_run n) ≡ true → is_ok (within_run m) ≡ true
within-earlier m n less is = within-from m (omega (arith, less, within-below n is))

-- a job that arrives does not come before slot 0, nor too late
arrival_by : (b : Bool) (slot : ℕ) → is_ok (cond b (Err Beyond) (within_run slot)) ≡ true → (b ≡ false) × (is_ok (within_run slot) ≡ true)
arrival_by true slot is = absurd (cc)
arrival_by false slot is = (refl, is)

arrival-behind : (s : Settings) (second : ℕ) → is_ok (arrival_of s second) ≡ true → s.origin ≤ second
arrival-behind s second is =
    let told = (arrival_by (nat_lt second s.origin) (slot_of s second) is).0 in
    grind (arith, nat_tests, told)

arrival-below : (s : Settings) (second : ℕ) → is_ok (arrival_of s second) ≡ true → slot_of s second < 10000
arrival-below s second is = within-below (slot_of s second) (arrival_by (nat_lt second s.origin) (slot_of s second) is).1

-- with slot 0 at its submission it arrives in slot 0
not_below : (n : ℕ) → nat_lt n n ≡ false
not_below n = grind (arith, nat_tests)

arrival-first : (s : Settings) (second : ℕ) → 1 ≤ s.slot → is_ok (arrival_of s second) ≡ true → is_ok (arrival_of (begun_at s second) second) ≡ true
arrival-first s second some is =
    let slot = (second - second) / s.slot in
    let early : slot ≤ slot_of s second = div-mono (second - second) (second - s.origin) s.slot some (omega arith) in
    ap (λ b. is_ok (cond b (Err Beyond) (within_run slot))) (not_below second)
    ∙ within-from slot (omega (arith, early, arrival-below s second is))

-- and it is cancelled no later
cancel-first : (s : Settings) (second : ℕ) (waited : Option ℕ) → 1 ≤ s.slot → s.origin ≤ second → is_ok (cancel_of s second waited) ≡ true
    → is_ok (cancel_of (begun_at s second) second waited) ≡ true
cancel-first s second None some behind is = refl
cancel-first s second (Some waited) some behind is =
    onward (within_run (slot_of s (second + waited))) (within_run (slot_of (begun_at s second) (second + waited))) _ _
    (within-earlier ((second + waited - second) / s.slot) (slot_of s (second + waited))
    (div-mono (second + waited - second) (second + waited - s.origin) s.slot some (omega (arith, behind))))
    (λ x y goes. refl) is

-- ---- a job that has a place
-- a job that has a place arrives
arrives : (s : Settings) (a : Account) → is_ok (place s a) ≡ true → is_ok (arrival_of s (moment_of s a)) ≡ true
unfolding place
arrives s a is =
    let moment = moment_of s a in
    let goal : Type 0 = is_ok (arrival_of s moment) ≡ true in
    past (refused (is_outside s moment) Outside) _ goal
    (λ wanted. past (refused (room_of s a == 0) NoSet) _ goal
    (λ seated. past (refused (nat_lt (room_of s a) (nodes_of s a)) TooLarge) _ goal
    (λ fits. past (refused (s.whole_nodes_only && is_part_node s a) PartNode) _ goal
    (λ whole. begins (arrival_of s moment) _))))
    is

-- it does not come before slot 0
pub placed-behind : (s : Settings) (a : Account) → is_ok (place s a) ≡ true → s.origin ≤ moment_of s a
placed-behind s a is = arrival-behind s (moment_of s a) (arrives s a is)

-- nor too late for the trace
pub placed-in_run : (s : Settings) (a : Account) → AreGood s → is_ok (place s a) ≡ true → is_in_run s a ≡ true
placed-in_run s a good is =
    let moment = moment_of s a in
    let early : moment - s.origin < 10000 * s.slot = (div-lt_iff_lt-mul good.some_slot).0 (arrival-below s moment (arrives s a is)) in
    let less : moment < s.origin + 10000 * s.slot = omega (arith, early) in
    grind (arith, nat_tests, less)

-- and it may begin the trace
pub placed-begins : (s : Settings) (a : Account) → AreGood s → is_ok (place s a) ≡ true → may_begin s a ≡ true
unfolding place
placed-begins s a good is =
    let moment = moment_of s a in
    let begun = begun_at s moment in
    onward_same (refused (is_outside s moment) Outside) _ _
    (λ wanted. onward_same (refused (room_of s a == 0) NoSet) _ _
    (λ seated. onward_same (refused (nat_lt (room_of s a) (nodes_of s a)) TooLarge) _ _
    (λ fits. onward_same (refused (s.whole_nodes_only && is_part_node s a) PartNode) _ _
    (λ whole. onward (arrival_of s moment) (arrival_of begun moment) _ _ (arrival-first s moment good.some_slot)
    (λ arrival first. onward_same (within_slots (slots_of s a.limit)) _ _
    (λ slots. onward_same (late_of s slots a.ran) _ _
    (λ late. onward (cancel_of s moment a.waited) (cancel_of begun moment a.waited) _ _ (cancel-first s moment a.waited good.some_slot (placed-behind s a is))
    (λ cancel earlier. onward_same (ask_of s (nodes_of s a) slots) _ _ (λ ask goes. refl)))))))))
    is

-- ---- a job outside the wanted part
-- it has no place, whenever slot 0 begins
pub outside-placeless : (s : Settings) (a : Account) → is_outside s (moment_of s a) ≡ true → place s a ≡ Err Outside
unfolding place
outside-placeless s a is = refuses (is_outside s (moment_of s a)) Outside _ is

-- and may not begin slot 0
pub outside-begins : (s : Settings) (a : Account) → is_outside s (moment_of s a) ≡ true → may_begin s a ≡ false
outside-begins s a is = ap is_ok (outside-placeless (begun_at s (moment_of s a)) a is)

-- ---- a place that is seen without a division
-- a step that goes well, and those behind it
goes : {A B : Type 0} (r : Result A Cause) (f : A → Result B Cause) → is_ok r ≡ true → ((x : A) → is_ok (f x) ≡ true) → is_ok (r >>= f) ≡ true
goes (Ok x) f is next = next x
goes (Err e) f is next = is

-- the same of a step that gives a number within its limit
goes_within : {B : Type 0} (n limit : ℕ) (f : ℕ → Result B Cause) → n ≤ limit → is_ok (f n) ≡ true → is_ok (cond (nat_le n limit) (Ok n) (Err Beyond) >>= f) ≡ true
goes_within n limit f few next =
    let test : nat_le n limit ≡ true = grind (arith, nat_tests, few) in
    ap (λ b. is_ok (cond b (Ok n) (Err Beyond) >>= f)) test ∙ next

-- where nothing is refused, the step goes well
passes : (b : Bool) (cause : Cause) → b ≡ false → is_ok (refused b cause) ≡ true
passes true cause is = absurd (cc)
passes false cause is = refl

-- and so does one that stands behind it
passes_beyond : {A : Type 0} (b : Bool) (r : Result A Cause) → b ≡ false → is_ok r ≡ true → is_ok (cond b (Err Beyond) r) ≡ true
passes_beyond true r is well = absurd (cc)
passes_beyond false r is well = well

-- parts of one size are no more than so many where these hold all
pub filled_most : (n size most : ℕ) → 1 ≤ size → nat_le ((n + size - 1) / size) most ≡ nat_le n (most * size)
filled_most n size most some =
    let both = div-lt_iff_lt-mul {k = size} {x = n + size - 1} {y = most + 1} some in
    grind (arith, nat_tests, both.0, both.1)

-- so are the slots of so many seconds
pub slots_most : (s : Settings) (seconds : ℕ) → AreGood s → nat_le (slots_of s seconds) 10000 ≡ nat_le seconds (10000 * s.slot)
slots_most s seconds good =
    let told = filled_most seconds s.slot 10000 good.some_slot in
    grind (arith, nat_tests, told)

-- and the slots before a second
pub run_most : (s : Settings) (second : ℕ) → AreGood s → is_ok (within_run (slot_of s second)) ≡ nat_lt (second - s.origin) (10000 * s.slot)
run_most s second good =
    let both = div-lt_iff_lt-mul {k = s.slot} {x = second - s.origin} {y = 10000} good.some_slot in
    let same : nat_lt (slot_of s second) 10000 ≡ nat_lt (second - s.origin) (10000 * s.slot) = grind (arith, nat_tests, both.0, both.1) in
    tested (nat_lt (slot_of s second) 10000) (slot_of s second) ∙ same

-- a job that is cancelled in the run arrives in it
arrival-from : (s : Settings) (second : ℕ) (waited : Option ℕ) → 1 ≤ s.slot → s.origin ≤ second
    → is_ok (within_run (slot_of s (second + unwrap_or waited 0))) ≡ true → is_ok (arrival_of s second) ≡ true
arrival-from s second waited some behind early =
    let not_before : nat_lt second s.origin ≡ false = grind (arith, nat_tests, behind) in
    let later = second + unwrap_or waited 0 in
    passes_beyond (nat_lt second s.origin) (within_run (slot_of s second)) not_before
    (within-earlier (slot_of s second) (slot_of s later) (div-mono (second - s.origin) (later - s.origin) s.slot some (omega arith)) early)

-- and is cancelled in it
cancel-from : (s : Settings) (second : ℕ) (waited : Option ℕ) → is_ok (within_run (slot_of s (second + unwrap_or waited 0))) ≡ true
    → is_ok (cancel_of s second waited) ≡ true
cancel-from s second None early = refl
cancel-from s second (Some waited) early = goes (within_run (slot_of s (second + waited))) _ early (λ slot. refl)

-- a job that ran no longer than a run lasts is not too late
late-from : (s : Settings) (slots : ℕ) (ran : Option ℕ) → slots_of s (unwrap_or ran 0) ≤ 10000 → is_ok (late_of s slots ran) ≡ true
late-from s slots None brief = refl
late-from s slots (Some ran) brief =
    let test : nat_le (slots_of s ran) (slots + 10000) ≡ true = grind (arith, nat_tests, brief) in
    tested (nat_le (slots_of s ran) (slots + 10000)) _ ∙ test

-- a job is worth no more than its room in all slots of a run
worth-most : (w : Worth) (nodes slots room : ℕ) → 1 ≤ room → nodes ≤ room → slots ≤ 10000 → worth_by w nodes slots ≤ room * 10000
worth-most NodeSlots nodes slots room seated fits short = mul-le nodes slots room 10000 fits short
worth-most Job nodes slots room seated fits short = omega arith

-- so where this is at most the peak, it may ask
ask-from : (s : Settings) (nodes slots room : ℕ) → 1 ≤ s.unit → 1 ≤ room → nodes ≤ room → slots ≤ 10000 → room * 10000 * s.unit ≤ 1000000000000
    → is_ok (ask_of s nodes slots) ≡ true
ask-from s nodes slots room some seated fits short cheap =
    let worth = worth_of s nodes slots in
    let most : worth ≤ room * 10000 = worth-most s.worth nodes slots room seated fits short in
    let few : worth ≤ 1000000000000 / s.unit = le-div worth 1000000000000 s.unit some (omega (arith, mul-le-mul_right s.unit most, cheap)) in
    let test : nat_lt (1000000000000 / s.unit) worth ≡ false = grind (arith, nat_tests, few) in
    passes_beyond (nat_lt (1000000000000 / s.unit) worth) _ test refl

-- a job has a place where its numbers are far enough from the limits
pub usual-placed : (s : Settings) (a : Account) → is_outside s (moment_of s a) ≡ false → 0 < room_of s a → nodes_of s a ≤ room_of s a
    → (s.whole_nodes_only && is_part_node s a) ≡ false → s.origin ≤ moment_of s a
    → is_ok (within_run (slot_of s (moment_of s a + unwrap_or a.waited 0))) ≡ true → slots_of s a.limit ≤ 10000
    → slots_of s (unwrap_or a.ran 0) ≤ 10000 → room_of s a * 10000 * s.unit ≤ 1000000000000 → AreGood s → is_ok (place s a) ≡ true
unfolding place
usual-placed s a wanted seated fits whole behind early short brief cheap good =
    let moment = moment_of s a in
    let slots = slots_of s a.limit in
    let some : (room_of s a == 0) ≡ false = grind (arith, nat_tests, seated) in
    let inside : nat_lt (room_of s a) (nodes_of s a) ≡ false = grind (arith, nat_tests, fits) in
    goes (refused (is_outside s moment) Outside) _ (passes (is_outside s moment) Outside wanted)
    (λ t. goes (refused (room_of s a == 0) NoSet) _ (passes (room_of s a == 0) NoSet some)
    (λ t. goes (refused (nat_lt (room_of s a) (nodes_of s a)) TooLarge) _ (passes (nat_lt (room_of s a) (nodes_of s a)) TooLarge inside)
    (λ t. goes (refused (s.whole_nodes_only && is_part_node s a) PartNode) _ (passes (s.whole_nodes_only && is_part_node s a) PartNode whole)
    (λ t. goes (arrival_of s moment) _ (arrival-from s moment a.waited good.some_slot behind early)
    (λ arrival. goes_within slots 10000 _ short
    (goes (late_of s slots a.ran) _ (late-from s slots a.ran brief)
    (λ late. goes (cancel_of s moment a.waited) _ (cancel-from s moment a.waited early)
    (λ cancel. goes (ask_of s (nodes_of s a) slots) _ (ask-from s (nodes_of s a) slots (room_of s a) good.some_unit seated fits short cheap)
    (λ ask. refl)))))))))
