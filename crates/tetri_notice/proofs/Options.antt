-- Steps that may give nothing, where nothing is a fault.
use Rattle.std.proofs.Common.{◌≡◌, Option, Some, None, option_and_then, ok_or, Ok, refl}
use Rattle.std.specs.Prelude.{option_map}
use Rattle.tetri_notice.specs.Answers.{Stops}
use Rattle.tetri_notice.specs.declared.fault.Stop.{Stop}
use Rattle.tetri_notice.specs.declared.fault.Stop.TheVariants as stops
use Rattle.tetri_notice.specs.declared.fault.TraceWhy.{TraceWhy}

-- what is no fault was given
pub some_from_ok : {A E : Type 0} (o : Option A) (e : E) (x : A) → ok_or o e ≡ Ok x → o ≡ Some x
some_from_ok None e x h = cc
some_from_ok (Some y) e x h = cc

-- a first step that stops is all that is seen
pub stops_first : {A B : Type 0} (o : Option A) (f : A → Option B) (why : TraceWhy) (stop : Stop) → Stops stop (ok_or o why) → Stops stop (ok_or (option_and_then f o) why)
stops_first o f why stops.NoMemory h = tt
stops_first None f why (stops.Because other) h = cc
stops_first (Some x) f why (stops.Because other) h = absurd (cc)

-- a first step that gave nothing
pub stops_none : {A : Type 0} (o : Option A) (why : TraceWhy) → o ≡ None → Stops (stops.Because why) (ok_or o why)
stops_none o why h = rw h refl

-- a step that stops is all that is seen of what is made of its value
pub stops_map : {A B : Type 0} (o : Option A) (f : A → B) (why : TraceWhy) (stop : Stop) → Stops stop (ok_or o why) → Stops stop (ok_or (option_map f o) why)
stops_map o f why stops.NoMemory h = tt
stops_map None f why (stops.Because other) h = cc
stops_map (Some x) f why (stops.Because other) h = absurd (cc)
