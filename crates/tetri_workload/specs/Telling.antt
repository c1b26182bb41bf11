-- What is told of an import.
use Rattle.std.specs.Prelude.{ℕ, ◌-◌, ◌==◌, Bool, List, [], ◌++◌, count_by, codes, decimal, flat_map, map, slice_index_or, if◌then◌else◌}
use Rattle.tetri_logs.specs.Lines.{log_lines}
use Rattle.tetri_logs.specs.declared.entry.Cause.{Cause}
use Rattle.tetri_logs.specs.declared.entry.Cause.TheVariants.{Unreadable, Step, NoNodes, Backwards, TooLarge, PartNode, Outside, Repeated, Beyond, Constraint, NoSet}
use Rattle.tetri_logs.specs.declared.entry.Reject.{Reject}
use Rattle.tetri_logs.specs.declared.options.OptionFault.{OptionFault}
use Rattle.tetri_logs.specs.declared.options.OptionFault.TheVariants.{Slot, Processors, Window, Budget, Unit as UnitRange, Slack, Nodes, LogNodes}
use Rattle.tetri_workload.specs.declared.importing.Imported.{Imported}
use Rattle.tetri_workload.specs.declared.importing.ImportFault.{ImportFault}
use Rattle.tetri_workload.specs.declared.importing.ImportFault.TheVariants as faults

abbrev pub cause_number : Cause → ℕ
cause_number (Unreadable column) = 0
cause_number Step = 1
cause_number NoNodes = 2
cause_number Backwards = 3
cause_number TooLarge = 4
cause_number PartNode = 5
cause_number Outside = 6
cause_number Repeated = 7
cause_number Beyond = 8
cause_number Constraint = 9
cause_number NoSet = 10

-- why each line is left out, in whatever column
abbrev pub causes_of : List Reject → List ℕ
causes_of left = map (λ r. cause_number r.cause) left

-- how many of them for this cause
abbrev pub count_of : Cause → List ℕ → ℕ
count_of cause causes = count_by (λ n. n == cause_number cause) causes

abbrev pub cause_word : Cause → List ℕ
cause_word (Unreadable column) = codes "unreadable"
cause_word Step = codes "steps"
cause_word NoNodes = codes "no-nodes"
cause_word Backwards = codes "backwards"
cause_word TooLarge = codes "too-large"
cause_word PartNode = codes "part-nodes"
cause_word Outside = codes "outside"
cause_word Repeated = codes "repeated"
cause_word Beyond = codes "beyond"
cause_word Constraint = codes "constraint"
cause_word NoSet = codes "no-set"

-- a line with a word and a number
abbrev pub count_line : List ℕ → ℕ → List ℕ
count_line word count = word ++ codes " " ++ decimal count ++ codes "\n"

-- how many lines were left out for a cause
abbrev pub cause_line : List ℕ → Cause → List ℕ
cause_line causes cause = count_line (cause_word cause) (count_of cause causes)

-- how many lines were left out for what they say themselves, and for what they ask for
abbrev pub first_causes : List ℕ → List ℕ
first_causes causes = cause_line causes (Unreadable 0) ++ cause_line causes Step ++ cause_line causes NoNodes ++ cause_line causes Backwards

abbrev pub last_causes : List ℕ → List ℕ
last_causes causes = cause_line causes TooLarge ++ cause_line causes PartNode ++ cause_line causes Outside ++ cause_line causes Repeated ++ cause_line causes Beyond

-- how many lines are left out for the nodes that they ask for, where nodes differ
abbrev pub mixed_causes : Bool → List ℕ → List ℕ
mixed_causes mixed causes = if mixed then cause_line causes Constraint ++ cause_line causes NoSet else []

-- how many lines are left out for each cause
abbrev pub all_causes : Bool → List ℕ → List ℕ
all_causes mixed causes = first_causes causes ++ last_causes causes ++ mixed_causes mixed causes

-- how many jobs are taken, how many of them take a whole node for fewer processors, how many lines are comments, and these
abbrev pub counts_text : Imported → List ℕ
counts_text i =
    count_line (codes "taken") i.jobs ++ count_line (codes "rounded-up") i.rounded ++ count_line (codes "comments") i.comments ++ all_causes i.mixed (causes_of i.left.items)

-- the column at which a line stops being one
abbrev pub column_text : Cause → List ℕ
column_text (Unreadable column) = codes " column " ++ decimal column
column_text Step = []
column_text NoNodes = []
column_text Backwards = []
column_text TooLarge = []
column_text PartNode = []
column_text Outside = []
column_text Repeated = []
column_text Beyond = []
column_text Constraint = []
column_text NoSet = []

-- the number of a line that is left out, and why
abbrev pub reason_text : Reject → List ℕ
reason_text r = decimal r.line ++ codes " " ++ cause_word r.cause ++ column_text r.cause

-- the same with the line
abbrev pub reject_text : List (List ℕ) → Reject → List ℕ
reject_text lines r = reason_text r ++ codes ": " ++ slice_index_or lines (r.line - 1) [] ++ codes "\n"

-- each line of a log that is left out
abbrev pub rejects_text : List ℕ → List Reject → List ℕ
rejects_text log left = flat_map (reject_text (log_lines log)) left

-- why there is no trace
abbrev pub option_words : OptionFault → List ℕ
option_words Slot = codes "a slot has 1 to 1000000 seconds"
option_words Processors = codes "a node has 1 processor or more"
option_words Window = codes "the window is 1 to 64"
option_words Budget = codes "the budget is 1 to 10000"
option_words UnitRange = codes "the unit is 1 to 1000000"
option_words Slack = codes "the slack is 0 to 10000"
option_words Nodes = codes "there are 1 to 4096 nodes"
option_words LogNodes = codes "give --nodes: the log does not say that there are 1 to 4096"

-- with the second that parts the first jobs from the others
abbrev pub from_words : ℕ → List ℕ
from_words second = codes "give --from " ++ decimal second

abbrev pub to_words : ℕ → List ℕ
to_words second = codes " or --to " ++ decimal second

abbrev pub gap_words : ℕ → List ℕ
gap_words second = from_words second ++ to_words second ++ codes ": the first jobs lie 10000 slots or more before the others"

abbrev pub fault_words : ImportFault → List ℕ
fault_words (faults.Options fault) = option_words fault
fault_words (faults.Apart second) = gap_words second
fault_words faults.Unlike = codes "the trace that was made is not read as it should be"
fault_words faults.NoMemory = codes "out of memory"
