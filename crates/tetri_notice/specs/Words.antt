-- Causes in words.
use Rattle.std.specs.Prelude.{ℕ, List, [], ◌++◌, codes, decimal}
use Rattle.tetri_parse.specs.Words.{fault_words}
use Rattle.tetri_notice.specs.declared.fault.Field.{Field}
use Rattle.tetri_notice.specs.declared.fault.Field.TheVariants as fields
use Rattle.tetri_notice.specs.declared.fault.TraceWhy.{TraceWhy}
use Rattle.tetri_notice.specs.declared.fault.TraceWhy.TheVariants as whys

-- a field as its key
abbrev pub field_words : Field → List ℕ
field_words fields.Nodes = codes "nodes"
field_words fields.Window = codes "window"
field_words fields.Budget = codes "budget"
field_words fields.Until = codes "until"
field_words fields.Unit = codes "unit"
field_words fields.Closures = codes "closures"
field_words fields.At = codes "at"
field_words fields.Arrive = codes "arrive"
field_words fields.Cancel = codes "cancel"
field_words fields.Drain = codes "drain"
field_words fields.Undrain = codes "undrain"
field_words fields.Fail = codes "fail"
field_words fields.Late = codes "late"
field_words fields.Strl = codes "strl"
field_words fields.Ask = codes "ask"
field_words fields.K = codes "k"
field_words fields.Set = codes "set"
field_words fields.Dur = codes "dur"
field_words fields.Value = codes "value"
field_words fields.Deadline = codes "deadline"
field_words fields.Prefer = codes "prefer"
field_words fields.PreferSet = codes "prefer.set"
field_words fields.PreferDur = codes "prefer.dur"
field_words fields.Class = codes "class"
field_words fields.Elastic = codes "elastic"

-- the name of a cause
abbrev pub why_name : TraceWhy → List ℕ
why_name whys.LineTooLong = codes "line-too-long"
why_name whys.TraceTooLong = codes "trace-too-long"
why_name whys.NotJson = codes "not-json"
why_name whys.NotObject = codes "not-object"
why_name whys.NoHeader = codes "no-header"
why_name (whys.MissingField field) = codes "missing-field"
why_name (whys.BadField field) = codes "bad-field"
why_name whys.UnknownEvent = codes "unknown-event"
why_name whys.OutOfOrder = codes "out-of-order"
why_name whys.PastEnd = codes "past-end"
why_name whys.NameTaken = codes "name-taken"
why_name whys.NoSuchJob = codes "no-such-job"
why_name whys.NoSuchNode = codes "no-such-node"
why_name (whys.BadStrl offset fault) = codes "bad-strl"
why_name whys.TooManyJobs = codes "too-many-jobs"

-- its values, each after a space
abbrev pub why_values : TraceWhy → List ℕ
why_values (whys.MissingField field) = codes " " ++ field_words field
why_values (whys.BadField field) = codes " " ++ field_words field
why_values (whys.BadStrl offset fault) = codes " " ++ decimal offset ++ codes " " ++ fault_words fault
why_values _ = []

-- a cause in words, with its values
unfoldable pub why_words : TraceWhy → List ℕ
why_words why = why_name why ++ why_values why
