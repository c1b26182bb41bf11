-- The set of nodes that a job asks for, as the text that a trace has for it: tags with & between them, and nothing where all nodes may serve.
use Rattle.std.specs.Prelude.{ℕ, ◌==◌, Bool, true, false, List, [], ◌∷◌, ◌++◌, fold, length, take, position, Option, Some, None, Result, Ok, Err, if◌then◌else◌, codes}
use Rattle.tetri_cluster.specs.Names.{is_name}
use Rattle.tetri_hosts.specs.Columns.{is_feature, partition_tag}
use Rattle.tetri_io.specs.Words.{parts_at}
use Rattle.tetri_logs.specs.declared.entry.Cause.{Cause}
use Rattle.tetri_logs.specs.declared.entry.Cause.TheVariants.{NoSet, Constraint}
use Rattle.tetri_logs.specs.declared.entry.Entry.{Entry}
use Rattle.tetri_logs.specs.declared.entry.Entry.TheVariants.{Job, Comment, Left}
use Rattle.tetri_logs.specs.declared.entry.LoggedJob.{LoggedJob}

-- those of a set's nodes that have one tag more
abbrev pub with_tag : List ℕ → List ℕ → List ℕ
with_tag set tag = if length set == 0 then tag else set ++ codes "&" ++ tag

abbrev pub with_feature : List ℕ → List ℕ → List ℕ
with_feature set feature = if is_name feature then with_tag set feature else set

abbrev pub before_comma : List ℕ → Option ℕ → List ℕ
before_comma partitions None = partitions
before_comma partitions (Some i) = take i partitions

-- the first of several partitions, between which are commas
abbrev pub first_partition : List ℕ → List ℕ
first_partition partitions = before_comma partitions (position (λ b. b == 44) partitions)

-- the nodes of a partition, or all where it is not told; none where its tag is no name
abbrev pub partition_set : List ℕ → Option (List ℕ)
partition_set partition = if length partition == 0 then Some [] else partition_tag partition

-- what constraints ask for: a, or a&b
abbrev pub features_of : List ℕ → List (List ℕ)
features_of constraints = if length constraints == 0 then [] else parts_at 38 constraints

abbrev pub are_features : List (List ℕ) → Bool
are_features [] = true
are_features (part ∷ parts) = if is_feature part then are_features parts else false

-- those of a set's nodes that have all of these features, if they are some
abbrev pub set_by_features : List ℕ → List (List ℕ) → Result (List ℕ) Cause
set_by_features set features = if are_features features then Ok (fold with_feature set features) else Err Constraint

abbrev pub set_by_partition : Option (List ℕ) → List (List ℕ) → Result (List ℕ) Cause
set_by_partition None features = Err NoSet
set_by_partition (Some set) features = set_by_features set features

-- the set that partitions and constraints say, or why there is none
abbrev pub seat_of : List ℕ → List ℕ → Result (List ℕ) Cause
seat_of partitions constraints = set_by_partition (partition_set (first_partition partitions)) (features_of constraints)

-- a job with this set, or left out
abbrev pub with_seat : LoggedJob → Result (List ℕ) Cause → Entry
with_seat job (Ok set) = Job (record job { set = set })
with_seat job (Err cause) = Left (record { line = job.line; cause = cause })

-- an entry with the set of its job, where nodes differ
abbrev pub seated : Bool → Entry → List ℕ → List ℕ → Entry
seated false entry partitions constraints = entry
seated true (Job job) partitions constraints = with_seat job (seat_of partitions constraints)
seated true (Comment fact) partitions constraints = Comment fact
seated true (Left reject) partitions constraints = Left reject
