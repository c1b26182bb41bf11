-- Jobs and entries.
use Rattle.std.proofs.Common.{◌≡◌, ◌∙◌, ◌++◌, [], ℕ, List, Bool, true, false, map, cond, refl, ap}
use Rattle.std.proofs.lemmas.List.{map-append}
use Rattle.tetri_cluster.specs.declared.cluster.NodeText.{NodeText}
use Rattle.tetri_logs.specs.Reading.{jobs_in}
use Rattle.tetri_logs.specs.declared.account.Account.{Account}
use Rattle.tetri_logs.specs.declared.entry.Entry.{Entry}
use Rattle.tetri_logs.specs.declared.entry.LoggedJob.{LoggedJob}
use Rattle.tetri_logs.proofs.LogLaws.{jobs_in-append}
use Rattle.tetri_workload.specs.Kinds.{are_mixed, settled, settled_all}
use Rattle.tetri_workload.specs.Reading.{jobs_of}

-- when a job was submitted, by the log's clock
abbrev pub submit_of : LoggedJob → ℕ
submit_of job = job.account.submit

-- some jobs and others, each with how many nodes are in its set where nodes differ
settled-by : (mixed : Bool) (nodes : List NodeText) (xs ys : List LoggedJob)
    → cond mixed (map (settled nodes) (xs ++ ys)) (xs ++ ys) ≡ cond mixed (map (settled nodes) xs) xs ++ cond mixed (map (settled nodes) ys) ys
settled-by true nodes xs ys = map-append (settled nodes) xs ys
settled-by false nodes xs ys = refl

settled-append : (nodes : List NodeText) (xs ys : List LoggedJob) → settled_all nodes (xs ++ ys) ≡ settled_all nodes xs ++ settled_all nodes ys
settled-append nodes xs ys = settled-by (are_mixed nodes) nodes xs ys

none-by : (mixed : Bool) (nodes : List NodeText) → cond mixed (map (settled nodes) []) [] ≡ []
none-by true nodes = refl
none-by false nodes = refl

settled-none : (nodes : List NodeText) → settled_all nodes [] ≡ []
settled-none nodes = none-by (are_mixed nodes) nodes

-- entries without a job
pub jobs_of-none : (nodes : List NodeText) (es : List Entry) → jobs_in es ≡ [] → jobs_of nodes es ≡ []
jobs_of-none nodes es none = ap (settled_all nodes) none ∙ settled-none nodes

-- the jobs of some entries and of others
pub jobs_of-append : (nodes : List NodeText) (xs ys : List Entry) → jobs_of nodes (xs ++ ys) ≡ jobs_of nodes xs ++ jobs_of nodes ys
jobs_of-append nodes xs ys = ap (settled_all nodes) (jobs_in-append xs ys) ∙ settled-append nodes (jobs_in xs) (jobs_in ys)

-- two jobs that agree in all that is said of them
abbrev job_of : ℕ → List ℕ → Account → List ℕ → LoggedJob
job_of line name account set = record { line = line; name = name; account = account; set = set }

pub same_job : (a b : LoggedJob) → a.line ≡ b.line → a.account ≡ b.account → a.name ≡ b.name → a.set ≡ b.set → a ≡ b
same_job a b line account name set =
    ap (λ n. job_of n a.name a.account a.set) line
    ∙ ap (λ c. job_of b.line a.name c a.set) account
    ∙ ap (λ n. job_of b.line n b.account a.set) name
    ∙ ap (λ t. job_of b.line b.name b.account t) set
