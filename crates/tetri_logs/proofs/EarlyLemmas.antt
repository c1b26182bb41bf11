-- An option that cannot be is known before a log is read, unless the log says how many nodes there are.
use Rattle.std.proofs.Math.Nat.{div-le_self}
use Rattle.std.proofs.Common.{◌≡◌, ◌+◌, ◌-◌, ◌/◌, ◌^◌, ◌<◌, ◌≤◌, ℕ, List, Bool, true, false, [], ◌∷◌, ◌++◌, length, map, max, cond, sym, subst, arith, rules, tests}
use Rattle.std.specs.Prelude.{Option, Some, None, Result, Ok, Err, IfSome, nat_lt, option_and_then, unwrap_or, ◌==◌, bytes_eq, codes, if◌then◌else◌}
use Rattle.tetri_base.specs.ResultSteps.{◌>>=◌}
use Rattle.tetri_logs.specs.Entry.{header_entry, ids_if, layout_at, line_entries, row_entry, swf_entry, with_name}
use Rattle.tetri_logs.specs.Facts.{fact_in, fact_named}
use Rattle.tetri_logs.specs.Header.{header_in, is_header}
use Rattle.tetri_logs.specs.Options.{cluster_size, early_of, node_size, nodes_fault, settings_of, within}
use Rattle.tetri_logs.specs.Reading.{entries, entries_from, facts_in, is_comment, no_facts}
use Rattle.tetri_logs.specs.Sacct.{cell, row_of, sacct_account, without_return}
use Rattle.tetri_logs.specs.SetText.{seated}
use Rattle.tetri_logs.specs.Swf.{swf_account, swf_partition}
use Rattle.tetri_logs.specs.Swf as swf
use Rattle.tetri_logs.specs.Words.{count_in, word_at, words_of}
use Rattle.tetri_logs.specs.Layout.{first_layout}
use Rattle.tetri_logs.specs.Lines.{log_lines}
use Rattle.tetri_logs.specs.declared.account.Account.{Account}
use Rattle.tetri_logs.specs.declared.comments.Fact.{Fact}
use Rattle.tetri_logs.specs.declared.comments.Fact.TheVariants.{Nodes, Processors, Start}
use Rattle.tetri_logs.specs.declared.entry.Cause.{Cause}
use Rattle.tetri_logs.specs.declared.entry.Entry.{Entry}
use Rattle.tetri_logs.specs.declared.entry.Entry.TheVariants.{Job, Comment, Left}
use Rattle.tetri_logs.specs.declared.entry.Format.{Format}
use Rattle.tetri_logs.specs.declared.header.Header.{Header}
use Rattle.tetri_logs.specs.declared.layout.Layout.{Layout}
use Rattle.tetri_logs.specs.declared.layout.Layout.TheVariants.{Words, Table}
use Rattle.tetri_logs.specs.declared.options.OptionFault.{OptionFault}
use Rattle.tetri_logs.specs.declared.options.OptionFault.TheVariants as faults
use Rattle.tetri_logs.specs.declared.options.Options.{Options}
use Rattle.tetri_logs.specs.declared.options.Settings.{Settings}
use Rattle.tetri_logs.specs.declared.reading.Facts.{Facts}
use Rattle.tetri_logs.proofs.CommentLemmas.{named-none, row-none, seated-none}

-- ---- a log says numbers of 32 bits
abbrev IsSmall : Option ℕ → Type 0
IsSmall o = IfSome o (λ n. n < 2 ^ 32)

abbrev IsSmallFact : Option Fact → Type 0
IsSmallFact None = Unit {0}
IsSmallFact (Some (Nodes n)) = Unit {0}
IsSmallFact (Some (Processors n)) = n < 2 ^ 32
IsSmallFact (Some (Start n)) = Unit {0}

abbrev IsSmallEntry : Entry → Type 0
IsSmallEntry (Job job) = Unit {0}
IsSmallEntry (Comment fact) = IsSmallFact fact
IsSmallEntry (Left reject) = Unit {0}

abbrev AreSmall : List Entry → Type 0
AreSmall [] = Unit {0}
AreSmall (e ∷ es) = IsSmallEntry e × AreSmall es

facts-small : (es : List Entry) (f : Facts) → IsSmall f.processors → AreSmall es → IsSmall (facts_in f es).processors
facts-small [] f p small = p
facts-small (Job job ∷ es) f p small = facts-small es f p small.1
facts-small (Comment None ∷ es) f p small = facts-small es f p small.1
facts-small (Comment (Some (Nodes n)) ∷ es) f p small = facts-small es (record f { nodes = Some n }) p small.1
facts-small (Comment (Some (Processors n)) ∷ es) f p small = facts-small es (record f { processors = Some n }) small.0 small.1
facts-small (Comment (Some (Start n)) ∷ es) f p small = facts-small es (record f { start = n }) p small.1
facts-small (Left reject ∷ es) f p small = facts-small es f p small.1

append-small : (xs ys : List Entry) → AreSmall xs → AreSmall ys → AreSmall (xs ++ ys)
append-small [] ys p q = q
append-small (x ∷ xs) ys p q = (p.0, append-small xs ys p.1 q)

-- ---- what a line says
other-small : (e : Entry) → is_comment e ≡ false → IsSmallEntry e
other-small (Job job) p = tt
other-small (Comment fact) p = absurd (cc)
other-small (Left reject) p = tt

either-fact : (b : Bool) (x y : Option Fact) → IsSmallFact x → IsSmallFact y → IsSmallFact (cond b x y)
either-fact true x y p q = p
either-fact false x y p q = q

either-entry : (b : Bool) (x y : Entry) → IsSmallEntry x → IsSmallEntry y → IsSmallEntry (cond b x y)
either-entry true x y p q = p
either-entry false x y p q = q

either-all : (b : Bool) (xs ys : List Entry) → AreSmall xs → AreSmall ys → AreSmall (cond b xs ys)
either-all true xs ys p q = p
either-all false xs ys p q = q

named-small : (key : List ℕ) (n : ℕ) → n < 2 ^ 32 → IsSmallFact (fact_named key n)
named-small key n small =
    let start = if bytes_eq key (codes "UnixStartTime:") then Some (Start n) else None in
    let later = if bytes_eq key (codes "MaxProcs:") then Some (Processors n) else start in
    either-fact (bytes_eq key (codes "MaxNodes:")) (Some (Nodes n)) later tt
    (either-fact (bytes_eq key (codes "MaxProcs:")) (Some (Processors n)) start small (either-fact (bytes_eq key (codes "UnixStartTime:")) (Some (Start n)) None tt tt))

counted-small : (word : List ℕ) → IsSmall (count_in word)
counted-small word = search (rules, tests)

value-small : (key : List ℕ) (more : List (List ℕ)) (o : Option ℕ) → IsSmall o → IsSmallFact (option_and_then (fact_named key) o)
value-small key more None small = tt
value-small key more (Some n) small = named-small key n small

fact-small : (words : List (List ℕ)) → IsSmallFact (fact_in words)
fact-small [] = tt
fact-small (key ∷ []) = tt
fact-small (key ∷ value ∷ more) = value-small key more (count_in value) (counted-small value)

swf-small : (mixed : Bool) (line : ℕ) (text : List ℕ) → IsSmallEntry (swf_entry mixed line text)
swf-small mixed line text =
    let words = words_of text in
    either-entry (swf.is_comment text) _ _ (fact-small words)
    (other-small (seated mixed (with_name line (word_at words 0) (swf_account words)) (swf_partition words) [])
    (seated-none mixed (with_name line (word_at words 0) (swf_account words)) (swf_partition words) [] (named-none line (word_at words 0) (swf_account words))))

header-small : (line : ℕ) (row : List (List ℕ)) (named : Option Header) → IsSmallEntry (header_entry line row named)
header-small line row None = tt
header-small line row (Some h) = tt

rows-small : (mixed : Bool) (h : Header) (line : ℕ) (row : List (List ℕ)) (account : Result Account Cause) (ids : List (List ℕ)) → AreSmall (map (row_entry mixed h line row account) ids)
rows-small mixed h line row account [] = tt
rows-small mixed h line row account (id ∷ ids) = (other-small (row_entry mixed h line row account id) (row-none mixed h line row account id), rows-small mixed h line row account ids)

line-small : (mixed : Bool) (layout : Layout) (line : ℕ) (text : List ℕ) → AreSmall (line_entries mixed layout line text)
line-small mixed Words line text = (swf-small mixed line text, tt)
line-small mixed (Table h) line text =
    either-all (length (without_return text) == 0) _ _ (tt, tt)
    (either-all (is_header (row_of text)) _ _ (header-small line (row_of text) (header_in (row_of text)), tt)
    (rows-small mixed h line (row_of text) (sacct_account h (row_of text)) (ids_if (sacct_account h (row_of text)) (cell (row_of text) h.id))))

lines-small : (mixed : Bool) (layout : Layout) (number : ℕ) (lines : List (List ℕ)) → AreSmall (entries_from mixed layout number lines)
lines-small mixed layout number [] = tt
lines-small mixed layout number (line ∷ lines) =
    append-small (line_entries mixed layout number line) (entries_from mixed (layout_at layout line) (number + 1) lines)
    (line-small mixed layout number line) (lines-small mixed (layout_at layout line) (number + 1) lines)

-- ---- options
known_of : (r : Result Settings OptionFault) (fault : OptionFault) → early_of r ≡ Some fault → r ≡ Err fault
known_of (Ok s) fault e = absurd (cc)
known_of (Err faults.Slot) fault e = cc
known_of (Err faults.Processors) fault e = cc
known_of (Err faults.Window) fault e = cc
known_of (Err faults.Budget) fault e = cc
known_of (Err faults.Unit) fault e = cc
known_of (Err faults.Slack) fault e = cc
known_of (Err faults.Nodes) fault e = cc
known_of (Err faults.LogNodes) fault e = absurd (cc)

-- a step that is the same before two others
after : (r : Result ℕ OptionFault) (early late : ℕ → Result Settings OptionFault) (fault : OptionFault) → ((n : ℕ) → early_of (early n) ≡ Some fault → late n ≡ Err fault) → early_of (r >>= early) ≡ Some fault → (r >>= late) ≡ Err fault
after (Ok n) early late fault next e = next n e
after (Err x) early late fault next e = known_of (Err x) fault e

chosen : (b : Bool) (q p : ℕ) → q ≤ p → p < 2 ^ 32 → (1 ≤ cond b (max q 1) 1) × (cond b (max q 1) 1 ≤ 2 ^ 32 - 1)
chosen true q p le small = (omega arith, omega arith)
chosen false q p le small = (omega arith, omega arith)

size-fits : (processors nodes : Option ℕ) → IsSmall processors → (1 ≤ node_size processors nodes) × (node_size processors nodes ≤ 2 ^ 32 - 1)
size-fits None nodes small = (omega arith, omega arith)
size-fits (Some p) None small = (omega arith, omega arith)
size-fits (Some p) (Some n) small = chosen (nat_lt 0 n) (p / n) p (div-le_self p n) small

within-fits : (n : ℕ) (fault : OptionFault) → 1 ≤ n → n ≤ 2 ^ 32 - 1 → within n 1 (2 ^ 32 - 1) fault ≡ Ok n
within-fits n fault low high = search (rules, tests, arith)

-- the steps that ask a log, before others that do not
sized : (given nodes : Option ℕ) (f : Facts) (fault : OptionFault) (early late : ℕ → ℕ → Result Settings OptionFault) → IsSmall f.processors
    → ((p q n : ℕ) → early_of (early p n) ≡ Some fault → late q n ≡ Err fault)
    → early_of (within (unwrap_or given 1) 1 (2 ^ 32 - 1) faults.Processors >>= λ p. within (unwrap_or nodes (cluster_size given p None None)) 1 4096 (nodes_fault nodes) >>= early p) ≡ Some fault
    → (within (unwrap_or given (node_size f.processors f.nodes)) 1 (2 ^ 32 - 1) faults.Processors >>= λ p. within (unwrap_or nodes (cluster_size given p f.nodes f.processors)) 1 4096 (nodes_fault nodes) >>= late p) ≡ Err fault
sized (Some given) (Some nodes) f fault early late small next e =
    after (within given 1 (2 ^ 32 - 1) faults.Processors) _ _ fault (λ p. after (within nodes 1 4096 faults.Nodes) (early p) (late p) fault (next p p)) e
sized (Some given) None f fault early late small next e =
    after (within given 1 (2 ^ 32 - 1) faults.Processors) _ _ fault (λ p none. absurd (cc)) e
sized None (Some nodes) f fault early late small next e =
    let size = node_size f.processors f.nodes in
    let fits = size-fits f.processors f.nodes small in
    subst (λ r. (r >>= λ p. within nodes 1 4096 faults.Nodes >>= late p) ≡ Err fault) (sym (within-fits size faults.Processors fits.0 fits.1))
    (after (within nodes 1 4096 faults.Nodes) (early 1) (late size) fault (next 1 size) e)
sized None None f fault early late small next e = absurd (cc)

by_facts : (o : Options) (f : Facts) (fault : OptionFault) → IsSmall f.processors → early_of (settings_of o no_facts) ≡ Some fault → settings_of o f ≡ Err fault
unfolding settings_of
by_facts o f fault small e =
    after (within o.slot 1 1000000 faults.Slot) _ _ fault
    (λ slot. sized o.processors o.nodes f fault _ _ small
    (λ p q n. after (within o.window 1 64 faults.Window) _ _ fault
    (λ window. after (within o.budget 1 10000 faults.Budget) _ _ fault
    (λ budget. after (within o.unit 1 1000000 faults.Unit) _ _ fault
    (λ unit. after (within o.slack 0 10000 faults.Slack) _ _ fault
    (λ slack none. absurd (cc)))))))
    e

-- what cannot be though no log is read cannot be with any log
pub early_known : (o : Options) (fault : OptionFault) (mixed : Bool) (format : Format) (log : List ℕ) → early_of (settings_of o no_facts) ≡ Some fault → settings_of o (facts_in no_facts (entries mixed format log)) ≡ Err fault
early_known o fault mixed format log e =
    by_facts o (facts_in no_facts (entries mixed format log)) fault
    (facts-small (entries mixed format log) no_facts tt (lines-small mixed (first_layout format) 1 (log_lines log))) e
