-- A line has one comment at most.
use Rattle.std.proofs.Common.{◌≡◌, ◌≤◌, ℕ, List, Bool, true, false, [], ◌∷◌, ◌==◌, length, map, cond, refl, ap, arith}
use Rattle.std.specs.Prelude.{None, Result, Ok, Err}
use Rattle.tetri_base.specs.Lists.{bit, count}
use Rattle.tetri_cluster.specs.Names.{is_name}
use Rattle.tetri_logs.specs.Entry.{header_entry, ids_if, line_entries, row_entries, row_entry, swf_entry, table_entries, with_name}
use Rattle.tetri_logs.specs.Header.{header_in, is_header}
use Rattle.tetri_logs.specs.Reading.{is_comment}
use Rattle.tetri_logs.specs.Sacct.{cell, id_name, row_of, sacct_account, told_cell, without_return}
use Rattle.tetri_logs.specs.SetText.{seat_of, seated, with_seat}
use Rattle.tetri_logs.specs.declared.account.Account.{Account}
use Rattle.tetri_logs.specs.declared.entry.Cause.{Cause}
use Rattle.tetri_logs.specs.declared.entry.Entry.{Entry}
use Rattle.tetri_logs.specs.declared.entry.Entry.TheVariants.{Job, Comment, Left}
use Rattle.tetri_logs.specs.declared.entry.LoggedJob.{LoggedJob}
use Rattle.tetri_logs.specs.declared.header.Header.{Header}
use Rattle.tetri_logs.specs.declared.layout.Layout.{Layout}
use Rattle.tetri_logs.specs.declared.layout.Layout.TheVariants.{Words, Table}

-- ---- what names a job is no comment
either : (b : Bool) (x y : Entry) → is_comment x ≡ false → is_comment y ≡ false → is_comment (cond b x y) ≡ false
either true x y p q = p
either false x y p q = q

by_seat : (job : LoggedJob) (seat : Result (List ℕ) Cause) → is_comment (with_seat job seat) ≡ false
by_seat job (Ok set) = refl
by_seat job (Err cause) = refl

pub seated-none : (mixed : Bool) (e : Entry) (partitions constraints : List ℕ) → is_comment e ≡ false → is_comment (seated mixed e partitions constraints) ≡ false
seated-none false e partitions constraints p = p
seated-none true (Job job) partitions constraints p = by_seat job (seat_of partitions constraints)
seated-none true (Comment fact) partitions constraints p = p
seated-none true (Left reject) partitions constraints p = p

pub named-none : (line : ℕ) (name : List ℕ) (account : Result Account Cause) → is_comment (with_name line name account) ≡ false
named-none line name (Err cause) = refl
named-none line name (Ok account) = either (is_name name) _ _ refl refl

pub row-none : (mixed : Bool) (h : Header) (line : ℕ) (row : List (List ℕ)) (account : Result Account Cause) (id : List ℕ) → is_comment (row_entry mixed h line row account id) ≡ false
row-none mixed h line row account id = seated-none mixed (with_name line (id_name id) account) (told_cell row h.partitions) (told_cell row h.constraints) (named-none line (id_name id) account)

rows-none : (mixed : Bool) (h : Header) (line : ℕ) (row : List (List ℕ)) (account : Result Account Cause) (ids : List (List ℕ)) → count is_comment (map (row_entry mixed h line row account) ids) ≡ 0
rows-none mixed h line row account [] = refl
rows-none mixed h line row account (id ∷ ids) = omega (arith, ap bit (row-none mixed h line row account id), rows-none mixed h line row account ids)

-- ---- a line
one : (e : Entry) → count is_comment (e ∷ []) ≤ 1
one (Job job) = omega arith
one (Comment fact) = omega arith
one (Left reject) = omega arith

either-one : (b : Bool) (xs ys : List Entry) → count is_comment xs ≤ 1 → count is_comment ys ≤ 1 → count is_comment (cond b xs ys) ≤ 1
either-one true xs ys p q = p
either-one false xs ys p q = q

row-one : (mixed : Bool) (h : Header) (line : ℕ) (row : List (List ℕ)) → count is_comment (row_entries mixed h line row) ≤ 1
row-one mixed h line row = omega (arith, rows-none mixed h line row (sacct_account h row) (ids_if (sacct_account h row) (cell row h.id)))

table-one : (mixed : Bool) (h : Header) (line : ℕ) (text : List ℕ) → count is_comment (table_entries mixed h line text) ≤ 1
table-one mixed h line text =
    either-one (length (without_return text) == 0) _ _ (one (Comment None))
    (either-one (is_header (row_of text)) _ _ (one (header_entry line (row_of text) (header_in (row_of text)))) (row-one mixed h line (row_of text)))

pub line-one : (mixed : Bool) (layout : Layout) (line : ℕ) (text : List ℕ) → count is_comment (line_entries mixed layout line text) ≤ 1
line-one mixed Words line text = one (swf_entry mixed line text)
line-one mixed (Table h) line text = table-one mixed h line text
