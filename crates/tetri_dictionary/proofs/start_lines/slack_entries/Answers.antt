use Rattle.std.proofs.Common.{◌≡◌, ◌<◌, ◌≤◌, length, map, sym, ap, subst, ◌∙◌, arith, rules}
use Rattle.std.proofs.lemmas.List.{length-map}
use Rattle.std.proofs.lemmas.Int.{to_z-of_z}
use lib.IntN.{pos}
use mir.Val.{SFits}
use mir.Syntax.{w128}
use Rattle.tetri_ip.specs.declared.programs.Term.{Term}
use Rattle.tetri_ip.specs.Points.{column_at, term_at}
use Rattle.tetri_ip.proofs.IntegerProgramLaws.{item_is}
use Rattle.tetri_dictionary.proofs.Starting.{whole_read}
use Rattle.tetri_dictionary.proofs.SparseStart.{column_get, slack_done, slack_is, slack_places, slack_value}
use Rattle.tetri_dictionary.proofs.SparseWalks.{walk_done, walk_push}
use Rattle.tetri_dictionary.proofs.start_lines.slack_entries.Goals as goal

pub loop-k-preserved : goal.loop-k-preserved
loop-k-preserved c =
    let p = c.args.p.now in
    let ts = c.args.row.now.terms.items in
    let k = c.loop-k.k in
    let l : k < length ts = omega (arith, c.len-k-end.ensures, c.args.row.now.terms.ok.0) in
    let m : k < length (map (λ (t : Term). t.column) ts) = subst (λ z. k < z) (sym (length-map ts (λ (t : Term). t.column))) l in
    let d : Term = record { column = 0; by = pos 0 } in
    let e : c.index-term.result.now ≡ term_at ts k = item_is ts k c.index-term.result.now d l c.index-term.ensures in
    let f : SFits w128 c.index-term.result.now.by = search rules in
    let ce : c.index-term.result.now.column ≡ column_at ts k = ap (λ (t : Term). t.column) e in
    walk_push (slack_is ts p.costs.items) (length p.costs.items) (map (λ (t : Term). t.column) ts) k c.loop-k.entries.items c.push.new.self.items _ (slack_places p ts c.args.row.now.right c.requires.row) c.loop-k.invariant m
    (ce ∙ sym (column_get ts k))
    (slack_value p ts c.args.row.now.right k c.index-term.result.now.column _ _ c.requires.row l ce (to_z-of_z _ _ f ∙ ap (λ (t : Term). t.by) e) (whole_read c.whole.result c.slack_number-number.result _ c.whole.ensures.rational c.slack_number-number.ensures.within c.slack_number-number.ensures.value))
    c.in_ok-push.ensures.items

pub returns-clause-numbers : goal.returns-clause-numbers
returns-clause-numbers c =
    let p = c.args.p.now in
    let ts = c.args.row.now.terms.items in
    let k = c.loop-k.k in
    let h : length ts ≤ k = omega (arith, c.len-k-end.ensures, c.args.row.now.terms.ok.0) in
    let m : length (map (λ (t : Term). t.column) ts) ≤ k = subst (λ z. z ≤ k) (sym (length-map ts (λ (t : Term). t.column))) h in
    slack_done ts p.costs.items c.loop-k.entries.items (walk_done (slack_is ts p.costs.items) (length p.costs.items) (map (λ (t : Term). t.column) ts) k c.loop-k.entries.items (slack_places p ts c.args.row.now.right c.requires.row) c.loop-k.invariant m)
