use Rattle.std.proofs.Common.{◌≡◌, ◌≤◌, ◌∙◌, ◌&&◌, ℕ, not, Bool, List, sym, ap, subst}
use Rattle.std.specs.Prelude.{◌↔◌, IsTrue}
use Rattle.std.specs.List.{list_any}
use Rattle.tetri_strl.specs.declared.expr.Leaf.{Leaf}
use Rattle.tetri_space.specs.Closed.{is_closed_by}
use Rattle.tetri_space.specs.Free.{IsFreeThroughout, is_closed, is_free_throughout, slots}
use Rattle.tetri_space.specs.Space.{Space, space}
use Rattle.tetri_space.specs.declared.closure.Closure.{Closure}
use Rattle.tetri_space.proofs.FreeLemmas.{throughout_decides}
use Rattle.tetri_space.proofs.free_nodes.free_throughout.Goals as goal

-- the answer of the test says so
by_test : (s : Space) (l : Leaf) (n : ℕ) (r : Bool) → 1 ≤ l.dur → r ≡ is_free_throughout s l n → IsTrue r ↔ IsFreeThroughout s l n
by_test s l n r some e = subst (λ b. IsTrue b ↔ IsFreeThroughout s l n) (sym e) (throughout_decides s l n some)

pub returns-then-is_idle : goal.returns-then-is_idle
returns-then-is_idle c =
    let s = space c.args.inst.now in
    let l = c.args.leaf.now in
    by_test s l c.args.node (not c.is_closed_within.result) c.requires.some_slots
    (ap not (c.is_closed_within.ensures ∙ ap (λ (cs : List Closure). list_any (is_closed_by cs c.args.node) (slots l)) c.deref.ensures)
    ∙ ap (λ b. b && not (list_any (is_closed s c.args.node) (slots l))) c.if-is_idle.ensures)

pub returns-else-is_idle : goal.returns-else-is_idle
returns-else-is_idle c =
    let s = space c.args.inst.now in
    let l = c.args.leaf.now in
    by_test s l c.args.node c.is_idle.result c.requires.some_slots
    (c.if-is_idle.false ∙ ap (λ b. b && not (list_any (is_closed s c.args.node) (slots l))) c.if-is_idle.ensures)
