use Rattle.std.proofs.Common.{◌≡◌, ◌∙◌, ℕ, List, ◌++◌, ◌+◌, All, ◌<◌, drop, get_or, length, map, ap, sym, subst, arith}
use Rattle.std.specs.Prelude.{slice_set}
use Rattle.std.proofs.lemmas.List.{drop_more}
use Rattle.std.proofs.lemmas.List.FromFn.{length-map-range_with_len}
use Rattle.tetri_space.specs.Partitions.{part_at, partitions}
use Rattle.tetri_space.specs.Space.{space}
use Rattle.tetri_assign.specs.steps.Taking.{AreMarks, IsMark, back_at, backs, held_by, hold, ready, taken_from}
use Rattle.tetri_assign.specs.declared.wants.Want.{Want}
use Rattle.tetri_assign.proofs.BackLemmas.{length-hold}
use Rattle.tetri_assign.proofs.MarkLemmas.{first_marks, later_wants, next_marks, next_taken, parts_small}
use Rattle.tetri_assign.proofs.backs.take_nodes.Goals as goal

pub loop-want-init : goal.loop-want-init
loop-want-init c =
    let s = space c.args.inst.now in
    let many : length (backs s) ≡ s.nodes = length-map-range_with_len (back_at s) 0 s.nodes in
    record {
      as_many = ap length c.in_ok-back.ensures ∙ many;
      marks = subst (AreMarks (partitions s) c.in_ok-back.back.items c.args.wants.now) (sym c.in_ok-marks.ensures)
          (first_marks (partitions s) c.in_ok-back.back.items c.args.wants.now c.count.result (c.count.ensures ∙ ap length c.requires.partitions.groups));
      so_far = rw c.new-held.ensures.items (ap (λ (b : List ℕ). taken_from (partitions s) b c.args.wants.now) c.in_ok-back.ensures);
    }

pub take_part-requires-clause-there : goal.take_part-requires-clause-there
take_part-requires-clause-there c =
    let s = space c.args.inst.now in
    let w : Want = record { start = 0; job = 0; leaf = 0; part = 0; nodes = 0; end = 0 } in
    let p = (get_or c.args.wants.now c.loop-want.want-index w).part in
    let is : c.as_slice-part.result.now ≡ part_at (partitions s) p =
    c.as_slice-part.ensures ∙ c.nodes_of.ensures ∙ ap (λ (gs : List (List ℕ)). part_at gs p) c.requires.partitions.groups in
    subst (All (λ n. n < length c.loop-want.back.items)) (sym is)
    (subst (λ (k : ℕ). All (λ n. n < k) (part_at (partitions s) p)) (sym c.loop-want.invariant.as_many) (parts_small s p))

pub loop-want-preserved : goal.loop-want-preserved
loop-want-preserved c =
    let s = space c.args.inst.now in
    let parts = partitions s in
    let ws = c.args.wants.now in
    let i = c.loop-want.want-index in
    let none : Want = record { start = 0; job = 0; leaf = 0; part = 0; nodes = 0; end = 0 } in
    let lt = c.loop-want-test.true in
    let w = get_or ws i none in
    let rest = drop (i + 1) ws in
    let back = c.loop-want.back.items in
    let is : c.as_slice-part.result.now ≡ part_at parts w.part =
    c.as_slice-part.ensures ∙ c.nodes_of.ensures ∙ ap (λ (gs : List (List ℕ)). part_at gs w.part) c.requires.partitions.groups in
    let got = ready back w.start w.nodes (part_at parts w.part) in
    let held : c.take_part.new.held.items ≡ c.loop-want.held.items ++ map (held_by w) got =
    c.in_ok-take_part.ensures.held ∙ ap (λ (ns : List ℕ). c.loop-want.held.items ++ map (held_by w) (ready back w.start w.nodes ns)) is in
    let new : c.take_part.new.back.items ≡ hold back w.end got =
    c.in_ok-take_part.ensures.back ∙ ap (λ (ns : List ℕ). hold back w.end (ready back w.start w.nodes ns)) is in
    let mark : IsMark (hold back w.end got) (part_at parts w.part) c.take_part.new.mark =
    subst (λ (ns : List ℕ). IsMark (hold back w.end got) ns c.take_part.new.mark) is (subst (λ (b : List ℕ). IsMark b c.as_slice-part.result.now c.take_part.new.mark) new c.in_ok-take_part.ensures.mark) in
    let inside : w.part < length c.loop-want.marks.items =
    omega (arith, c.requires.there i none lt, ap length c.requires.partitions.groups, c.loop-want.invariant.marks.as_many) in
    record {
      as_many = ap length new ∙ length-hold back w.end got ∙ c.loop-want.invariant.as_many;
      marks = subst (λ (b : List ℕ). AreMarks parts b rest (slice_set c.loop-want.marks.items w.part c.take_part.new.mark)) (sym new)
          (next_marks parts back w rest c.loop-want.marks.items c.take_part.new.mark got
          (λ p. subst (λ (k : ℕ). All (λ n. n < k) (part_at parts p)) (sym c.loop-want.invariant.as_many) (parts_small s p))
          (later_wants ws i none lt c.requires.in_turn) (c.requires.some_slots i none lt)
          (subst (λ (vs : List Want). AreMarks parts back vs c.loop-want.marks.items) (drop_more ws i none lt) c.loop-want.invariant.marks)
          inside mark c.in_ok-take_part.ensures.slot);
      so_far = next_taken parts back c.take_part.new.back.items w rest c.loop-want.held.items c.take_part.new.held.items (taken_from parts (backs s) ws) held new
          (subst (λ (vs : List Want). c.loop-want.held.items ++ taken_from parts back vs ≡ taken_from parts (backs s) ws) (drop_more ws i none lt) c.loop-want.invariant.so_far);
    }
