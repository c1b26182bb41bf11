use Rattle.std.proofs.Common.{rules, ◌≡◌, ◌∙◌, ◌+◌, ◌-◌, ◌≤◌, true, false, Ok, Err, Contains, length, sym, ap, subst, arith, take_all}
use Rattle.std.specs.Prelude.{slice_range}
use Rattle.std.proofs.lemmas.Result.{err_from_is_err_and}
use Rattle.tetri_io.specs.Line.{AnswersLine, line_or_end}
use Rattle.tetri_io.specs.LineReader.{ahead}
use Rattle.tetri_io.specs.Lines.{line_of}
use Rattle.tetri_io.proofs.Ahead.{kept_piece, left_behind, length_part, nothing_left}
use Rattle.tetri_io.proofs.Lines.{goes_on, goes_out, goes_long, is_line, last_read, line_of-le, line_of_some, long_or_free, piece_within}
use Rattle.tetri_io.proofs.line_reader.LineReader.read_line.Goals as goal

pub returns-then-not-branch-clause-line : goal.returns-then-not-branch-clause-line
returns-then-not-branch-clause-line g c = λ content told.
    let told' = ap (λ f. f c.args.name.now) c.pieces.invariant.same ∙ told in
    let none : c.in_ok-fill.field-0 ≡ false = search rules in
    let left = c.in_ok-fill.ensures.ended content told' none in
    let place : c.fill.new.self.at ≡ c.pieces.self.at = c.in_ok-fill.ensures.place in
    let same : c.line_or_end.result ≡ line_or_end c.pieces.bytes c.pieces.self.at = c.line_or_end.ensures ∙ ap (line_or_end c.pieces.bytes) place in
    let answer : AnswersLine c.args.limit c.args.self.now.at content (Ok (line_or_end c.pieces.bytes c.pieces.self.at)) =
    last_read c.args.limit c.args.self.now.at c.pieces.self.at content c.pieces.bytes (c.pieces.invariant.lines content told) (omega (arith, c.pieces.invariant.place, c.pieces.bytes.ok.0)) (omega (arith, c.pieces.invariant.short, c.pieces.bytes.ok.0)) (omega (arith, left, place)) (c.pieces.invariant.within content told) in
    subst (λ line. AnswersLine c.args.limit c.args.self.now.at content (Ok line)) (sym same) answer

pub returns-in_err-front-clause-line : goal.returns-in_err-front-clause-line
returns-in_err-front-clause-line g c = λ content told.
    let told' = ap (λ f. f c.args.name.now) c.pieces.invariant.same ∙ told in
    let some : c.in_ok-fill.field-0 ≡ true = search rules in
    let r = c.fill.new.self in
    let within : r.end ≤ length r.chunk.items = omega (arith, r.held, r.chunk.ok.0) in
    let p = kept_piece content r c.deref.result.now c.pieces.self.at c.deref.ensures.value within (c.in_ok-fill.ensures.ahead content told') c.in_ok-fill.ensures.place (sym c.in_ok-fill.ensures.some ∙ some) in
    let piece = slice_range c.deref.result.now r.used r.end in
    let e = err_from_is_err_and c.from_residual-in_err-front.result c.from_residual-in_err-front.ensures.1 in
    rw (e.1, e.2) (long_or_free c.args.limit c.args.self.now.at content c.in_err-front.field-0.0 (λ err. goes_long content c.pieces.bytes.items piece c.args.self.now.at c.pieces.self.at (r.end - r.used) c.args.limit (c.pieces.invariant.lines content told) p.bytes p.len p.some (omega (arith, c.in_err-front.ensures.long (ap Err err), c.pieces.bytes.ok.0)) (line_of-le piece)))

pub returns-then-front-count-clause-line : goal.returns-then-front-count-clause-line
returns-then-front-count-clause-line g c = λ content told.
    let told' = ap (λ f. f c.args.name.now) c.pieces.invariant.same ∙ told in
    let some : c.in_ok-fill.field-0 ≡ true = search rules in
    let ok = c.in_ok-front.ensures.ok in
    let r = c.fill.new.self in
    let place = c.in_ok-fill.ensures.place in
    let within : r.end ≤ length r.chunk.items = omega (arith, r.held, r.chunk.ok.0) in
    let p = kept_piece content r c.deref.result.now c.pieces.self.at c.deref.ensures.value within (c.in_ok-fill.ensures.ahead content told') place (sym c.in_ok-fill.ensures.some ∙ some) in
    let piece = slice_range c.deref.result.now r.used r.end in
    let next : r.at + (c.in_ok-front.front + 1) ≡ c.pieces.self.at + c.in_ok-front.front + 1 = omega (arith, place) in
    rw next (is_line c.args.limit c.args.self.now.at content c.add_front.new.bytes.items (c.pieces.self.at + c.in_ok-front.front + 1)
    (rw ok.2 (goes_out content c.pieces.bytes.items piece c.args.self.now.at c.pieces.self.at (r.end - r.used) c.in_ok-front.front (c.pieces.invariant.lines content told) p.bytes p.len ok.0 c.if-front-count.true))
    (omega (arith, ok, c.add_front.new.bytes.ok.0))
    (omega (arith, c.pieces.invariant.place))
    (omega (arith, piece_within content piece c.pieces.self.at (r.end - r.used) p.bytes p.len p.some, c.if-front-count.true)))

pub returns-then-front-count-clause-ahead : goal.returns-then-front-count-clause-ahead
returns-then-front-count-clause-ahead g c = λ content told.
    let told' = ap (λ f. f c.args.name.now) c.pieces.invariant.same ∙ told in
    let r = c.fill.new.self in
    let within : r.end ≤ length r.chunk.items = omega (arith, r.held, r.chunk.ok.0) in
    record { bytes = left_behind content r.chunk.items r.used r.end r.at (c.in_ok-front.front + 1) (c.in_ok-fill.ensures.ahead content told').bytes (omega (arith, c.if-front-count.true)) within }

pub pieces-preserved : goal.pieces-preserved
pieces-preserved g c =
    let ok = c.in_ok-front.ensures.ok in
    let r = c.fill.new.self in
    let place = c.in_ok-fill.ensures.place in
    let some : c.in_ok-fill.field-0 ≡ true = search rules in
    let within : r.end ≤ length r.chunk.items = omega (arith, r.held, r.chunk.ok.0) in
    let piece = slice_range c.deref.result.now r.used r.end in
    let same : piece ≡ ahead r = ap (λ ys. slice_range ys r.used r.end) c.deref.ensures.value in
    let len : length piece ≡ r.end - r.used = length_part c.deref.result.now r.used r.end (omega (arith, ap length c.deref.ensures.value)) in
    let whole : c.in_ok-front.front ≡ r.end - r.used = omega (arith, ok, len, c.if-front-count.false) in
    let front : length (line_of piece) ≡ length piece = sym ok.0 ∙ whole ∙ sym len in
    record {
      place = omega (arith, ok, whole, place, c.pieces.invariant.place);
      short = ok.3;
      stands = λ content told. record { bytes = nothing_left r.chunk.items content r.end (r.at + (r.end - r.used)) };
      lines = λ content told.
          let told' = ap (λ f. f c.args.name.now) c.pieces.invariant.same ∙ told in
          let p = kept_piece content r c.deref.result.now c.pieces.self.at c.deref.ensures.value within (c.in_ok-fill.ensures.ahead content told') place (sym c.in_ok-fill.ensures.some ∙ some) in
          let next = goes_on content c.pieces.bytes.items piece c.args.self.now.at c.pieces.self.at (r.end - r.used) (c.pieces.invariant.lines content told) p.bytes p.len front in
          let all = take_all c.in_ok-front.front piece (omega (arith, len, whole)) in
          rw (ok.2, all, place) next;
      within = λ content told h.
          let told' = ap (λ f. f c.args.name.now) c.pieces.invariant.same ∙ told in
          let p = kept_piece content r c.deref.result.now c.pieces.self.at c.deref.ensures.value within (c.in_ok-fill.ensures.ahead content told') place (sym c.in_ok-fill.ensures.some ∙ some) in
          omega (arith, place, piece_within content piece c.pieces.self.at (r.end - r.used) p.bytes p.len p.some);
      kept = λ h.
          let before = c.pieces.invariant.kept h in
          let feed : Contains (ahead c.pieces.self) 10 = subst (λ xs. Contains xs 10) (sym before.1) h in
          let kept = c.in_ok-fill.ensures.kept (omega (arith, feed.1)) in
          let here : Contains piece 10 = subst (λ xs. Contains xs 10) (sym (same ∙ kept.1)) feed in
          absurd (omega (arith, line_of_some piece here, front));
      same = c.in_ok-fill.ensures.same ∙ c.pieces.invariant.same;
      later = λ other. omega (arith, c.pieces.invariant.later other, c.in_ok-fill.ensures.later other);
    }
