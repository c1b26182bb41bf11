-- How a picture is written part by part.
use Rattle.std.proofs.Common.{◌≡◌, ℕ, ◌+◌, ◌<◌, List, [], ◌∷◌, ◌++◌, length, take, drop, get_or, refl, sym, ap, ◌∙◌, subst, append_assoc, length-append, arith, suc, zero}
use Rattle.std.specs.Prelude.{Option, Some, None, flat_map}
use Rattle.std.specs.Io.KnownBytes.{append_known}
use Rattle.std.proofs.Math.Seq.{take-append-add}
use Rattle.std.proofs.lemmas.List.{append-nil, take-append-le}
use Rattle.tetri_io.specs.Sink.{AppendsPart}
use Rattle.tetri_io.proofs.TextLaws.{append_known-append, part_on}
use Rattle.tetri_trace.specs.Scenario.{Scenario}
use Rattle.tetri_svg.specs.Layout.{Layout}
use Rattle.tetri_chart.specs.Ends.{back_text, front_text}
use Rattle.tetri_chart.specs.Framing.{framed}
use Rattle.tetri_chart.specs.Picture.{Picture}
use Rattle.tetri_chart.specs.Text.{meeting}
use Rattle.tetri_chart.specs.declared.picture.Span.{Span}
use Rattle.tetri_chart.specs.declared.view.View.{View}
use Rattle.tetri_chart.specs.declared.colours.Paint.{Paint}
use Rattle.tetri_chart.specs.Colours.{paint_of}
use Rattle.tetri_chart.specs.Svg.{AppendsFront, bars_text, svg_in, svg_text}

pub append_none : (known : Option (List ℕ)) → append_known known [] ≡ known
append_none None = refl
append_none (Some bytes) = ap Some (append-nil bytes)

-- a front of what comes next, behind a front that was written, is a front of the whole
pub front_on : (old middle new : Option (List ℕ)) (front next rest : List ℕ) → middle ≡ append_known old front → AppendsFront middle new next → AppendsFront old new (front ++ (next ++ rest))
front_on old middle new front next rest e p =
    let cut : take (length front + p.0) (front ++ (next ++ rest)) ≡ front ++ take p.0 next =
    take-append-add front (next ++ rest) p.0 ∙ ap (λ l. front ++ l) (take-append-le p.0 next rest p.1) in (
      length front + p.0,
      omega (arith, p.1, length-append front (next ++ rest), length-append next rest),
      p.2 ∙ ap (λ o. append_known o (take p.0 next)) e ∙ append_known-append old front (take p.0 next) ∙ ap (append_known old) (sym cut),
    )

-- nothing more was written
pub front_none : (old new : Option (List ℕ)) (bs : List ℕ) → new ≡ old → AppendsFront old new bs
front_none old new bs e = (0, omega arith, e ∙ sym (append_none old))

-- the texts up to an item, its own, and those behind it
pub cut_at : {X : Type 0} (f : X → List ℕ) (xs : List X) (i : ℕ) (x : X) → i < length xs → x ≡ get_or xs i x →
    flat_map f xs ≡ flat_map f (take i xs) ++ (f x ++ flat_map f (drop (suc i) xs))
cut_at f [] i x lt is = absurd (omega (arith, lt))
cut_at f (y ∷ ys) zero x lt is = ap (λ z. f z ++ flat_map f ys) (sym is)
cut_at f (y ∷ ys) (suc i) x lt is =
    ap (λ l. f y ++ l) (cut_at f ys i x (omega (arith, lt)) is) ∙ sym (append_assoc (f y) (flat_map f (take i ys)) (f x ++ flat_map f (drop (suc i) ys)))

pub more_at : {X : Type 0} (f : X → List ℕ) (xs : List X) (i : ℕ) (x : X) → i < length xs → x ≡ get_or xs i x → flat_map f (take (suc i) xs) ≡ flat_map f (take i xs) ++ f x
more_at f [] i x lt is = absurd (omega (arith, lt))
more_at f (y ∷ ys) zero x lt is = append-nil (f y) ∙ ap f (sym is)
more_at f (y ∷ ys) (suc i) x lt is =
    ap (λ l. f y ++ l) (more_at f ys i x (omega (arith, lt)) is) ∙ sym (append_assoc (f y) (flat_map f (take i ys)) (f x))

module _ {X : Type 0} (f : X → List ℕ) (xs : List X) (i : ℕ) (x : X) (lt : i < length xs) (is : x ≡ get_or xs i x) (old middle new : Option (List ℕ))
    (wrote : middle ≡ append_known old (flat_map f (take i xs))) where
  pub part_at : AppendsPart middle new (f x) → AppendsPart old new (flat_map f xs)
  part_at p =
      subst (AppendsPart old new) (sym (cut_at f xs i x lt is)) (part_on old middle new (flat_map f (take i xs)) (f x) (flat_map f (drop (suc i) xs)) wrote p)

  pub front_at : new ≡ middle → AppendsFront old new (flat_map f xs)
  front_at e =
      subst (AppendsFront old new) (sym (cut_at f xs i x lt is))
      (front_on old middle new (flat_map f (take i xs)) (f x) (flat_map f (drop (suc i) xs)) wrote (front_none middle new (f x) e))

  pub all_at : new ≡ append_known middle (f x) → new ≡ append_known old (flat_map f (take (i + 1) xs))
  all_at e =
      let more : suc i ≡ i + 1 = omega arith in
      e ∙ ap (λ o. append_known o (f x)) wrote ∙ append_known-append old (flat_map f (take i xs)) (f x)
      ∙ ap (append_known old) (sym (more_at f xs i x lt is) ∙ ap (λ n. flat_map f (take n xs)) more)

-- Three texts, one behind another.
module _ (front bars back : List ℕ) (old : Option (List ℕ)) where
  pub front_part : (new : Option (List ℕ)) → AppendsPart old new front → AppendsPart old new (front ++ (bars ++ back))
  front_part new p = part_on old old new [] front (bars ++ back) (sym (append_none old)) p

  module _ (middle : Option (List ℕ)) (first : middle ≡ append_known old front) where
    pub bars_part : (new : Option (List ℕ)) → AppendsPart middle new bars → AppendsPart old new (front ++ (bars ++ back))
    bars_part new p = part_on old middle new front bars back first p

    pub bars_front : (new : Option (List ℕ)) → AppendsFront middle new bars → AppendsFront old new (front ++ (bars ++ back))
    bars_front new p = front_on old middle new front bars back first p

    module _ (late : Option (List ℕ)) (second : late ≡ append_known middle bars) where
      both : late ≡ append_known old (front ++ bars)
      both = second ∙ ap (λ o. append_known o bars) first ∙ append_known-append old front bars

      whole : (front ++ bars) ++ (back ++ []) ≡ front ++ (bars ++ back)
      whole = ap (λ l. (front ++ bars) ++ l) (append-nil back) ∙ append_assoc front bars back

      pub back_part : (new : Option (List ℕ)) → AppendsPart late new back → AppendsPart old new (front ++ (bars ++ back))
      back_part new p = subst (AppendsPart old new) whole (part_on old late new (front ++ bars) back [] both p)

      pub back_front : (new : Option (List ℕ)) → new ≡ late → AppendsFront old new (front ++ (bars ++ back))
      back_front new e = subst (AppendsFront old new) whole (front_on old late new (front ++ bars) back [] both (front_none late new back e))

      pub all_written : (new : Option (List ℕ)) → new ≡ append_known late back → new ≡ append_known old (front ++ (bars ++ back))
      all_written new e =
          e ∙ ap (λ o. append_known o back) both ∙ append_known-append old (front ++ bars) back ∙ ap (append_known old) (append_assoc front bars back)

-- The parts of the picture of a run.
module _ (t : Scenario) (v : View) (p : Picture) (frame : Layout) (pieces : ℕ) (is : frame ≡ framed t v p) (counted : pieces ≡ meeting frame p.spans) (paint : Paint)
    (painted : paint ≡ paint_of t v.colours) (spans : List Span) (are : spans ≡ p.spans) (old : Option (List ℕ)) where
  abbrev before : List ℕ
  before = front_text t frame v pieces

  abbrev bars : List ℕ
  bars = bars_text t frame paint spans

  abbrev behind : List ℕ
  behind = back_text t frame v.colours p

  parts : before ++ (bars ++ behind) ≡ svg_text t v p
  parts =
      ap (λ n. front_text t frame v n ++ (bars_text t frame paint spans ++ back_text t frame v.colours p)) counted
      ∙ ap (λ c. front_text t frame v (meeting frame p.spans) ++ (bars_text t frame c spans ++ back_text t frame v.colours p)) painted
      ∙ ap (λ xs. front_text t frame v (meeting frame p.spans) ++ (bars_text t frame (paint_of t v.colours) xs ++ back_text t frame v.colours p)) are
      ∙ ap (λ f. svg_in t f v p) is

  pub drawn_before : (new : Option (List ℕ)) → AppendsPart old new (front_text t frame v pieces) → AppendsPart old new (svg_text t v p)
  drawn_before new h = subst (AppendsPart old new) parts (front_part before bars behind old new h)

  module _ (middle : Option (List ℕ)) (first : middle ≡ append_known old (front_text t frame v pieces)) where
    pub drawn_bars : (new : Option (List ℕ)) → AppendsPart middle new (bars_text t frame paint spans) → AppendsPart old new (svg_text t v p)
    drawn_bars new h = subst (AppendsPart old new) parts (bars_part before bars behind old middle first new h)

    pub stopped_bars : (new : Option (List ℕ)) → AppendsFront middle new (bars_text t frame paint spans) → AppendsFront old new (svg_text t v p)
    stopped_bars new h = subst (AppendsFront old new) parts (bars_front before bars behind old middle first new h)

    module _ (late : Option (List ℕ)) (second : late ≡ append_known middle (bars_text t frame paint spans)) where
      pub drawn_behind : (new : Option (List ℕ)) → AppendsPart late new (back_text t frame v.colours p) → AppendsPart old new (svg_text t v p)
      drawn_behind new h = subst (AppendsPart old new) parts (back_part before bars behind old middle first late second new h)

      pub stopped_behind : (new : Option (List ℕ)) → new ≡ late → AppendsFront old new (svg_text t v p)
      stopped_behind new h = subst (AppendsFront old new) parts (back_front before bars behind old middle first late second new h)

      pub drawn_all : (new : Option (List ℕ)) → new ≡ append_known late (back_text t frame v.colours p) → new ≡ append_known old (svg_text t v p)
      drawn_all new h = all_written before bars behind old middle first late second new h ∙ ap (append_known old) parts
