-- How two pictures are written on a sheet, part by part.
use Rattle.std.proofs.Common.{◌≡◌, List, [], ◌++◌, ℕ, sym, ap, ◌∙◌, subst}
use Rattle.std.specs.Prelude.{Option}
use Rattle.std.specs.Io.KnownBytes.{append_known}
use Rattle.std.proofs.lemmas.List.{append-nil}
use Rattle.tetri_io.specs.Sink.{AppendsPart}
use Rattle.tetri_io.proofs.TextLaws.{append_known-append, part_on}
use Rattle.tetri_svg.specs.Layout.{Layout}
use Rattle.tetri_svg.specs.Sheet.{below_text, end_text, on_sheet, sheet_text}
use Rattle.tetri_svg.specs.Sizes.{height_of}
use Rattle.tetri_trace.specs.Scenario.{Scenario}
use Rattle.tetri_chart.specs.Framing.{framed}
use Rattle.tetri_chart.specs.Pair.{both_text, pair_text, shared_view}
use Rattle.tetri_chart.specs.Picture.{Picture}
use Rattle.tetri_chart.specs.Svg.{AppendsFront, svg_text}
use Rattle.tetri_chart.specs.declared.view.View.{View}
use Rattle.tetri_chart.proofs.WriteLemmas.{append_none, front_none, front_on}

-- A text, and what comes behind it.
module _ (first rest : List ℕ) (old : Option (List ℕ)) where
  first_part : (new : Option (List ℕ)) → AppendsPart old new first → AppendsPart old new (first ++ rest)
  first_part new p = part_on old old new [] first rest (sym (append_none old)) p

  first_front : (new : Option (List ℕ)) → AppendsFront old new first → AppendsFront old new (first ++ rest)
  first_front new p = front_on old old new [] first rest (sym (append_none old)) p

  module _ (middle : Option (List ℕ)) (wrote : middle ≡ append_known old first) where
    rest_part : (new : Option (List ℕ)) → AppendsPart middle new rest → AppendsPart old new (first ++ rest)
    rest_part new p = subst (λ (l : List ℕ). AppendsPart old new (first ++ l)) (append-nil rest) (part_on old middle new first rest [] wrote p)

    rest_front : (new : Option (List ℕ)) → AppendsFront middle new rest → AppendsFront old new (first ++ rest)
    rest_front new p = subst (λ (l : List ℕ). AppendsFront old new (first ++ l)) (append-nil rest) (front_on old middle new first rest [] wrote p)

    rest_all : (new : Option (List ℕ)) → new ≡ append_known middle rest → new ≡ append_known old (first ++ rest)
    rest_all new e = e ∙ ap (λ (o : Option (List ℕ)). append_known o rest) wrote ∙ append_known-append old first rest

-- The parts of a sheet with the pictures of two runs.
module _ (t : Scenario) (v : View) (p q : Picture) (shared : View) (shown : shared ≡ shared_view t v p q) (frame : Layout) (is : frame ≡ framed t shared p) (old : Option (List ℕ)) where
  abbrev last_two : List ℕ
  last_two = svg_text t shared q ++ end_text

  abbrev last_three : List ℕ
  last_three = below_text (height_of frame) ++ last_two

  abbrev last_four : List ℕ
  last_four = svg_text t shared p ++ last_three

  parts : sheet_text frame ++ last_four ≡ pair_text t v p q
  parts = ap (λ (f : Layout). on_sheet f (svg_text t shared p) (svg_text t shared q)) is ∙ ap (λ (u : View). both_text t u p q) shown

  pub opening_part : (new : Option (List ℕ)) → AppendsPart old new (sheet_text frame) → AppendsPart old new (pair_text t v p q)
  opening_part new h = subst (AppendsPart old new) parts (first_part (sheet_text frame) last_four old new h)

  pub opening_front : (new : Option (List ℕ)) → new ≡ old → AppendsFront old new (pair_text t v p q)
  opening_front new e = front_none old new (pair_text t v p q) e

  module _ (opened : Option (List ℕ)) (one : opened ≡ append_known old (sheet_text frame)) where
    behind_one : (new : Option (List ℕ)) → AppendsPart opened new last_four → AppendsPart old new (pair_text t v p q)
    behind_one new h = subst (AppendsPart old new) parts (rest_part (sheet_text frame) last_four old opened one new h)

    stopped_one : (new : Option (List ℕ)) → AppendsFront opened new last_four → AppendsFront old new (pair_text t v p q)
    stopped_one new h = subst (AppendsFront old new) parts (rest_front (sheet_text frame) last_four old opened one new h)

    pub upper_part : (new : Option (List ℕ)) → AppendsPart opened new (svg_text t shared p) → AppendsPart old new (pair_text t v p q)
    upper_part new h = behind_one new (first_part (svg_text t shared p) last_three opened new h)

    pub upper_front : (new : Option (List ℕ)) → AppendsFront opened new (svg_text t shared p) → AppendsFront old new (pair_text t v p q)
    upper_front new h = stopped_one new (first_front (svg_text t shared p) last_three opened new h)

    module _ (upper : Option (List ℕ)) (two : upper ≡ append_known opened (svg_text t shared p)) where
      behind_two : (new : Option (List ℕ)) → AppendsPart upper new last_three → AppendsPart old new (pair_text t v p q)
      behind_two new h = behind_one new (rest_part (svg_text t shared p) last_three opened upper two new h)

      stopped_two : (new : Option (List ℕ)) → AppendsFront upper new last_three → AppendsFront old new (pair_text t v p q)
      stopped_two new h = stopped_one new (rest_front (svg_text t shared p) last_three opened upper two new h)

      pub between_part : (new : Option (List ℕ)) → AppendsPart upper new (below_text (height_of frame)) → AppendsPart old new (pair_text t v p q)
      between_part new h = behind_two new (first_part (below_text (height_of frame)) last_two upper new h)

      pub between_front : (new : Option (List ℕ)) → new ≡ upper → AppendsFront old new (pair_text t v p q)
      between_front new e = stopped_two new (front_none upper new last_three e)

      module _ (below : Option (List ℕ)) (three : below ≡ append_known upper (below_text (height_of frame))) where
        behind_three : (new : Option (List ℕ)) → AppendsPart below new last_two → AppendsPart old new (pair_text t v p q)
        behind_three new h = behind_two new (rest_part (below_text (height_of frame)) last_two upper below three new h)

        stopped_three : (new : Option (List ℕ)) → AppendsFront below new last_two → AppendsFront old new (pair_text t v p q)
        stopped_three new h = stopped_two new (rest_front (below_text (height_of frame)) last_two upper below three new h)

        pub lower_part : (new : Option (List ℕ)) → AppendsPart below new (svg_text t shared q) → AppendsPart old new (pair_text t v p q)
        lower_part new h = behind_three new (first_part (svg_text t shared q) end_text below new h)

        pub lower_front : (new : Option (List ℕ)) → AppendsFront below new (svg_text t shared q) → AppendsFront old new (pair_text t v p q)
        lower_front new h = stopped_three new (first_front (svg_text t shared q) end_text below new h)

        module _ (lower : Option (List ℕ)) (four : lower ≡ append_known below (svg_text t shared q)) where
          pub end_part : (new : Option (List ℕ)) → AppendsPart lower new end_text → AppendsPart old new (pair_text t v p q)
          end_part new h = behind_three new (rest_part (svg_text t shared q) end_text below lower four new h)

          pub end_front : (new : Option (List ℕ)) → new ≡ lower → AppendsFront old new (pair_text t v p q)
          end_front new e = stopped_three new (rest_front (svg_text t shared q) end_text below lower four new (front_none lower new end_text e))

          pub sheet_all : (new : Option (List ℕ)) → new ≡ append_known lower end_text → new ≡ append_known old (pair_text t v p q)
          sheet_all new e =
              rest_all (sheet_text frame) last_four old opened one new
              (rest_all (svg_text t shared p) last_three opened upper two new
              (rest_all (below_text (height_of frame)) last_two upper below three new
              (rest_all (svg_text t shared q) end_text below lower four new e)))
              ∙ ap (append_known old) parts
