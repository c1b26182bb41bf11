-- The greatest worth and the first start of what is spelled do not depend on the nodes of a cluster.
use Rattle.std.proofs.Common.{◌≡◌, ℕ, ◌*◌, max, List, [], ◌∷◌, map, refl, sym, ap, ◌∙◌, subst}
use Rattle.tetri_cluster.specs.declared.cluster.NodeText.{NodeText}
use Rattle.tetri_strl.specs.WellMade.{peak_joined}
use Rattle.tetri_parse.specs.declared.syntax.Syntax.{Syntax}
use Rattle.tetri_parse.specs.declared.syntax.Syntax.TheOpen.{Syntax-F}
use Rattle.tetri_parse.specs.declared.syntax.Syntax.TheViews.{roll-Syntax}
use Rattle.tetri_parse.specs.declared.syntax.Syntax.TheFolds.{map-Syntax, fold-roll-Syntax, ind-Syntax}
use Rattle.tetri_parse.specs.Phrase.{Phrase, line_up, operator, node_phrase, phrase, phrases}
use Rattle.tetri_parse.specs.Settling.{first_start, first_start_of, peak_of, peaks_of}

module _ (cluster : List NodeText) where
  record Alike (s : Syntax) : Type 0 where
    peak : (unit : ℕ) → peak_of unit (phrase cluster s) ≡ peak_of unit (phrase [] s)
    start : first_start (phrase cluster s) ≡ first_start (phrase [] s)

  abbrev bare : List ((s : Syntax) × Alike s) → List Syntax
  bare es = map (λ e. e.0) es

  peaks_alike : (unit : ℕ) (es : List ((s : Syntax) × Alike s)) → peaks_of unit (line_up (phrases cluster (bare es))) ≡ peaks_of unit (line_up (phrases [] (bare es)))
  peaks_alike unit [] = refl
  peaks_alike unit (e ∷ es) = let first = e.1.peak unit in let others = peaks_alike unit es in rw (first, others) refl

  start_alike : (es : List ((s : Syntax) × Alike s)) → first_start_of (line_up (phrases cluster (bare es))) ≡ first_start_of (line_up (phrases [] (bare es)))
  start_alike [] = refl
  start_alike (e ∷ es) = e.1.start

  abbrev layer_said : List NodeText → Syntax-F ((s : Syntax) × Alike s) → Phrase
  layer_said nodes y = node_phrase nodes (map-Syntax Syntax Phrase (phrase nodes) (map-Syntax ((s : Syntax) × Alike s) Syntax (λ e. e.0) y))

  layer_peak : (unit : ℕ) (y : Syntax-F ((s : Syntax) × Alike s)) → peak_of unit (layer_said cluster y) ≡ peak_of unit (layer_said [] y)
  layer_peak unit (Syntax-F.Leaf l) = refl
  layer_peak unit (Syntax-F.Join j left ps) = ap (peak_joined (operator j)) (peaks_alike unit ps.items)
  layer_peak unit (Syntax-F.Scale left p s) = ap (λ n. s * n) (p.value.1.peak unit)
  layer_peak unit (Syntax-F.Barrier left p v) = ap (max (v * unit)) (p.value.1.peak unit)

  layer_start : (y : Syntax-F ((s : Syntax) × Alike s)) → first_start (layer_said cluster y) ≡ first_start (layer_said [] y)
  layer_start (Syntax-F.Leaf l) = refl
  layer_start (Syntax-F.Join j left ps) = start_alike ps.items
  layer_start (Syntax-F.Scale left p s) = p.value.1.start
  layer_start (Syntax-F.Barrier left p v) = p.value.1.start

  layer_alike : (y : Syntax-F ((s : Syntax) × Alike s)) → Alike (roll-Syntax (map-Syntax ((s : Syntax) × Alike s) Syntax (λ e. e.0) y))
  layer_alike y =
      let here = fold-roll-Syntax Phrase (node_phrase cluster) (map-Syntax ((s : Syntax) × Alike s) Syntax (λ e. e.0) y) in
      let bare_here = fold-roll-Syntax Phrase (node_phrase []) (map-Syntax ((s : Syntax) × Alike s) Syntax (λ e. e.0) y) in
      record {
        peak = λ unit. ap (peak_of unit) here ∙ layer_peak unit y ∙ sym (ap (peak_of unit) bare_here);
        start = ap first_start here ∙ layer_start y ∙ sym (ap first_start bare_here);
      }

  alike : (s : Syntax) → Alike s
  alike = ind-Syntax Alike (λ x y is. subst (λ z. Alike (roll-Syntax z)) is (layer_alike y))

  pub same_peak : (unit : ℕ) (s : Syntax) → peak_of unit (phrase cluster s) ≡ peak_of unit (phrase [] s)
  same_peak unit s = (alike s).peak unit

  pub same_start : (ps : List Syntax) → first_start_of (line_up (phrases cluster ps)) ≡ first_start_of (line_up (phrases [] ps))
  same_start [] = refl
  same_start (p ∷ ps) = (alike p).start
