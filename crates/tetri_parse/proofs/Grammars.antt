-- An expression, level by level, and the equations of `phrase`.
use Rattle.std.proofs.Common.{◌≡◌, ℕ, suc, ◌-◌, ◌<◌, Vec, Box, Global, List, length, sym, ap, ◌∙◌, arith}
use Rattle.tetri_cluster.specs.declared.cluster.NodeText.{NodeText}
use Rattle.tetri_parse.specs.declared.syntax.Join.{Join}
use Rattle.tetri_parse.specs.declared.syntax.LeafText as code
use Rattle.tetri_parse.specs.declared.syntax.Syntax.{Syntax, Syntax-F, fold-roll-Syntax}
use Rattle.tetri_parse.specs.declared.syntax.Syntax.TheVariants as variant
use Rattle.tetri_parse.specs.declared.syntax.Syntax.TheVariants.{rolls-Leaf, rolls-Join, rolls-Scale, rolls-Barrier}
use Rattle.tetri_base.specs.ResultSteps.{◌>>=◌}
use Rattle.tetri_parse.specs.Tokens.{skip_blanks, word_at}
use Rattle.tetri_parse.specs.Grammar.{Rest, body_at, expr_at}
use Rattle.tetri_parse.specs.Phrase.{Phrase, asked, joined, scaled, barred, line_up, operator, leaf_text, node_phrase, phrase, phrases}

module _ (cluster : List NodeText) where
  pub phrase-Leaf : (l : code.LeafText) → phrase cluster (variant.Leaf l) ≡ asked (leaf_text cluster l)
  phrase-Leaf l = ap (phrase cluster) (sym (rolls-Leaf l)) ∙ fold-roll-Syntax Phrase (node_phrase cluster) (Syntax-F.Leaf l)

  pub phrase-Join : (j : Join) (left : ℕ) (ps : Vec Syntax Global) → phrase cluster (variant.Join j left ps) ≡ joined (operator j) left (line_up (phrases cluster ps.items))
  phrase-Join j left ps = ap (phrase cluster) (sym (rolls-Join j left ps)) ∙ fold-roll-Syntax Phrase (node_phrase cluster) (Syntax-F.Join j left ps)

  pub phrase-Scale : (left : ℕ) (p : Box Syntax Global) (s : ℕ) → phrase cluster (variant.Scale left p s) ≡ scaled left (phrase cluster p.value) s
  phrase-Scale left p s = ap (phrase cluster) (sym (rolls-Scale left p s)) ∙ fold-roll-Syntax Phrase (node_phrase cluster) (Syntax-F.Scale left p s)

  pub phrase-Barrier : (left : ℕ) (p : Box Syntax Global) (v : ℕ) → phrase cluster (variant.Barrier left p v) ≡ barred left (phrase cluster p.value) v
  phrase-Barrier left p v = ap (phrase cluster) (sym (rolls-Barrier left p v)) ∙ fold-roll-Syntax Phrase (node_phrase cluster) (Syntax-F.Barrier left p v)

-- the four equations
pub ruleset phrase_equations = (phrase-Leaf, phrase-Join, phrase-Scale, phrase-Barrier)

-- an expression where some level is left
pub deeper : (cluster : List NodeText) (levels : ℕ) (s : Rest) → 0 < levels → expr_at cluster levels s ≡ (word_at (skip_blanks s.1) >>= λ w. body_at cluster (expr_at cluster (levels - 1)) w.0 (length (skip_blanks s.1)) s.0 w.1)
unfolding expr_at
deeper cluster levels s lt =
    let k : levels ≡ suc (levels - 1) = omega arith in
    ap (λ (n : ℕ). expr_at cluster n s) k
