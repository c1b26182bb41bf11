-- An expression as its text says it, as plain data.
use Rattle.std.specs.Prelude.{ℕ, List, [], ◌∷◌, map}
use Rattle.tetri_strl.specs.Tree.{Operator, greatest, least, added}
use Rattle.tetri_parse.specs.declared.syntax.Join.{Join}
use Rattle.tetri_parse.specs.declared.syntax.Join.TheVariants.{Max, Min, Sum}
use Rattle.tetri_cluster.specs.declared.cluster.NodeText.{NodeText}
use Rattle.tetri_parse.specs.declared.syntax.LeafText as code
use Rattle.tetri_parse.specs.LeafText.{LeafText}
use Rattle.tetri_parse.specs.SetText.{nodes_in}
use Rattle.tetri_parse.specs.declared.syntax.Syntax.{Syntax}
use Rattle.tetri_parse.specs.declared.syntax.Syntax.TheOpen.{Syntax-F}
use Rattle.tetri_parse.specs.declared.syntax.Syntax.TheFolds.{fold-Syntax}

mutual
  -- each with how many bytes of the text were left at its word
  pub data Phrase : Type 0 where
    asked : LeafText → Phrase
    joined : Operator → ℕ → Phrases → Phrase
    scaled : ℕ → Phrase → ℕ → Phrase
    barred : ℕ → Phrase → ℕ → Phrase

  -- the parts of a join, in order
  pub data Phrases : Type 0 where
    nothing : Phrases
    followed : Phrase → Phrases → Phrases

abbrev pub line_up : List Phrase → Phrases
line_up [] = nothing
line_up (p ∷ ps) = followed p (line_up ps)

abbrev pub operator : Join → Operator
operator Max = greatest
operator Min = least
operator Sum = added

-- over the nodes of a cluster
module _ (cluster : List NodeText) where
  -- what a leaf says
  abbrev pub leaf_text : code.LeafText → LeafText
  leaf_text l = record { num = l.num; linear = l.linear; nodes = nodes_in cluster l.set.now; k = l.k; start = l.start; dur = l.dur; v = l.v; left = l.left; set_left = l.set_left; value_left = l.value_left }

  abbrev pub node_phrase : Syntax-F Phrase → Phrase
  node_phrase (Syntax-F.Leaf l) = asked (leaf_text l)
  node_phrase (Syntax-F.Join j left ps) = joined (operator j) left (line_up ps.items)
  node_phrase (Syntax-F.Scale left p s) = scaled left p.value s
  node_phrase (Syntax-F.Barrier left p v) = barred left p.value v

  -- what a syntax says
  abbrev pub phrase : Syntax → Phrase
  phrase = fold-Syntax Phrase node_phrase

  abbrev pub phrases : List Syntax → List Phrase
  phrases ps = map phrase ps
