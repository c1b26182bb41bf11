-- The equations of `tree`, one for each variant, and what a loop over parts has left.
use Rattle.std.proofs.Common.{◌≡◌, ℕ, ◌+◌, ◌<◌, ◌≤◌, List, length, get_or, drop, Vec, Box, Global, sym, ap, subst, ◌∙◌}
use Rattle.std.proofs.lemmas.List.{at_drop_all, at_drop_more}
use Rattle.tetri_strl.specs.Tree.{greatest, least, added, Tree, one, join, scale, barrier, none, more, tree, trees, node_tree}
use Rattle.tetri_strl.specs.WellMade.{IsSound, AreSound}
use Rattle.tetri_strl.specs.declared.expr.Leaf.{Leaf}
use Rattle.tetri_strl.specs.declared.expr.Expr.{Expr, Expr-F, fold-roll-Expr}
use Rattle.tetri_strl.specs.declared.expr.Expr.TheVariants.{One, Max, Min, Sum, Scale, Barrier, rolls-One, rolls-Max, rolls-Min, rolls-Sum, rolls-Scale, rolls-Barrier}

pub tree-One : (l : Leaf) → tree (One l) ≡ one l
tree-One l = ap tree (sym (rolls-One l)) ∙ fold-roll-Expr Tree node_tree (Expr-F.One l)

pub tree-Max : (es : Vec Expr Global) → tree (Max es) ≡ join greatest (trees es.items)
tree-Max es = ap tree (sym (rolls-Max es)) ∙ fold-roll-Expr Tree node_tree (Expr-F.Max es)

pub tree-Min : (es : Vec Expr Global) → tree (Min es) ≡ join least (trees es.items)
tree-Min es = ap tree (sym (rolls-Min es)) ∙ fold-roll-Expr Tree node_tree (Expr-F.Min es)

pub tree-Sum : (es : Vec Expr Global) → tree (Sum es) ≡ join added (trees es.items)
tree-Sum es = ap tree (sym (rolls-Sum es)) ∙ fold-roll-Expr Tree node_tree (Expr-F.Sum es)

pub tree-Scale : (e : Box Expr Global) (s : ℕ) → tree (Scale e s) ≡ scale (tree e.value) s
tree-Scale e s = ap tree (sym (rolls-Scale e s)) ∙ fold-roll-Expr Tree node_tree (Expr-F.Scale e s)

pub tree-Barrier : (e : Box Expr Global) (v : ℕ) → tree (Barrier e v) ≡ barrier (tree e.value) v
tree-Barrier e v = ap tree (sym (rolls-Barrier e v)) ∙ fold-roll-Expr Tree node_tree (Expr-F.Barrier e v)

-- the parts from the place `i` on are the part `e` there and those after it
pub trees_more : (es : List Expr) (i : ℕ) (e : Expr) → i < length es → e ≡ get_or es i e → trees (drop i es) ≡ more (tree e) (trees (drop (i + 1) es))
trees_more es i e h is = at_drop_more trees es i e h ∙ ap (λ x. more (tree x) (trees (drop (i + 1) es))) (sym is)

pub trees_end : (es : List Expr) (i : ℕ) → length es ≤ i → trees (drop i es) ≡ none
trees_end es i h = at_drop_all trees es i h

pub sound_more : (es : List Expr) (i : ℕ) (e : Expr) → i < length es → e ≡ get_or es i e → AreSound (trees (drop i es)) → IsSound (tree e) × AreSound (trees (drop (i + 1) es))
sound_more es i e h is s = subst AreSound (trees_more es i e h is) s
