-- The parts of an expression, one after another.
use Rattle.std.proofs.Common.{◌≡◌, ◌⊎◌, ℕ, ◌+◌, ◌<◌, ◌||◌, Bool, true, false, List, ◌∷◌, length, get_or, drop, Vec, Global, inl, inr, sym, ap, ◌∙◌, subst}
use Rattle.std.specs.List.{list_any}
use Rattle.std.proofs.lemmas.List.{drop_more}
use Rattle.std.proofs.lemmas.List.Folds.{list_any-append}
use Rattle.tetri_strl.specs.declared.expr.Expr.{Expr}
use Rattle.tetri_strl.specs.declared.expr.Expr.TheVariants.{Max, Min, Sum}
use Rattle.tetri_strl.specs.declared.expr.Leaf.{Leaf}
use Rattle.tetri_strl.specs.Aligned.{EachLeaf, EachLeafOf}
use Rattle.tetri_strl.specs.Tree.{Operator, greatest, least, added, join, more, leaves, leaves_of, tree, trees}
use Rattle.tetri_strl.proofs.ExprLaws.{tree-Max, tree-Min, tree-Sum}

-- an expression with these parts is a join of them
pub joined : (e : Expr) (kids : Vec Expr Global) → (e ≡ Max kids) ⊎ ((e ≡ Min kids) ⊎ (e ≡ Sum kids)) → (op : Operator) × (tree e ≡ join op (trees kids.items))
joined e kids (inl is) = (greatest, ap tree is ∙ tree-Max kids)
joined e kids (inr (inl is)) = (least, ap tree is ∙ tree-Min kids)
joined e kids (inr (inr is)) = (added, ap tree is ∙ tree-Sum kids)

-- the parts from a place on begin with the one there
pub kids_next : (es : List Expr) (i : ℕ) (e : Expr) → i < length es → e ≡ get_or es i e → trees (drop i es) ≡ more (tree e) (trees (drop (i + 1) es))
kids_next es i e lt is = ap trees (drop_more es i e lt ∙ ap (λ x. x ∷ drop (i + 1) es) (sym is))

-- leaves that pass, part by part
pub any_next : (p : Leaf → Bool) (es : List Expr) (i : ℕ) (e : Expr) (b c : Bool) → i < length es → e ≡ get_or es i e → c ≡ (b || list_any p (leaves (tree e))) →
    (c || list_any p (leaves_of (trees (drop (i + 1) es)))) ≡ (b || list_any p (leaves_of (trees (drop i es))))
any_next p es i e b c lt is step =
    or_next b c (list_any p (leaves (tree e))) (list_any p (leaves_of (trees (drop (i + 1) es)))) step
    ∙ ap (λ x. b || x) (sym (list_any-append p (leaves (tree e)) (leaves_of (trees (drop (i + 1) es)))))
    ∙ ap (λ ts. b || list_any p (leaves_of ts)) (sym (kids_next es i e lt is))
  where
    or_next : (x y u v : Bool) → y ≡ (x || u) → (y || v) ≡ (x || (u || v))
    or_next true y u v e = ap (λ z. z || v) e
    or_next false y u v e = ap (λ z. z || v) e

-- a fact of the leaves of an expression with these parts
pub each_kid : (P : Leaf → Type 0) (e : Expr) (kids : Vec Expr Global) (es : List Expr) → (e ≡ Max kids) ⊎ ((e ≡ Min kids) ⊎ (e ≡ Sum kids)) → es ≡ kids.items →
    EachLeaf P (tree e) → EachLeafOf P (trees es)
each_kid P e kids es is same h = subst (λ xs. EachLeafOf P (trees xs)) (sym same) (subst (EachLeaf P) (joined e kids is).1 h)

pub kid_leaves : (e : Expr) (kids : Vec Expr Global) (es : List Expr) → (e ≡ Max kids) ⊎ ((e ≡ Min kids) ⊎ (e ≡ Sum kids)) → es ≡ kids.items → leaves_of (trees es) ≡ leaves (tree e)
kid_leaves e kids es is same = ap (λ xs. leaves_of (trees xs)) same ∙ sym (ap leaves (joined e kids is).1)
