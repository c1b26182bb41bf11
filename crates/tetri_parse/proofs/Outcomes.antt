-- What follows for the answer of a step.
use Rattle.std.proofs.Common.{◌≡◌, ℕ, ◌≤◌, ◌<◌, List, length, Option, Some, None, Result, Ok, Err, sym, subst}
use Rattle.std.specs.Prelude.{All, IfOk, IfSome, OnErr}
use Rattle.tetri_strl.specs.declared.expr.Expr.{Expr}
use Rattle.tetri_strl.specs.Tree.{tree}
use Rattle.tetri_parse.specs.declared.fault.Stop.{Stop}
use Rattle.tetri_parse.specs.Answers.{Gives}
use Rattle.tetri_parse.specs.Phrase.{Phrase}
use Rattle.tetri_parse.specs.TextTree.{IsTextTree}
use Rattle.tetri_cluster.specs.Sets.{HaveNodesBelow}
use Rattle.tetri_parse.specs.SetText.{IsNodeSet}
use Rattle.tetri_parse.specs.Settling.{settled, settled_set}
use Rattle.tetri_parse.specs.Written.{IsSpelled}
use Rattle.tetri_parse.proofs.Added.{added_all}
use Rattle.tetri_parse.proofs.Settled.{is_read}
use Rattle.tetri_parse.proofs.Steps.{set_found}

module _ (unit arrival count : ℕ) (early : arrival ≤ 10000) (p : Phrase) (to : ℕ) (spelled : IsSpelled count 64 0 p to) (sets after : List (List ℕ)) where
  pub read_tree : (r : Result Expr Stop) → Gives (λ e. (tree e, after)) r (settled unit arrival None p sets) → IfOk r (λ e. IsTextTree arrival (length after) (tree e))
  read_tree (Ok e) h = (is_read unit arrival count early p to sets (tree e, after) spelled h).0
  read_tree (Err e) h = tt

  pub read_within : (r : Result Expr Stop) → Gives (λ e. (tree e, after)) r (settled unit arrival None p sets) → IfOk r (λ _. HaveNodesBelow count sets → HaveNodesBelow count after)
  read_within (Ok e) h = (is_read unit arrival count early p to sets (tree e, after) spelled h).1
  read_within (Err e) h = tt

-- a set over the nodes of a cluster keeps the sets so
pub set_within : (left count : ℕ) (nodes : Option (List ℕ)) (sets after : List (List ℕ)) (r : Result ℕ Stop) → Gives (λ n. (n, after)) r (settled_set left nodes sets) → OnErr r (after ≡ sets) → IfSome nodes (All (λ n. n < count)) → HaveNodesBelow count sets → HaveNodesBelow count after
set_within left count nodes sets after (Ok n) h same known before =
    let found = set_found left nodes sets (n, after) h in
    added_all found.0 sets (n, after) found.2 (All (λ m. m < count)) before (subst (λ o. IfSome o (All (λ m. m < count))) found.1 known)
set_within left count nodes sets after (Err e) h same known before = subst (HaveNodesBelow count) (sym same) before

pub nodes_known : (count : ℕ) (nodes : Option (List ℕ)) → IfSome nodes (IsNodeSet count) → IfSome nodes (All (λ n. n < count))
nodes_known count None h = tt
nodes_known count (Some ns) h = h.within
