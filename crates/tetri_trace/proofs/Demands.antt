-- What jobs ask for.
use Rattle.std.proofs.Common.{◌≡◌, ℕ, ◌+◌, ◌<◌, ◌≤◌, [], All, inl, inr, arith}
use Rattle.std.specs.Prelude.{Option, Some, None, IfSome, IsSomeAnd}
use Rattle.std.proofs.lemmas.List.Elements.{All-nil, All-cons, All-append}
use Rattle.tetri_parse.specs.TextTree.{IsTextTree}
use Rattle.tetri_request.specs.declared.ask.Ask.{Ask}
use Rattle.tetri_request.specs.declared.ask.Prefer.{Prefer}
use Rattle.tetri_request.specs.Options.{IsSetOf, IsSoundPrefer}
use Rattle.tetri_strl.specs.Aligned.{EachLeaf, EachLeafOf}
use Rattle.tetri_strl.specs.Tree.{Tree, one, join, scale, barrier, Trees, none, more, leaves, leaves_of}
use Rattle.tetri_strl.specs.declared.expr.Leaf.{Leaf}
use Rattle.tetri_notice.specs.Asks.{AskText, IsSoundAskText, ask_with}
use Rattle.tetri_trace.specs.Sound.{IsAskOver, IsExpressionOver}

mutual
  -- what each leaf of a tree has, all in the list of its leaves have
  leaves_have : (P : Leaf → Type 0) (t : Tree) → EachLeaf P t → All P (leaves t)
  leaves_have P (one l) h = All-cons P l [] h (All-nil P)
  leaves_have P (join op ts) h = leaves_of_have P ts h
  leaves_have P (scale t s) h = leaves_have P t h
  leaves_have P (barrier t v) h = leaves_have P t h

  leaves_of_have : (P : Leaf → Type 0) (ts : Trees) → EachLeafOf P ts → All P (leaves_of ts)
  leaves_of_have P none h = All-nil P
  leaves_of_have P (more t ts) h = All-append P (leaves t) (leaves_of ts) (leaves_have P t h.0) (leaves_of_have P ts h.1)

pub text_tree_sound : (arrival sets : ℕ) (t : Tree) → IsTextTree arrival sets t → IsExpressionOver sets arrival t
text_tree_sound arrival sets t good = record {
  well_made = good.well_made;
  known_sets = leaves_have (λ l. l.set < sets) t good.known;
  starts = leaves_have (λ l. (arrival ≤ l.start) × (l.start ≤ arrival + 10000)) t good.starts;
}

preferred_known : (sets set : ℕ) (p : Option Prefer) → IfSome p (λ q. q.set < sets) → IsSomeAnd p (λ q. set ≡ q.set) → set < sets
preferred_known sets set None known is = absurd is
preferred_known sets set (Some q) known is = omega arith

sets_known : (sets : ℕ) (a : Ask) → a.set < sets → IfSome a.prefer (λ q. q.set < sets) → (set : ℕ) → IsSetOf a set → set < sets
sets_known sets a own preferred set (inl is) = omega arith
sets_known sets a own preferred set (inr is) = preferred_known sets set a.prefer preferred is

-- with numbers for its sets, an ask keeps its limits
pub ask_sound : (a : AskText) (sets set : ℕ) (prefer : Option Prefer) → IsSoundAskText a → IfSome prefer IsSoundPrefer → set < sets → IfSome prefer (λ q. q.set < sets) → IsAskOver sets (ask_with a set prefer)
ask_sound a sets set prefer limits place own preferred = record {
  sound = record {
    some_nodes = limits.some_nodes;
    few_nodes = limits.few_nodes;
    some_slots = limits.some_slots;
    few_slots = limits.few_slots;
    worth = limits.worth;
    some_time = limits.some_time;
    little_time = limits.little_time;
    prefer = place;
  };
  known_sets = sets_known sets (ask_with a set prefer) own preferred;
}
