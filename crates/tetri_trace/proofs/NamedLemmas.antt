-- More sets of the same nodes.
use Rattle.std.proofs.Common.{◌≡◌, ◌≤◌, ap, ◌∙◌, sym, subst, refl, length, take, arith}
use Rattle.std.proofs.lemmas.List.{length-take}
use Rattle.tetri_cluster.specs.Sets.{AreSets, HaveNodesBelow}
use Rattle.tetri_parse.specs.Reader.{NamedSets}
use Rattle.tetri_trace.specs.Draft.{with_sets}
use Rattle.tetri_trace.specs.Named.{AddsSets}
use Rattle.tetri_trace.specs.Scenario.{Scenario}
use Rattle.tetri_trace.specs.Sound.{IsSound}
use Rattle.tetri_trace.proofs.SoundLemmas.{with_sets_sound}

pub adds_none : (r : NamedSets) → AddsSets r r
adds_none r = record { nodes = refl; more = omega arith; within = λ h. h }

-- what a text keeps
pub adds_kept : (old new : NamedSets) → new.nodes ≡ old.nodes → take (length old.sets) new.sets ≡ old.sets → (HaveNodesBelow (length old.nodes) old.sets → HaveNodesBelow (length old.nodes) new.sets) → AddsSets old new
adds_kept old new same kept within = record { nodes = same; more = omega (arith, ap length kept, length-take (length old.sets) new.sets); within = within }

pub adds_both : (r s t : NamedSets) → AddsSets r s → AddsSets s t → AddsSets r t
adds_both r s t first then = record {
  nodes = then.nodes ∙ first.nodes;
  more = omega (arith, first.more, then.more);
  within = λ h. subst (λ nodes. HaveNodesBelow (length nodes) t.sets) first.nodes (then.within (subst (λ nodes. HaveNodesBelow (length nodes) s.sets) (sym first.nodes) (first.within h)));
}

-- a trace with the nodes and the sets of a reader
abbrev pub with_named : Scenario → NamedSets → Scenario
with_named s r = record s { nodes = r.nodes; sets = r.sets }

abbrev pub named_of : Scenario → NamedSets
named_of s = record { nodes = s.nodes; sets = s.sets }

pub with_named-sets : (s : Scenario) (r : NamedSets) → r.nodes ≡ s.nodes → with_named s r ≡ with_sets s r.sets
with_named-sets s r e = ap (λ nodes. record s { nodes = nodes; sets = r.sets }) e

pub with_named_sound : (s : Scenario) (r : NamedSets) → IsSound s → AddsSets (named_of s) r → AreSets r.sets → length r.sets ≤ 4096 → IsSound (with_named s r)
with_named_sound s r sound adds sets few =
    subst IsSound (sym (with_named-sets s r adds.nodes)) (with_sets_sound s r.sets sound sets few (adds.within sound.known_nodes) adds.more)
