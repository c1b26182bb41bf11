-- The lines of a cycle that is planned part by part, and runs of such cycles.
use Rattle.std.proofs.Common.{◌≡◌, ℕ, List, [], ◌∷◌, ◌++◌, length, ap, sym, ◌∙◌}
use Rattle.std.specs.Prelude.{flat_map}
use Rattle.std.proofs.lemmas.List.{append_assoc}
use Rattle.tetri_cycles.specs.Progress.{ArePlanned, IsRunBy}
use Rattle.tetri_report.specs.Text.{events_text, launches_text}
use Rattle.tetri_trace.specs.Scenario.{Scenario}
use Rattle.tetri_commands.specs.PartsCycle.{PartPlan, PartsCycle, bound_of, value_of}
use Rattle.tetri_commands.specs.PartsRun.{IsPartsRun, by_parts}
use Rattle.tetri_commands.specs.PartsText.{part_text, parts_cycle_text, parts_line}

-- what was planned by parts is a run by parts
parts_planned : {Planner : Type 0} (first now : Planner) (t : Scenario) (past : List PartsCycle) → ArePlanned by_parts first now t past → IsPartsRun t past
parts_planned first now t [] run = tt
parts_planned first now t (c ∷ past) run = (run.1.0.in_run, run.1.0.planned, parts_planned first run.0 t past run.1.1)

pub parts_run : {Planner : Type 0} (first now : Planner) (t : Scenario) (past : List PartsCycle) → IsRunBy by_parts first now t past → IsPartsRun t past
parts_run first now t past run = parts_planned first run.last t past run.planned

-- the lines of a cycle, put together
pub cycle_lines : (t : Scenario) (c : PartsCycle) (parts : List PartPlan) (text with_plan first plan launches : List ℕ) → c.parts ≡ parts → text ≡ with_plan ++ launches → with_plan ≡ first ++ plan →
    first ≡ events_text t c.number c.happened → plan ≡ parts_line (length parts) (value_of parts) (bound_of parts) ++ flat_map (part_text t) parts →
    launches ≡ launches_text t c.launched → text ≡ parts_cycle_text t c
cycle_lines t c parts text with_plan first plan launches same e f g h k =
    e ∙ ap (λ x. x ++ launches) (f ∙ ap (λ x. x ++ plan) g ∙ ap (λ x. events_text t c.number c.happened ++ x) (h ∙ ap (λ ps. parts_line (length ps) (value_of ps) (bound_of ps) ++ flat_map (part_text t) ps) (sym same)))
    ∙ append_assoc (events_text t c.number c.happened) (parts_line (length c.parts) (value_of c.parts) (bound_of c.parts) ++ flat_map (part_text t) c.parts) launches
    ∙ ap (λ x. events_text t c.number c.happened ++ x)
    (append_assoc (parts_line (length c.parts) (value_of c.parts) (bound_of c.parts)) (flat_map (part_text t) c.parts) launches
    ∙ ap (λ x. parts_line (length c.parts) (value_of c.parts) (bound_of c.parts) ++ (flat_map (part_text t) c.parts ++ x)) k)
