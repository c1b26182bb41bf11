-- What an observer has that saw the cycles of a run.
use Rattle.std.proofs.Common.{◌≡◌, ℕ, zero, suc, ◌+◌, ◌<◌, ◌≤◌, List, [], ◌∷◌, length, take, inl, inr, refl, sym, ap, ◌∙◌, subst, arith}
use Rattle.std.specs.Prelude.{IsSomeAnd, None, Option, Some, unwrap_or}
use Rattle.std.proofs.lemmas.Bool.{cases_lt}
use Rattle.std.proofs.lemmas.List.{length-append}
use Rattle.tetri_cycles.specs.Observed.{Observed, behind, next}
use Rattle.tetri_export.specs.declared.format.Format.{Format}
use Rattle.tetri_report.specs.Block.{Block}
use Rattle.tetri_run.specs.CheckEnds.{HasSeen}
use Rattle.tetri_run.specs.Run.{in_order}
use Rattle.tetri_state.specs.Planning.{instance_at}
use Rattle.tetri_state.specs.Snapshot.{Snapshot, opening_state}
use Rattle.tetri_trace.specs.Scenario.{Scenario}
use Rattle.tetri_programs.specs.Exported.{IsExportIn, IsExportOf, IsReportExport}
use Rattle.tetri_programs.specs.Taken.{IsTaken}
use Rattle.tetri_programs.specs.declared.instance.Exported.{Exported}
use Rattle.tetri_programs.specs.declared.instance.Exported.TheVariants.{NoCycle, Text, Wide}
use Rattle.tetri_programs.specs.declared.watching.Watching.{Watching}

abbrev pub saw : Scenario → Snapshot → Block → Watching → Watching → Type 0
saw t s b old new = IsTaken t.nodes (instance_at t s) old new

in_order_long : (xs : List Block) → length (in_order xs) ≡ length xs
in_order_long [] = refl
in_order_long (x ∷ xs) = omega (arith, length-append (in_order xs) (x ∷ []), in_order_long xs)

module _ (t : Scenario) where
  next_now : (s : Snapshot) (b : Block) → (next t s b).now ≡ s.now + 1
  next_now s b = refl

  instance_now : (s : Snapshot) → (instance_at t s).now ≡ s.now
  instance_now s = refl

  asked : (s : Snapshot) (bs : List Block) (old new : Watching) → Observed saw t s bs old new → new.format ≡ old.format
  asked s [] old new seen = ap (λ (w : Watching). w.format) seen
  asked s (b ∷ bs) old new seen = asked (next t s b) bs seen.0 new seen.1.1 ∙ seen.1.0.format

  -- cycles behind the one that is asked for change nothing
  past : (s : Snapshot) (bs : List Block) (old new : Watching) → Observed saw t s bs old new → old.cycle < s.now → new.exported ≡ old.exported
  past s [] old new seen lt = ap (λ (w : Watching). w.exported) seen
  past s (b ∷ bs) old new seen lt =
      past (next t s b) bs seen.0 new seen.1.1 (omega (arith, lt, seen.1.0.cycle, next_now s b))
      ∙ seen.1.0.other (λ e. omega (arith, lt, e, instance_now s))

  -- nor do those before it
  early : (s : Snapshot) (bs : List Block) (old new : Watching) → Observed saw t s bs old new → s.now + length bs ≤ old.cycle → new.exported ≡ old.exported
  early s [] old new seen le = ap (λ (w : Watching). w.exported) seen
  early s (b ∷ bs) old new seen le =
      early (next t s b) bs seen.0 new seen.1.1 (omega (arith, le, seen.1.0.cycle, next_now s b))
      ∙ seen.1.0.other (λ e. omega (arith, le, e, instance_now s))

  found : (k : ℕ) (s : Snapshot) (bs : List Block) (old new : Watching) → Observed saw t s bs old new → old.cycle ≡ s.now + k → k < length bs →
      IsSomeAnd new.exported (IsExportOf old.format t.nodes (instance_at t (behind t s (take k bs))))
  found k s [] old new seen e lt = absurd (omega (arith, lt))
  found zero s (b ∷ bs) old new seen e lt =
      subst (λ (o : Option Exported). IsSomeAnd o (IsExportOf old.format t.nodes (instance_at t s)))
      (sym (past (next t s b) bs seen.0 new seen.1.1 (omega (arith, e, seen.1.0.cycle, next_now s b))))
      (seen.1.0.here (omega (arith, e, instance_now s)))
  found (suc k) s (b ∷ bs) old new seen e lt =
      subst (λ (f : Format). IsSomeAnd new.exported (IsExportOf f t.nodes (instance_at t (behind t (next t s b) (take k bs))))) seen.1.0.format
      (found k (next t s b) bs seen.0 new seen.1.1 (omega (arith, e, seen.1.0.cycle, next_now s b)) (omega (arith, lt)))

  given : (blocks : List Block) (f : Format) (cycle : ℕ) → cycle < t.header.until → (o : Option Exported) →
      IsSomeAnd o (IsExportOf f t.nodes (instance_at t (behind t (opening_state t) (take cycle blocks)))) → IsExportIn t blocks f cycle (unwrap_or o NoCycle)
  given blocks f cycle lt (Some (Text text)) h = (lt, h)
  given blocks f cycle lt (Some (Wide columns rows)) h = (lt, h)
  given blocks f cycle lt (Some NoCycle) h = absurd h
  given blocks f cycle lt None h = absurd h

  pub export_seen : (report : List ℕ) (f : Format) (cycle : ℕ) (old new : Watching) → HasSeen saw t report old new → old.cycle ≡ cycle → old.format ≡ f → old.exported ≡ None →
      (e : Exported) → e ≡ unwrap_or new.exported NoCycle → IsReportExport t report f cycle e
  export_seen report f cycle old new seen is_cycle is_format nothing e is =
      let blocks = in_order seen.assured.accepted.past in
      let whole : length blocks ≡ t.header.until = in_order_long seen.assured.accepted.past ∙ seen.assured.accepted.whole in
      record {
        assured = seen.assured;
        export = subst (λ (x : Exported). IsExportIn t blocks f cycle x) (sym is)
            (elim (cases_lt cycle t.header.until) [
              | inl lt ↦
                  given blocks f cycle lt new.exported
                  (subst (λ (g : Format). IsSomeAnd new.exported (IsExportOf g t.nodes (instance_at t (behind t (opening_state t) (take cycle blocks))))) is_format
                  (found cycle (opening_state t) blocks old new seen.observed (omega (arith, is_cycle)) (omega (arith, lt, whole))))
              | inr le ↦
                  subst (λ (o : Option Exported). IsExportIn t blocks f cycle (unwrap_or o NoCycle))
                  (sym (early (opening_state t) blocks old new seen.observed (omega (arith, le, whole, is_cycle)) ∙ nothing)) le
            ]);
      }
