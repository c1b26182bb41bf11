use Rattle.std.proofs.Common.{◌≡◌, ◌∙◌, ap, sym}
use Rattle.std.specs.Prelude.{Option, Some, None, IfSome, Bool, List, ℕ, Err}
use Rattle.tetri_logs.specs.Options.{early_fault, early_of, settings_of}
use Rattle.tetri_logs.specs.Reading.{entries, facts_in, no_facts}
use Rattle.tetri_logs.specs.declared.entry.Format.{Format}
use Rattle.tetri_logs.specs.declared.options.OptionFault.{OptionFault}
use Rattle.tetri_logs.specs.declared.options.Options.{Options}
use Rattle.tetri_logs.proofs.EarlyLemmas.{early_known}
use Rattle.tetri_logs.proofs.options.early_fault.Goals as goal

-- what is found is the fault of each log
each : (o : Options) (found : Option OptionFault) → found ≡ early_fault o → IfSome found (λ fault. (mixed : Bool) → (format : Format) → (log : List ℕ) → settings_of o (facts_in no_facts (entries mixed format log)) ≡ Err fault)
each o None is = tt
each o (Some fault) is = λ mixed format log. early_known o fault mixed format log (sym is)

pub returns-clause-early : goal.returns-clause-early
returns-clause-early c = each c.args.options.now c.early_of.result (c.early_of.ensures ∙ ap early_of c.settings_of.ensures.value)
