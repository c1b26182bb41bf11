-- What was said of a status.
use Rattle.std.proofs.Common.{◌≡◌, List, ℕ, refl, inl, inr}
use Rattle.std.specs.Prelude.{IsErrOf, OnOk, Option, Result, Ok, Err}
use Rattle.std.specs.Io.KnownBytes.{append_known}
use Rattle.tetri_run.specs.Ended.{IsSaid, NeedsMemory}
use Rattle.tetri_run.specs.Status.{status_words}
use Rattle.tetri_report.specs.declared.send_fault.SendFault.{SendFault}
use Rattle.tetri_report.specs.declared.send_fault.SendFault.TheVariants as faults
use Rattle.tetri_run.specs.declared.status.Status.{Status}
use Rattle.tetri_run.specs.declared.status.Status.TheVariants.{Done, Refused, Usage, ReadFault, WriteFault, BadTrace, NoMemory}

-- the line stands there
wrote : (status : Status) (before after : Option (List ℕ)) → after ≡ append_known before (status_words status) → IsSaid status before after
wrote Done before after e = e
wrote (Refused line why) before after e = inl e
wrote Usage before after e = e
wrote ReadFault before after e = e
wrote WriteFault before after e = e
wrote (BadTrace line why) before after e = inl e
wrote NoMemory before after e = e

-- there was no memory for it
left_out : (status : Status) (before after : Option (List ℕ)) → NeedsMemory status → after ≡ before → IsSaid status before after
left_out Done before after needs e = absurd needs
left_out (Refused line why) before after needs e = inr e
left_out Usage before after needs e = absurd needs
left_out ReadFault before after needs e = absurd needs
left_out WriteFault before after needs e = absurd needs
left_out (BadTrace line why) before after needs e = inr e
left_out NoMemory before after needs e = absurd needs

pub said_of : {U Raised : Type 0} (status : Status) (before after : Option (List ℕ)) (r : Result U SendFault) → (Raised → ⊥) →
    OnOk r (after ≡ append_known before (status_words status)) → (IsErrOf r faults.Failed → Raised) → (IsErrOf r faults.NoMemory → after ≡ before) →
    (IsErrOf r faults.NoMemory → NeedsMemory status) → IsSaid status before after
said_of status before after (Ok u) quiet ok failed memory needs = wrote status before after ok
said_of status before after (Err faults.Failed) quiet ok failed memory needs = absurd (quiet (failed refl))
said_of status before after (Err faults.NoMemory) quiet ok failed memory needs = left_out status before after (needs refl) (memory refl)
