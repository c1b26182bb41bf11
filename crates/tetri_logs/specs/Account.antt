-- What a log says of a job.
use Rattle.std.specs.Prelude.{ℕ, ◌&&◌, Option, Some, None, unwrap_or, is_none, nat_lt, if◌then◌else◌}
use Rattle.tetri_logs.specs.declared.account.Account.{Account}
use Rattle.tetri_logs.specs.declared.account.Columns.{Columns}

-- a number above 0
abbrev pub positive : Option ℕ → Option ℕ
positive None = None
positive (Some n) = if nat_lt 0 n then Some n else None

-- A job was cancelled while it waited where it was cancelled and did not run. What is not known counts as 0.
abbrev pub account_of : Columns → Account
account_of c =
    let limit = unwrap_or (positive c.limit) (unwrap_or c.ran 0) in
    if c.cancelled && is_none (positive c.ran)
    then record { submit = c.submit; nodes = c.nodes; processors = c.processors; limit = limit; ran = None; waited = Some (unwrap_or c.wait 0); room = None }
    else record { submit = c.submit; nodes = c.nodes; processors = c.processors; limit = limit; ran = c.ran; waited = None; room = None }
