use Rattle.std.proofs.Common.{◌≡◌, ◌∙◌, rules, subst, sym, true}
use Rattle.tetri_workload.proofs.AccountLemmas.{account_eq, account_itself, same_account}
use Rattle.tetri_workload.proofs.reading.is_same_account.Goals as goal

pub returns : goal.returns
returns c = (
  λ is. same_account c.args.one c.args.other (sym c.eq.ensures ∙ search (rules, is)),
  λ same.
      let itself : c.eq.result ≡ true = c.eq.ensures ∙ subst (λ a. account_eq c.args.one a ≡ true) same (account_itself c.args.one) in
      search (rules, itself),
)
