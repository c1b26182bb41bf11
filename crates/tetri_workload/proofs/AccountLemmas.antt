-- Accounts that a test says are the same, and the test of one with itself.
use Rattle.std.proofs.Common.{◌≡◌, ◌∙◌, ℕ, Bool, true, false, refl, ap, arith}
use Rattle.std.specs.Prelude.{◌&&◌, Option, None, Some, nat_eq}
use Rattle.std.specs.Cmp.Derive.{both_true}
use Rattle.std.specs.Option.{option_eq}
use Rattle.std.proofs.lemmas.Bool.Decides.{nat_tests}
use Rattle.tetri_logs.specs.declared.account.Account.{Account}

both : (a b : Bool) → a && b ≡ true → (a ≡ true) × (b ≡ true)
both true true is = (refl, refl)
both true false is = cc
both false b is = cc

same_number : (a b : ℕ) → nat_eq a b ≡ true → a ≡ b
same_number a b is = grind (arith, nat_tests, is)

same_option : (a b : Option ℕ) → option_eq nat_eq a b ≡ true → a ≡ b
same_option None None is = refl
same_option None (Some y) is = cc
same_option (Some x) None is = cc
same_option (Some x) (Some y) is = ap Some (same_number x y is)

abbrev account_of : ℕ → Option ℕ → Option ℕ → ℕ → Option ℕ → Option ℕ → Option ℕ → Account
account_of submit nodes processors limit ran waited room = record { submit = submit; nodes = nodes; processors = processors; limit = limit; ran = ran; waited = waited; room = room }

-- what the test says
abbrev pub account_eq : Account → Account → Bool
account_eq a b =
    nat_eq a.submit b.submit && (option_eq nat_eq a.nodes b.nodes && (option_eq nat_eq a.processors b.processors && (nat_eq a.limit b.limit
    && (option_eq nat_eq a.ran b.ran && (option_eq nat_eq a.waited b.waited && option_eq nat_eq a.room b.room)))))

pub same_account : (a b : Account) → account_eq a b ≡ true → a ≡ b
same_account a b is =
    let submit = both (nat_eq a.submit b.submit) _ is in
    let nodes = both (option_eq nat_eq a.nodes b.nodes) _ submit.1 in
    let processors = both (option_eq nat_eq a.processors b.processors) _ nodes.1 in
    let limit = both (nat_eq a.limit b.limit) _ processors.1 in
    let ran = both (option_eq nat_eq a.ran b.ran) _ limit.1 in
    let waited = both (option_eq nat_eq a.waited b.waited) (option_eq nat_eq a.room b.room) ran.1 in
    ap (λ n. account_of n a.nodes a.processors a.limit a.ran a.waited a.room) (same_number a.submit b.submit submit.0)
    ∙ ap (λ n. account_of b.submit n a.processors a.limit a.ran a.waited a.room) (same_option a.nodes b.nodes nodes.0)
    ∙ ap (λ n. account_of b.submit b.nodes n a.limit a.ran a.waited a.room) (same_option a.processors b.processors processors.0)
    ∙ ap (λ n. account_of b.submit b.nodes b.processors n a.ran a.waited a.room) (same_number a.limit b.limit limit.0)
    ∙ ap (λ n. account_of b.submit b.nodes b.processors b.limit n a.waited a.room) (same_option a.ran b.ran ran.0)
    ∙ ap (λ n. account_of b.submit b.nodes b.processors b.limit b.ran n a.room) (same_option a.waited b.waited waited.0)
    ∙ ap (λ n. account_of b.submit b.nodes b.processors b.limit b.ran b.waited n) (same_option a.room b.room waited.1)

number_itself : (n : ℕ) → nat_eq n n ≡ true
number_itself n = grind (arith, nat_tests)

option_itself : (a : Option ℕ) → option_eq nat_eq a a ≡ true
option_itself None = refl
option_itself (Some x) = number_itself x

pub account_itself : (a : Account) → account_eq a a ≡ true
account_itself a =
    both_true (number_itself a.submit) (both_true (option_itself a.nodes) (both_true (option_itself a.processors) (both_true (number_itself a.limit)
    (both_true (option_itself a.ran) (both_true (option_itself a.waited) (option_itself a.room))))))
