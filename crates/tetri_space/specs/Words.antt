-- Allotments that are not lawful, in words.
use Rattle.std.specs.Prelude.{ℕ, List, [], ◌++◌, codes, decimal}
use Rattle.tetri_space.specs.declared.rules.Rule.{Rule}
use Rattle.tetri_space.specs.declared.rules.Rule.TheVariants as rules
use Rattle.tetri_space.specs.declared.rules.Unlawful.{Unlawful}

-- a rule of lawful allotments
abbrev pub rule_name : Rule → List ℕ
rule_name rules.NotPending = codes "not-pending"
rule_name rules.NotLive = codes "not-live"
rule_name (rules.Doubled earlier) = codes "doubled"
rule_name rules.BadNodes = codes "bad-nodes"
rule_name rules.TooMany = codes "too-many"
rule_name (rules.Outside node) = codes "outside"
rule_name (rules.NotFree node) = codes "not-free"
rule_name (rules.Clash earlier node) = codes "clash"

-- what shows that it is broken, each value after a space
abbrev pub rule_values : Rule → List ℕ
rule_values (rules.Doubled earlier) = codes " " ++ decimal earlier
rule_values (rules.Outside node) = codes " " ++ decimal node
rule_values (rules.NotFree node) = codes " " ++ decimal node
rule_values (rules.Clash earlier node) = codes " " ++ decimal earlier ++ codes " " ++ decimal node
rule_values _ = []

-- the place of a grant that breaks a rule, and the rule
unfoldable pub unlawful_words : Unlawful → List ℕ
unlawful_words u = decimal u.grant ++ codes " " ++ rule_name u.rule ++ rule_values u.rule
