use Rattle.tetri_report.proofs.ShortTexts.{behind_short, events_short, launches_short, plan_short, read_short}
use Rattle.tetri_report.proofs.laws.printed_parts_are_short.Goals as goal

pub returns-clause-events : goal.returns-clause-events
returns-clause-events c = λ t b sound good range. events_short t sound b good range

pub returns-clause-plan : goal.returns-clause-plan
returns-clause-plan c = λ t b sound good range. plan_short t sound b good range

pub returns-clause-launches : goal.returns-clause-launches
returns-clause-launches c = λ t b sound good range. launches_short t sound b good range

pub returns-clause-behind : goal.returns-clause-behind
returns-clause-behind c = λ text more short others. behind_short text more short others

pub returns-clause-read : goal.returns-clause-read
returns-clause-read c = λ text short. read_short text short
