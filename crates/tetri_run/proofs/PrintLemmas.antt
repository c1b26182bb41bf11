-- What is planned for an instance of a trace may be printed.
use Rattle.std.proofs.Common.{◌≡◌, ℕ, ◌^◌, ◌<◌, List, [], ◌∷◌, length, get_or, map, All, refl, sym, ap, arith, ◌∙◌, subst}
use Rattle.std.specs.Prelude.{Option, Some, None}
use Rattle.std.proofs.lemmas.List.{length-map}
use Rattle.std.proofs.lemmas.List.Elements.{All-nil, All-cons, All-head, All-map, All-tail}
use Rattle.tetri_strl.specs.declared.expr.Leaf.{Leaf}
use Rattle.tetri_strl.specs.declared.grants.Grant.{Grant}
use Rattle.tetri_space.specs.Sound.{IsSound as IsSoundSpace}
use Rattle.tetri_space.specs.Space.{Space, leaf_in}
use Rattle.tetri_space.proofs.InstanceLaws.{offered_leaf}
use Rattle.tetri_state.specs.Known.{AreOfJobs}
use Rattle.tetri_state.specs.Launch.{start_of, start_or_0, starts_now}
use Rattle.tetri_trace.specs.Scenario.{Scenario}
use Rattle.tetri_report.specs.Block.{Block}
use Rattle.tetri_report.specs.Printable.{AreJobs, AreSmall, IsCertificateInRange, IsPrintable, IsPrintableCertificate, IsPrintableNode}
use Rattle.tetri_cert.specs.NodeText.{HasShortLists, IsPlain}
use Rattle.tetri_cert.specs.declared.certificate.Certificate.{Certificate}
use Rattle.tetri_cert.specs.declared.certificate.Certificate.TheVariants as certificates
use Rattle.tetri_cert.specs.declared.marks.Mark.{Mark}
use Rattle.tetri_commands.specs.Printing.{IsInstanceOf}
use Rattle.tetri_commands.proofs.PrintLaws.{grants_printable, kept_within}
use Rattle.tetri_plan.specs.Plans.{IsPrintableTree}
use Rattle.tetri_report.specs.BlockLines.{occurrences_in}
use Rattle.tetri_run.specs.Cycle.{IsPlanFor}

certificate_printable : (c : Certificate) → IsPrintableTree c → IsPrintableCertificate c
certificate_printable (certificates.Tops columns rows) may = tt
certificate_printable (certificates.Tree marks) may = (may.0, nodes_printable marks may.1 may.2)
  where
    nodes_printable : (ms : List Mark) → All IsPlain ms → All (HasShortLists 2000) ms → All IsPrintableNode ms
    nodes_printable [] plain short = All-nil IsPrintableNode
    nodes_printable (m ∷ ms) plain short =
        All-cons IsPrintableNode m ms (record { plain = All-head IsPlain m ms plain; short = All-head (HasShortLists 2000) m ms short })
        (nodes_printable ms (All-tail IsPlain m ms plain) (All-tail (HasShortLists 2000) m ms short))

pub cycle_printable : (t : Scenario) (i : Space) (carry : List Grant) (b : Block) (budget : ℕ) → IsInstanceOf t i → AreOfJobs t (occurrences_in b) → IsPlanFor i budget carry b → IsPrintableTree b.certificate → IsPrintable t b
cycle_printable t i carry b budget is jobs plan may = record {
  ended = jobs.ended;
  cancelled = jobs.cancelled;
  failed = jobs.failed;
  over = jobs.over;
  expired = jobs.expired;
  grants = grants_printable t i b.grants is plan.honest.lawful;
  starts = ap length plan.starts ∙ length-map b.grants (start_of i);
  certificate = certificate_printable b.certificate may;
  launched = subst (AreJobs t) (sym plan.launched) (kept_within (length t.submissions) (λ c. starts_now i b.grants c.job) i.bids is.jobs);
}

-- ---- numbers within the ranges of their lines
pub certificate_in_range : (c : Certificate) → IsPrintableTree c → IsCertificateInRange c
certificate_in_range (certificates.Tops columns rows) may = may
certificate_in_range (certificates.Tree marks) may = tt

-- the slots at which leaves of an instance start
pub starts_small : (i : Space) → IsSoundSpace i → (a : List Grant) → AreSmall (map (start_of i) a)
starts_small i sound a = All-map (λ n. n < 2 ^ 32) (start_of i) a (λ k d lt. start_small (get_or a k d))
  where
    by_leaf : (g : Grant) (o : Option Leaf) → leaf_in i.bids g.job g.leaf ≡ o → start_or_0 o < 2 ^ 32
    by_leaf g None e = omega arith
    by_leaf g (Some l) e = let good = (offered_leaf i g.job g.leaf l sound e).0 in omega (arith, good.within)

    start_small : (g : Grant) → start_of i g < 2 ^ 32
    start_small g = by_leaf g (leaf_in i.bids g.job g.leaf) refl
