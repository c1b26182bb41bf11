-- Which cycles may be printed.
use Rattle.std.specs.Prelude.{◌≡◌, ◌<◌, ◌≤◌, ◌^◌, ℕ, List, All, length}
use Rattle.tetri_strl.specs.declared.grants.Grant.{Grant}
use Rattle.tetri_state.specs.declared.happened.PieceId.{PieceId}
use Rattle.tetri_cert.specs.declared.certificate.Certificate.{Certificate}
use Rattle.tetri_cert.specs.declared.certificate.Certificate.TheVariants.{Tops, Tree}
use Rattle.tetri_cert.specs.declared.marks.Mark.{Mark}
use Rattle.tetri_cert.specs.NodeText.{HasShortLists, IsPlain}
use Rattle.tetri_trace.specs.Scenario.{Scenario}
use Rattle.tetri_report.specs.Block.{Block}
use Rattle.tetri_report.specs.declared.cycle.Summary.{Summary}

abbrev pub AreJobs : Scenario → List ℕ → Type 0
AreJobs s jobs = All (λ job. job < length s.submissions) jobs

abbrev pub ArePieces : Scenario → List PieceId → Type 0
ArePieces s pieces = All (λ p. p.job < length s.submissions) pieces

-- at least one and at most 4,096 nodes, and the job, are there
pub record IsPrintableGrant (s : Scenario) (g : Grant) : Type 0 where
  pub job : g.job < length s.submissions
  pub some : 1 ≤ length g.nodes
  pub few : length g.nodes ≤ 4096
  pub nodes : All (λ n. n < length s.nodes) g.nodes

-- a plain node, whose lists have at most 2,000 entries each
pub record IsPrintableNode (m : Mark) : Type 0 where
  pub plain : IsPlain m
  pub short : HasShortLists 2000 m

-- a tree has a node, and each may be printed
abbrev pub IsPrintableCertificate : Certificate → Type 0
IsPrintableCertificate (Tops columns rows) = Unit {0}
IsPrintableCertificate (Tree marks) = (1 ≤ length marks) × All IsPrintableNode marks

-- all jobs and nodes are the trace's, there is a start for each grant, and the certificate may be printed
pub record IsPrintable (s : Scenario) (b : Block) : Type 0 where
  pub ended : ArePieces s b.ended
  pub cancelled : AreJobs s b.cancelled
  pub failed : AreJobs s b.failed
  pub over : ArePieces s b.over
  pub expired : AreJobs s b.expired
  pub grants : All (IsPrintableGrant s) b.grants
  pub starts : length b.starts ≡ length b.grants
  pub certificate : IsPrintableCertificate b.certificate
  pub launched : AreJobs s b.launched

abbrev pub AreSmall : List ℕ → Type 0
AreSmall ns = All (λ n. n < 2 ^ 32) ns

-- the leaves that pieces, and grants, name
abbrev pub HaveSmallLeaves : List PieceId → Type 0
HaveSmallLeaves pieces = All (λ p. p.leaf < 2 ^ 32) pieces

abbrev pub GrantSmallLeaves : List Grant → Type 0
GrantSmallLeaves grants = All (λ g. g.leaf < 2 ^ 32) grants

-- the numbers of the tops; a tree needs nothing here, since its nodes are plain where it may be printed
abbrev pub IsCertificateInRange : Certificate → Type 0
IsCertificateInRange (Tops columns rows) = (columns < 2 ^ 64) × (rows < 2 ^ 64)
IsCertificateInRange (Tree marks) = Unit {0}

-- the numbers of a block are within the ranges of their lines
pub record IsInRange (b : Block) : Type 0 where
  pub number : b.number < 2 ^ 32
  pub ended : HaveSmallLeaves b.ended
  pub over : HaveSmallLeaves b.over
  pub value : b.value < 2 ^ 64
  pub bound : b.bound < 2 ^ 64
  pub nodes : b.nodes < 2 ^ 32
  pub grants : GrantSmallLeaves b.grants
  pub starts : AreSmall b.starts
  pub certificate : IsCertificateInRange b.certificate

-- the numbers of a summary are within the ranges of its line
pub record IsSummaryInRange (s : Summary) : Type 0 where
  pub cycles : s.cycles < 2 ^ 64
  pub launched : s.launched < 2 ^ 64
  pub ended : s.ended < 2 ^ 64
  pub cancelled : s.cancelled < 2 ^ 64
  pub expired : s.expired < 2 ^ 64
  pub worth : s.worth < 2 ^ 127
  pub optimal : s.optimal < 2 ^ 64
