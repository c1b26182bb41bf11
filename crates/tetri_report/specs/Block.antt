-- A cycle of a report as plain data.
use Rattle.std.specs.Prelude.{ℕ, List}
use Rattle.tetri_strl.specs.declared.grants.Grant.{Grant}
use Rattle.tetri_cert.specs.declared.plan_mark.PlanMark.{PlanMark}
use Rattle.tetri_cert.specs.declared.certificate.Certificate.{Certificate}
use Rattle.tetri_state.specs.declared.happened.PieceId.{PieceId}
use Rattle.tetri_cert.specs.declared.certificate.Certificate.TheVariants.{Tops}
use Rattle.tetri_report.specs.declared.cycle.Cycle.{Cycle}
use Rattle.tetri_report.specs.declared.cycle.Head.{Head}

-- `starts` by grant
pub record Block : Type 0 where
  pub number : ℕ
  pub ended : List PieceId
  pub cancelled : List ℕ
  pub failed : List ℕ
  pub over : List PieceId
  pub expired : List ℕ
  pub value : ℕ
  pub bound : ℕ
  pub mark : PlanMark
  pub nodes : ℕ
  pub grants : List Grant
  pub starts : List ℕ
  pub certificate : Certificate
  pub launched : List ℕ

-- what a cycle says
abbrev pub block : Cycle → Block
block c = record {
  number = c.number;
  ended = c.happened.ended.items;
  cancelled = c.happened.cancelled.items;
  failed = c.happened.failed.items;
  over = c.happened.over.items;
  expired = c.happened.expired.items;
  value = c.value;
  bound = c.bound;
  mark = c.mark;
  nodes = c.nodes;
  grants = c.grants;
  starts = c.starts.items;
  certificate = c.certificate;
  launched = c.launched.items;
}

-- what a cycle says of which this is all but the certificate, and this the certificate
abbrev pub headed : Head → Certificate → Block
headed h certificate = record {
  number = h.number;
  ended = h.happened.ended.items;
  cancelled = h.happened.cancelled.items;
  failed = h.happened.failed.items;
  over = h.happened.over.items;
  expired = h.happened.expired.items;
  value = h.value;
  bound = h.bound;
  mark = h.mark;
  nodes = h.nodes;
  grants = h.grants;
  starts = h.starts.items;
  certificate = certificate;
  launched = h.launched.items;
}

-- the block with this certificate
abbrev pub certified : Block → Certificate → Block
certified b certificate = record b { certificate = certificate }

-- The block without its certificate: in its place stands the one that a block begins with.
abbrev pub bare_block : Block → Block
bare_block b = certified b (Tops 0 0)
