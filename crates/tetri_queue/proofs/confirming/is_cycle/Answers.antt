use Rattle.tetri_queue.proofs.confirming.is_cycle.Goals as goal

pub returns : goal.returns
returns c = λ t. record {
  header = c.same_header.ensures c.if-not-same_header.false;
  nodes = c.same_nodes.ensures c.if-not-same_nodes.false;
  closures = c.closures_agree.ensures c.if-not-closures_agree.false;
  jobs = c.jobs_agree.ensures c.if-not-jobs_agree.false;
  events = c.events_agree.ensures t;
}
