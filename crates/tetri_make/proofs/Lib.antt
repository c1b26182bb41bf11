mod MadeLemmas
mod NodeLemmas
mod RequestLemmas
