use Rattle.std.proofs.Common.{◌≤◌, length, map, take}
use Rattle.tetri_space.specs.Space.{bid}
use Rattle.tetri_split.specs.Grouped.{AreGroups, ArePlaces, key_of}
use Rattle.tetri_split.specs.Parts.{jobs_in}
use Rattle.tetri_split.proofs.grouping.group_over.Given as goal

abbrev pub invariant-loop-place : goal.invariant-loop-place
invariant-loop-place l = record {
  few : length l.groups.items ≤ l.place;
  groups : AreGroups (key_of l.keys (jobs_in (map bid l.offers))) (take l.place (jobs_in (map bid l.offers))) l.groups.items;
  places : ArePlaces (key_of l.keys (jobs_in (map bid l.offers))) l.places l.groups.items;
}
