use Rattle.std.proofs.Common.{tests, ◌≡◌, ◌+◌, ◌*◌, ◌≤◌, ◌<◌, ◌&&◌, false, true, arith}
use Rattle.std.specs.Prelude.{is_ok, unwrap_or}
use Rattle.tetri_logs.specs.Placing.{is_outside, within_run}
use Rattle.tetri_logs.specs.Scale.{is_part_node, moment_of, nodes_of, room_of, slot_of, slots_of}
use Rattle.tetri_logs.proofs.PlaceLaws.{usual-placed}
use Rattle.tetri_logs.proofs.placing.has_usual_place.Goals as goal

pub returns-then-is_short-2 : goal.returns-then-is_short-2
returns-then-is_short-2 c cheap =
    let s = c.args.settings.now in
    let a = c.args.account.now in
    let wanted : is_outside s (moment_of s a) ≡ false = grind (arith, tests) in
    let seated : 0 < room_of s a = grind (arith, tests) in
    let fits : nodes_of s a ≤ room_of s a = grind (arith, tests) in
    let whole : (s.whole_nodes_only && is_part_node s a) ≡ false = grind (arith, tests) in
    let behind : s.origin ≤ moment_of s a = grind (arith, tests) in
    let early : is_ok (within_run (slot_of s (moment_of s a + unwrap_or a.waited 0))) ≡ true = grind (arith, tests) in
    let short : slots_of s a.limit ≤ 10000 = grind (arith, tests) in
    let brief : slots_of s (unwrap_or a.ran 0) ≤ 10000 = grind (arith, tests) in
    let low : room_of s a * 10000 * s.unit ≤ 1000000000000 = grind (arith, tests, cheap) in
    usual-placed s a wanted seated fits whole behind early short brief low c.requires
