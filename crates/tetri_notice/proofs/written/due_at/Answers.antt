use Rattle.std.proofs.Common.{◌≡◌, codes, rules, w64}
use Rattle.std.specs.Prelude.{option_map}
use mir.Val.{to_z, of_z}
use Rattle.serde_json.specs.Data.{put}
use Rattle.tetri_notice.proofs.WrittenLemmas.{puts_both}
use Rattle.tetri_notice.specs.Written.{whole, with_set}
use Rattle.tetri_notice.proofs.written.due_at.Goals as goal

pub returns : goal.returns
returns c =
    let back : to_z w64 (of_z w64 c.in_ok-deadline.deadline) ≡ c.in_ok-deadline.deadline = search rules in
    rw back (puts_both 0 (with_set (option_map (λ s. s.now) c.in_ok-set.set)) (put (codes "deadline") (whole c.in_ok-deadline.deadline)) c.args.reader.now c.set_at.new.reader c.number_at.new.reader c.in_ok-set.ensures c.in_ok-deadline.ensures)
