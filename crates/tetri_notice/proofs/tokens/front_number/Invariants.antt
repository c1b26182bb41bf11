use Rattle.std.proofs.Common.{length, drop, take, min, true, ◌+◌, ◌-◌, ◌≡◌, ◌≤◌}
use Rattle.std.specs.Char.{is_ascii_digit}
use Rattle.std.specs.List.{list_all, prefix_len}
use Rattle.std.specs.Str.Parse.{digits_value}
use Rattle.tetri_notice.proofs.tokens.front_number.Given as goal

abbrev pub invariant-loop-i : goal.invariant-loop-i
invariant-loop-i l = record {
  inside : l.i ≤ l.most;
  most : l.most ≡ min (length l.text) 18;
  digits : list_all is_ascii_digit (take l.i l.text) ≡ true;
  value : l.number ≡ digits_value 10 (take l.i l.text);
  count : prefix_len is_ascii_digit l.text ≡ l.i + prefix_len is_ascii_digit (drop l.i l.text);
}

abbrev pub decreases-loop-i : goal.decreases-loop-i
decreases-loop-i l = l.most - l.i
