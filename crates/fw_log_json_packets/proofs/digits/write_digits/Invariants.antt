use Rattle.std.proofs.Common.{◌≡◌, ◌+◌, ◌*◌, ◌++◌, length, take}
use Rattle.fw_text.specs.Texts.{hex_bytes}
use Rattle.fw_log_json_packets.proofs.digits.write_digits.Given as goal

abbrev pub invariant-loop-place : goal.invariant-loop-place
invariant-loop-place l = record {
  size : length l.out ≡ length l.initial.out;
  text : take (l.at + 2 * l.place) l.out ≡ take l.at l.initial.out ++ hex_bytes (take l.place l.bytes);
}
