use Rattle.std.proofs.Common.{◌≡◌, take, true}
use Rattle.std.specs.List.{list_all}
use Rattle.fw_script_command.specs.Names.{filled}
use Rattle.fw_script_command.specs.Words.{is_name_byte}
use Rattle.fw_script_command.proofs.name.Name.from_bytes.Given as goal

abbrev pub invariant-loop-i : goal.invariant-loop-i
invariant-loop-i l = record {
  all : list_all is_name_byte (take l.i l.word) ≡ true;
  bytes : l.bytes ≡ filled (take l.i l.word);
}
