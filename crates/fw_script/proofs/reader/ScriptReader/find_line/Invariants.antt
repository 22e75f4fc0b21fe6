use Rattle.std.proofs.Common.{◌≡◌, true}
use Rattle.fw_script.specs.Reader.{IsOpen, to_read}
use Rattle.fw_script.specs.Reading.{TakesMore}
use Rattle.fw_script.proofs.reader.ScriptReader.find_line.Given as goal

abbrev pub invariant-loop-length : goal.invariant-loop-length
invariant-loop-length g l = record {
  takes : TakesMore l.initial.self l.self (g.S.Source.left l.initial.source) (g.S.Source.left l.source);
  stage : l.self.stage ≡ l.initial.self.stage;
  more : IsOpen l.initial.self.stage;
  unasked : l.initial.self.whole ≡ true → (l.source ≡ l.initial.source) × (l.self.whole ≡ true);
  unfailed : g.S.Source.faults l.source ≡ g.S.Source.faults l.initial.source;
}

abbrev pub decreases-loop-length : goal.decreases-loop-length
decreases-loop-length g l = to_read l.self
