use Rattle.std.proofs.Common.{◌≡◌, true}
use Rattle.fw_script.specs.Reader.{ReadsOn, IsOpen, to_read}
use Rattle.fw_script.specs.Reading.{HoldsAnswer}
use Rattle.fw_script.proofs.reader.ScriptReader.read_on.Given as goal

abbrev pub invariant-loop-fault : goal.invariant-loop-fault
invariant-loop-fault g l = record {
  goes_on : ReadsOn l.initial.self l.self (g.S.Source.left l.initial.source) (g.S.Source.left l.source);
  more : IsOpen l.self.stage;
  unasked : l.initial.self.whole ≡ true → (l.source ≡ l.initial.source) × (l.self.whole ≡ true);
  asks : HoldsAnswer l.initial.self → (l.source ≡ l.initial.source) × HoldsAnswer l.self;
  unfailed : g.S.Source.faults l.source ≡ g.S.Source.faults l.initial.source;
}

abbrev pub decreases-loop-fault : goal.decreases-loop-fault
decreases-loop-fault g l = to_read l.self
