use Rattle.std.proofs.Common.{ℕ, List, take, drop, ◌-◌, subst}
use Rattle.std.proofs.lemmas.List.{take_rest}
use Rattle.fw_script.specs.Line.{IsPrefix}
use Rattle.fw_script.specs.Reader.{StandsNext}
use Rattle.fw_script.specs.Reading.{Reading}
use Rattle.fw_script.proofs.LineLaws.{stands_next}
use Rattle.fw_script.proofs.reader.ScriptReader.prefix.Goals as goal

pub returns-clause-stands : goal.returns-clause-stands
returns-clause-stands c =
    let r = c.self.inside in
    let p : Reading = record {
      rest = drop r.at r.bytes.items;
      whole = r.whole;
      before = r.before;
      line = r.line;
      stage = r.stage;
      text = take r.text.length (drop r.text.at r.bytes.items);
      end = r.end;
    } in
    let f : IsPrefix (drop r.at c.deref.result.now) (1048576 - r.before) r.whole c.prefix_of.result =
    subst (λ (l : List ℕ). IsPrefix l (1048576 - r.before) r.whole c.prefix_of.result) (take_rest c.deref.result.now r.at) c.prefix_of.ensures in
    let g = subst (λ (l : List ℕ). IsPrefix (drop r.at l) (1048576 - r.before) r.whole c.prefix_of.result) c.deref.ensures.value f in
    subst (λ (q : Reading). StandsNext q c.prefix_of.result) c.self.view_is (stands_next p c.prefix_of.result c.self.invariant.3 g)
