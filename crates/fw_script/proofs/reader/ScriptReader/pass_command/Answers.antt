use Rattle.std.proofs.Common.{Ok, Some, refl, subst, sym, arith}
use Rattle.std.proofs.lemmas.List.{length-take-le}
use Rattle.fw_script.specs.Reader.{IsNear, IsOpen}
use Rattle.fw_script.specs.Reading.{Reading}
use Rattle.fw_script.specs.declared.stage.ReaderStage.{ReaderStage}
use Rattle.fw_script.proofs.LineLaws.{line_near, near_few}
use Rattle.fw_script.proofs.ReadingLaws.{reads_command, few_following}
use Rattle.fw_script.proofs.StepLaws.{advances_by, goes_nowhere}
use Rattle.fw_script.proofs.reader.ScriptReader.pass_command.Goals as goal

pub advance-requires-clause-near : goal.advance-requires-clause-near
advance-requires-clause-near c =
    let near : IsNear c.args.self.now.rest = subst (λ (p : Reading). IsNear p.rest) c.self.view_is c.self.invariant.2 in
    near_few _ (line_near c.args.self.now _ c.args.size near c.requires.line.line)

pub advance-requires-clause-short : goal.advance-requires-clause-short
advance-requires-clause-short c = let long = length-take-le c.args.length c.args.self.now.rest c.requires.line.there in omega (arith, long, c.requires.line.line.short)

pub advance-requires-clause-open : goal.advance-requires-clause-open
advance-requires-clause-open c = subst (λ (s : ReaderStage). IsOpen s) (sym c.requires.next.1.stage) tt

pub returns-clause-gives : goal.returns-clause-gives
returns-clause-gives c command left n =
    let p = c.args.self.now in
    advances_by p p c.advance.new.self left left (Ok (Some command)) (subst (λ (s : ReaderStage). IsOpen s) (sym n.stage) tt) (goes_nowhere p left)
    (reads_command p c.advance.new.self c.args.length c.args.size _ command refl c.requires.line c.advance.ensures n.said n.stage n.form n.other)

pub returns-clause-held : goal.returns-clause-held
returns-clause-held c command =
    let p = c.args.self.now in
    let near : IsNear p.rest = subst (λ (p : Reading). IsNear p.rest) c.self.view_is c.self.invariant.2 in
    few_following p c.advance.new.self c.args.length c.args.size near c.requires.line c.advance.ensures
