use Rattle.std.proofs.Common.{◌≡◌, ◌⊎◌, ℕ, List, false, refl, subst}
use Rattle.fw_script_command.specs.Form.{HasForm}
use Rattle.fw_script_command.specs.declared.command.Command.{Command}
use Rattle.fw_script.specs.Line.{is_skipped}
use Rattle.fw_script.specs.Reader.{IsNear}
use Rattle.fw_script.specs.Reading.{Reading}
use Rattle.fw_script.specs.declared.stage.ReaderStage.TheVariants.{AfterEnd}
use Rattle.fw_script.proofs.LineLaws.{line_near, near_few}
use Rattle.fw_script.proofs.ReadingLaws.{refused_stage}
use Rattle.fw_script.proofs.reader.ScriptReader.read_line.Goals as goal

pub advance-requires-clause-near : goal.advance-requires-clause-near
advance-requires-clause-near c =
    let near : IsNear c.args.self.now.rest = subst (λ (p : Reading). IsNear p.rest) c.self.view_is c.self.invariant.2 in
    near_few _ (line_near c.args.self.now _ c.args.size near c.requires.line.line)

pub advance-requires-in-End-clause-near : goal.advance-requires-in-End-clause-near
advance-requires-in-End-clause-near c =
    let near : IsNear c.args.self.now.rest = subst (λ (p : Reading). IsNear p.rest) c.self.view_is c.self.invariant.2 in
    near_few _ (line_near c.args.self.now _ c.args.size near c.requires.line.line)

pub returns-in-Refused : goal.returns-in-Refused
returns-in-Refused c = record {
  said = subst (λ (text : List ℕ). is_skipped text ≡ false) c.prefix_text.ensures c.in-Refused.ensures.0;
  why = subst (λ (text : List ℕ). (c.args.self.now.stage ≡ AfterEnd) ⊎ ((d : Command) → HasForm d text → ⊥)) c.prefix_text.ensures
      (refused_stage c.args.self.now c.takes_commands.result c.prefix_text.result.now c.takes_commands.ensures.no c.in-Refused.ensures.1);
  now = refl;
}
