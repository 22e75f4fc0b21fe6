use Rattle.std.proofs.Common.{◌≡◌, ◌<◌, ◌≤◌, ◌∙◌, ap, arith, rules, length, get_or, true}
use Rattle.std.proofs.Math.Bool.{◌&&◌}
use Rattle.std.proofs.Math.ListN.{set}
use Rattle.std.proofs.lemmas.List.Folds.{list_all_more}
use Rattle.fw_script_command.specs.Words.{is_name_byte}
use Rattle.fw_script_command.proofs.NameLaws.{one_more}
use Rattle.fw_script_command.proofs.name.Name.from_bytes.Goals as goal

pub loop-i-preserved : goal.loop-i-preserved
loop-i-preserved c =
    let w = c.args.word.now in
    let i = c.loop-i.i in
    let low : i < length w = omega arith in
    let few : length w ≤ 16 = c.requires in
    let here : is_name_byte (get_or w i 0) ≡ true = search rules in
    record {
      all = list_all_more is_name_byte w i 0 low ∙ (ap (λ b. b && is_name_byte (get_or w i 0)) c.loop-i.invariant.all ∙ here);
      bytes = ap (λ bs. set bs i (get_or w i 0)) c.loop-i.invariant.bytes ∙ one_more w i low few;
    }
