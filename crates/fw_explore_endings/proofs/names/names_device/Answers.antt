use Rattle.std.proofs.Common.{◌≡◌, List, true, false, sym, ap, ◌∙◌, arith}
use Rattle.std.specs.List.{list_any}
use Rattle.std.specs.Str.{bytes_eq}
use Rattle.std.proofs.lemmas.List.{at_drop_all}
use Rattle.fw_explore_movers.specs.declared.mover.Mover.{Mover}
use Rattle.fw_model_run.specs.Named.{names_of}
use Rattle.fw_explore_endings.specs.Texts.{names_device}
use Rattle.fw_explore_endings.proofs.NamesLaws.{names_more}
use Rattle.fw_explore_endings.proofs.names.names_device.Goals as goal

pub returns-then-is_among : goal.returns-then-is_among
returns-then-is_among c =
    let test : list_any (bytes_eq c.args.name.now) (names_of c.mover-item.result.command) ≡ true = ap (list_any (bytes_eq c.args.name.now)) (sym c.names_of.ensures) ∙ sym c.if-is_among.ensures in
    sym (sym c.loop-mover.invariant ∙ names_more c.args.movers.now c.args.name.now c.loop-mover.mover-index c.mover-item.result true (omega arith) c.mover-item.is test)

pub loop-mover-preserved : goal.loop-mover-preserved
loop-mover-preserved c =
    let test : list_any (bytes_eq c.args.name.now) (names_of c.mover-item.result.command) ≡ false = ap (list_any (bytes_eq c.args.name.now)) (sym c.names_of.ensures) ∙ sym c.if-is_among.ensures in
    sym (names_more c.args.movers.now c.args.name.now c.loop-mover.mover-index c.mover-item.result false (omega arith) c.mover-item.is test) ∙ c.loop-mover.invariant

pub returns : goal.returns
returns c = sym (sym c.loop-mover.invariant ∙ at_drop_all (λ (ms : List Mover). names_device ms c.args.name.now) c.args.movers.now c.loop-mover.mover-index (omega arith))
