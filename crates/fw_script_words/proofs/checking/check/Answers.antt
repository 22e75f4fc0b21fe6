use Rattle.fw_script_words.proofs.Common.{◌≡◌, ◌++◌, ℕ, List, ap, ◌∙◌, subst, DeskRelations, RunEnding, Stopped}
use Rattle.fw_script_words.specs.Telling.{IsChecked, checked_text}
use Rattle.fw_script_words.proofs.Checkings.{check_completes, nothing_checked, reads_told, told_checks}
use Rattle.fw_script_words.proofs.Refusings.{checked_ready, checked_told}
use Rattle.fw_script_words.proofs.checking.check.Given as given
use Rattle.fw_script_words.proofs.checking.check.Goals as goal

pub returns-in-Stopped-clause-complete : goal.returns-in-Stopped-clause-complete
returns-in-Stopped-clause-complete g c script told valid =
    let D : DeskRelations = record { blocks = given.F-post g c.args.desk.now.blocks; vendor = given.H-post g c.args.desk.now.vendor } in
    let left = g.S.Source.left c.args.source.now in
    let left2 = g.S.Source.left c.check_run-checked.new.source in
    let held = g.K.Sink.held c.args.sink.now in
    let x = subst (λ (e : RunEnding). IsChecked D left left2 c.check_run-checked.new.reader c.check_run-checked.new.bus c.check_run-checked.result.commands e)
    c.in-Stopped.is c.check_run-checked.ensures.checked in
    check_completes D script left left2 held held (Stopped c.in-Stopped.stop)
    (nothing_checked D left left2 held c.check_run-checked.new.reader c.check_run-checked.new.bus c.check_run-checked.result.commands c.in-Stopped.stop x) told valid

pub put_told-requires : goal.put_told-requires
put_told-requires g c =
    let D : DeskRelations = record { blocks = given.F-post g c.args.desk.now.blocks; vendor = given.H-post g c.args.desk.now.vendor } in
    record {
      ready = checked_ready D (g.S.Source.left c.args.source.now) (g.S.Source.left c.check_run-checked.new.source) c.check_run-checked.new.reader c.check_run-checked.new.bus
          c.check_run-checked.result.commands c.check_run-checked.result.ending c.in_default-ending.not-Stopped c.check_run-checked.ensures.checked;
    }

pub tell-requires : goal.tell-requires
tell-requires g c = c.in_default-ending.not-Stopped

pub returns : goal.returns
returns g c =
    let D : DeskRelations = record { blocks = given.F-post g c.args.desk.now.blocks; vendor = given.H-post g c.args.desk.now.vendor } in
    let left = g.S.Source.left c.args.source.now in
    let left2 = g.S.Source.left c.check_run-checked.new.source in
    let held = g.K.Sink.held c.args.sink.now in
    let held2 = g.K.Sink.held c.tell.new.sink in
    let reader = c.check_run-checked.new.reader in
    let bus = c.check_run-checked.new.bus in
    let count = c.check_run-checked.result.commands in
    let e = c.check_run-checked.result.ending in
    let other = c.in_default-ending.not-Stopped in
    let x = c.check_run-checked.ensures.checked in
    let text : List ℕ = checked_text D left left2 reader bus count e x in
    let same : c.deref.result.now ≡ text =
    c.deref.ensures.value ∙ c.in-Ok-put_told.ensures.told text (checked_told D left left2 reader bus count e x) ∙ ap (λ (l : List ℕ). l ++ text) c.new-text.ensures.items in
    let checks = told_checks D left left2 held held2 reader bus count c.deref.result.now e c.tell.result other x same c.tell.ensures.told in
    record {
      checks = checks;
      complete = λ script told valid. check_completes D script left left2 held held2 c.tell.result checks told valid;
      read_count = reads_told _ _ c.deref.result.now held held2 e c.tell.result other c.check_run-checked.ensures.read_count c.tell.ensures.told;
      write_count = c.tell.ensures.write_count;
    }
