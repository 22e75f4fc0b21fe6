use Rattle.std.proofs.Common.{◌≡◌, OnOk, List, sym, subst}
use Rattle.fw_watch_remarks.specs.Remarks.{Said, told}
use Rattle.fw_watch.proofs.OnlyLaws.{one_told}
use Rattle.fw_watch.proofs.tell_swap.tell_channels.Goals as goal

pub returns-in-Some : goal.returns-in-Some
returns-in-Some c =
    let P : List Said → Type 0 = λ lines. OnOk c.tell_change.result (c.tell_change.new.journal ≡ told c.args.journal.now lines) in
    subst P (sym (one_told c.in-Some.at c.args.state.now c.args.m.now c.args.first c.in-Some.ensures)) c.tell_change.ensures
