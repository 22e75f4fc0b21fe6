use Rattle.std.proofs.Common.{List, Option, ℕ, IsTrue, subst, sym}
use Rattle.std.specs.Option.{is_some}
use Rattle.fw_log_text.proofs.NameLaws.{event_named}
use Rattle.fw_log_text.proofs.line.put_event.Goals as goal

pub put_name-requires : goal.put_name-requires
put_name-requires c =
    let Named : Option (List ℕ) → Type 0 = λ name. IsTrue (is_some name) in
    subst Named (sym c.event_name.ensures) (event_named c.args.e.now.code c.args.e.now.device c.args.e.now.tape c.args.e.now.system c.requires.shape)
