use Rattle.fw_ledger.proofs.Common.{refl}
use Rattle.fw_log_entry.specs.declared.entry.Entry.TheVariants.{Event}
use Rattle.fw_model_account.proofs.Refused.{refused_exactly}
use Rattle.fw_ledger.proofs.Taking.{follows_goes, follows_stops}
use Rattle.fw_ledger.proofs.entry.take_event.Goals as goal

pub returns-then-not-happen : goal.returns-then-not-happen
returns-then-not-happen c = λ l h.
    let x = follows_stops c.args.tables.now c.happen.new.tables _ (c.if-not-happen.ensures l h) in
    (x.0, x.1, (refl, (refused_exactly l (Event c.args.e.now) h.sound).0 x.0))

pub returns : goal.returns
returns c = λ l h. (refl, follows_goes c.args.tables.now _ _ (c.if-not-happen.ensures l h))
