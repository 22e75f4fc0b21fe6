use Rattle.std.proofs.Common.{sym, subst}
use Rattle.fw_log.specs.History.{HasRead}
use Rattle.fw_log.specs.Reader.{State}
use Rattle.fw_log_loop.proofs.Gatherings.{none_else, when_none}
use Rattle.fw_log_words.proofs.Rewritings.{rewritten_passes}
use Rattle.fw_log_words.proofs.rewriting.RewritingReading.take_raw.Goals as goal

pub returns-clause-history : goal.returns-clause-history
returns-clause-history c entries bytes h t =
    let x = c.in-Some.ensures.history entries bytes h in
    rewritten_passes c.args.self.now c.put_body.new.self entries _ c.pass_body.new.self c.in-Some.passed x t (c.in_ok-put_body.ensures.epoch x.entry.what x.made)
    (c.in_ok-put_body.ensures.bytes x.entry.what x.made)

pub returns-in_default-clause-history : goal.returns-in_default-clause-history
returns-in_default-clause-history c entries bytes h t =
    let kept = when_none c.pass_body.result (none_else c.pass_body.result c.in_default.not-Some) c.pass_body.ensures.kept in
    let P : State → Type 0 = λ r. HasRead entries bytes r in
    c.copy_other.ensures.history entries bytes (subst P (sym kept) h) t
