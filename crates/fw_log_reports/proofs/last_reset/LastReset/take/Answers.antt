use Rattle.std.proofs.Common.{ap, sym, subst, ◌∙◌}
use Rattle.fw_log_entry.specs.declared.entry.Entry.{Entry}
use Rattle.fw_log_entry.specs.Log.{Fits, body}
use Rattle.fw_log_reports.proofs.TreeLaws.{kept_on_ok, last_stays}
use Rattle.fw_log_reports.proofs.last_reset.LastReset.take.Goals as goal

pub returns-in-Reset : goal.returns-in-Reset
returns-in-Reset c entries h =
    let F : Entry → Type 0 = Fits in
    kept_on_ok c.keep.result entries c.args.entry.now c.in-Reset.field-0 _ _ c.args.bytes.now c.in-Reset.is (subst F c.in-Reset.is c.requires.fits)
    (sym (c.requires.body ∙ ap body c.in-Reset.is)) c.keep.ensures.there c.keep.ensures.body

pub returns-in_default : goal.returns-in_default
returns-in_default c entries h = last_stays entries c.args.entry.now c.args.self.now.there c.args.self.now.body.items c.in_default.not-Reset h
