use Rattle.std.proofs.Common.{◌∙◌, ap, sym}
use Rattle.std.proofs.lemmas.Option.{slice_get-get_or}
use Rattle.fw_watch_requests.specs.Standing.{answered, asked_at}
use Rattle.fw_watch_requests.proofs.taking.asked_at.Goals as goal

pub returns-in-Some : goal.returns-in-Some
unfolding answered
returns-in-Some c = sym (ap (asked_at c.args.rows.now) (sym c.in-Some.ensures.value) ∙ slice_get-get_or c.args.rows.now c.in-Some.at _ c.in-Some.ensures.there)
