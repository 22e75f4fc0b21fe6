use Rattle.std.proofs.Common.{sym, ◌∙◌}
use Rattle.std.proofs.lemmas.Bool.{eqb-true}
use Rattle.fw_watch_known.proofs.Keeping.{none_forgotten}
use Rattle.fw_watch_known.proofs.channel.is_kept.Goals as goal

pub returns-then-old-now : goal.returns-then-old-now
returns-then-old-now c e i h = none_forgotten c.args.old c.args.now c.if-old-now.true (sym c.differing.ensures ∙ eqb-true c.differing.result 0 e) i h
