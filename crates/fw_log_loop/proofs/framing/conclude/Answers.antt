use Rattle.std.proofs.Common.{List, ℕ, refl, subst}
use Rattle.fw_outside.specs.Outside.{Grows, AppendsPrefix}
use Rattle.fw_log_loop.proofs.framing.conclude.Goals as goal

pub returns-in_default-clause-text : goal.returns-in_default-clause-text
returns-in_default-clause-text g c entries few t = refl

pub returns-in_default-print-clause-text : goal.returns-in_default-print-clause-text
returns-in_default-print-clause-text g c entries few t =
    let P : List ℕ → Type 0 = AppendsPrefix (g.K.Sink.held c.args.sink.now) (g.K.Sink.held c.print.new.sink) in
    record { more = g.O.Reading.gathered c.end.new.self; closes = c.in-Ok.ensures entries few t; grew = subst P c.gathered.ensures c.in_default-print.ensures.text }

pub returns-clause-text : goal.returns-clause-text
returns-clause-text g c entries few t =
    let P : List ℕ → Type 0 = Grows (g.K.Sink.held c.args.sink.now) (g.K.Sink.held c.print.new.sink) in
    record { more = g.O.Reading.gathered c.end.new.self; closes = c.in-Ok.ensures entries few t; grew = subst P c.gathered.ensures c.in-Ok-print.ensures.text }
