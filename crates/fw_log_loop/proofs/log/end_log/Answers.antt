use Rattle.std.proofs.Common.{List, ℕ, refl, subst}
use Rattle.fw_outside.specs.Outside.{Grows, AppendsPrefix}
use Rattle.fw_log_loop.proofs.Closings.{closed_by, refused_by}
use Rattle.fw_log_loop.proofs.log.end_log.Goals as goal

pub returns-in-Err-clause-ends : goal.returns-in-Err-clause-ends
returns-in-Err-clause-ends g c entries bytes h t = (c.in-Err.ensures.log entries bytes h, c.in-Err.ensures.fault, refl)

pub returns-in_default-close-clause-ends : goal.returns-in_default-close-clause-ends
returns-in_default-close-clause-ends g c entries bytes h t = (c.in_default.ensures.log entries bytes h, refl)

pub returns-in-Err-into_bytes-clause-ends : goal.returns-in-Err-into_bytes-clause-ends
returns-in-Err-into_bytes-clause-ends g c entries bytes h t =
    (c.in_default.ensures.log entries bytes h, refused_by g.O.Reading.rules entries c.in-Ok.closing c.in-Err-into_bytes.refusal c.in-Err-into_bytes.ensures.refused (c.in-Ok.ensures entries t), refl)

pub returns-in-Ok-print-clause-ends : goal.returns-in-Ok-print-clause-ends
returns-in-Ok-print-clause-ends g c entries bytes h t =
    let G : List ℕ → Type 0 = Grows (g.K.Sink.held c.args.sink.now) (g.K.Sink.held c.print.new.sink) in (
      c.in_default.ensures.log entries bytes h,
      record {
        last = c.in-Ok-into_bytes.text.items;
        closed = closed_by g.O.Reading.rules entries c.in-Ok.closing c.in-Ok-into_bytes.text.items c.in-Ok-into_bytes.ensures.written (c.in-Ok.ensures entries t);
        grew = subst G c.deref.ensures.value c.in-Ok-print.ensures.text;
      },
    )

pub returns-clause-ends : goal.returns-clause-ends
returns-clause-ends g c entries bytes h t =
    let G : List ℕ → Type 0 = AppendsPrefix (g.K.Sink.held c.args.sink.now) (g.K.Sink.held c.print.new.sink) in (
      c.in_default.ensures.log entries bytes h,
      record {
        last = c.in-Ok-into_bytes.text.items;
        closed = closed_by g.O.Reading.rules entries c.in-Ok.closing c.in-Ok-into_bytes.text.items c.in-Ok-into_bytes.ensures.written (c.in-Ok.ensures entries t);
        grew = subst G c.deref.ensures.value c.in-Err-print.ensures.text;
      },
    )

pub close-requires : goal.close-requires
close-requires g c = c.requires.begun
