use Rattle.std.proofs.Common.{◌++◌, ◌∙◌, [], take, sym, subst}
use Rattle.fw_log.specs.History.{HasRead}
use Rattle.fw_log.specs.Passing.{HasBody}
use Rattle.fw_log.specs.Reader.{State}
use Rattle.fw_log.specs.declared.plain.PlainBody.{PlainBody}
use Rattle.fw_log_loop.specs.Readings.{Passes}
use Rattle.fw_log_text.specs.Tallies.{Reports}
use Rattle.fw_log_reports.specs.Texts.{silent_form}
use Rattle.fw_log_reports.specs.declared.streams.Streams.{Streams}
use Rattle.fw_log_reports.proofs.Passings.{report_passes, packet_passes, other_passes}
use Rattle.fw_log_reports.proofs.streams.StreamsReading.take_raw.Goals as goal
use Rattle.fw_log_reports.proofs.streams.StreamsReading.take_raw.Goals.{in-Iso, in_default-body}

pub whole_iso-requires : goal.whole_iso-requires
whole_iso-requires c =
    let P : PlainBody → Type 0 = λ b. HasBody b c.in-Some.ensures.body.0 in
    let made = subst P c.in-Iso.is c.in-Some.ensures.body.1 in
    record { packet = made.0; fits = made.2; same = made.3 ∙ sym c.as_slice.ensures }

pub returns-in_default-clause-history : goal.returns-in_default-clause-history
returns-in_default-clause-history c entries bytes h t =
    let P : State → Type 0 = HasRead entries bytes in
    report_passes c.args.self.now.report c.take_raw.result entries (λ n. bytes ++ take n c.args.piece.now) c.take_raw.new.self t
    (c.take_raw.ensures.history entries bytes (subst P (sym c.in_default.ensures.kept) h))

pub returns-clause-history : goal.returns-clause-history
returns-clause-history c entries bytes h t =
    let p = c.in-Some.passed in
    let x = c.in-Some.ensures.history entries bytes h in
    let P : Streams → Type 0 = λ s. Passes silent_form.text (λ es. Reports es s.report) [] [] entries (bytes ++ take p.used c.args.piece.now) c.pass_body.new.self in
    elim c.match-passed.branch [
      | in-Iso w ↦ subst P (sym w.self-is) (packet_passes c.args.self.now.report w.take_packet.new.self w.whole_iso.result w.in-Iso.bytes entries
          (bytes ++ take p.used c.args.piece.now) c.args.piece.now c.args.reader.now c.pass_body.new.self p x
          w.in-Iso.is (λ q fits same. w.whole_iso.ensures.same q fits (same ∙ sym w.as_slice.ensures)) c.requires c.in-Some.ensures.counts w.take_packet.ensures t)
      | in_default-body w ↦ subst P (sym w.self-is) (other_passes c.args.self.now.report entries (bytes ++ take p.used c.args.piece.now) c.pass_body.new.self p x w.in_default-body.not-Iso t)
    ]
