use Rattle.std.proofs.Common.{◌≡◌, ◌∙◌, ◌++◌, List, get_or, arith, ap, sym, subst}
use Rattle.std.proofs.lemmas.Option.{slice_get-get_or}
use Rattle.fw_log_text.specs.declared.report.Channel.{Channel}
use Rattle.fw_log_text.specs.Report.{packets_on, channel_text, channels_text}
use Rattle.fw_log_text.specs.Tallies.{Reports}
use Rattle.fw_log_text.proofs.TallyLaws.{channels_none, channels_next}
use Rattle.fw_log_text.proofs.report.StreamReport.text.Goals as goal

pub loop-number-init : goal.loop-number-init
loop-number-init c entries h = c.new-text.ensures.bytes ∙ channels_none entries

pub loop-number-preserved : goal.loop-number-preserved
loop-number-preserved c entries h =
    let n = c.loop-number.number in
    let item = c.channel-item.result in
    let channels = c.self.inside.channels in
    let P : List Channel → Type 0 = Reports entries in
    let all : Reports entries channels = subst P (sym c.self.view_is) h in
    let there = slice_get-get_or channels n item (omega (arith, all.all, c.loop-number-test.true)) in
    c.in_ok-put.ensures (packets_on n entries) (all.each n (get_or channels n item) there) ∙ ap (λ t. t ++ channel_text n (packets_on n entries)) (c.loop-number.invariant entries h)
    ∙ sym (channels_next n entries)

pub returns : goal.returns
returns c entries h =
    let last : c.loop-number.number ≡ 64 = omega (arith, c.loop-number.auto.number-end, c.loop-number-test.false) in
    c.loop-number.invariant entries h ∙ ap (λ n. channels_text n entries) last
