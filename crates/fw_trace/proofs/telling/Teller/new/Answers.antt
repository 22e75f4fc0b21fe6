use Rattle.fw_trace.proofs.Common.{ap, ◌∙◌}
use Rattle.fw_log.specs.Reader.{total}
use Rattle.fw_trace.proofs.TellingLaws.{tells_first}
use Rattle.fw_trace.proofs.telling.Teller.new.Goals as goal

pub invariant_of-result : goal.invariant_of-result
invariant_of-result g c = record {
  failed = c.new-4.ensures.failed;
  counted = λ e. ap total c.in_ok-reader.ensures.stand;
  tells = tells_first c.of-origin.result.value c.new-tracer.result c.in_ok-reader.reader c.of-earlier.result.value.bytes c.new-history.result.bytes c.new-4.result.given.bytes
      c.in_ok-reader.ensures.begins c.of-origin.ensures (ap (λ h. h.bytes) c.of-earlier.ensures ∙ c.new-history.ensures) c.new-history.ensures c.new-4.ensures.given;
}
