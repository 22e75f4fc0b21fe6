use Rattle.fw_trace.proofs.Common.{◌≡◌, ◌+◌, ℕ, List, length, Timed, HasRead}
use Rattle.fw_log.specs.Reader.{total}
use Rattle.fw_trace.specs.Telling.{TakesSome}
use Rattle.fw_trace.proofs.entries.take_entries.Given as goal

abbrev pub invariant-loop-rest : goal.invariant-loop-rest
invariant-loop-rest l =
    (total l.reader + length l.rest ≡ total l.fn.reader + length l.fn.piece)
    × ((entries : List Timed) (bytes : List ℕ) → HasRead entries bytes l.fn.reader → TakesSome entries bytes l.fn.piece l.rest l.fn.tracer l.tracer l.reader)

abbrev pub decreases-loop-rest : goal.decreases-loop-rest
decreases-loop-rest l = length l.rest
