use Rattle.fw_log.proofs.Common.{length, Some, Ok, arith, ap, ◌∙◌, position, State}
use Rattle.fw_log.proofs.FindLaws.{found_in, pending_at}
use Rattle.fw_log.proofs.FoundLaws.{joins_at}
use Rattle.fw_log.proofs.read.LogReader.feed_first.Goals as goal

pub keep-requires-clause-found : goal.keep-requires-clause-found
keep-requires-clause-found c =
    found_in c.args.self.now.stand (position c.self.inside.stand) c.args.self.now.taken c.as_slice.result.now c.args.piece.now c.at_hand-bytes.result.now (Ok (Some c.in-Some.found))
    (ap (λ (r : State). r.stand) c.self.view_is)
    (c.as_slice.ensures.value ∙ c.deref.ensures ∙ ap (λ (r : State). r.taken) c.self.view_is) c.at_hand-bytes.ensures c.in-Some.ensures

pub at_hand-bytes-requires-clause-pending : goal.at_hand-bytes-requires-clause-pending
at_hand-bytes-requires-clause-pending c =
    pending_at c.args.self.now.stand (position c.self.inside.stand) c.args.self.now.taken c.as_slice.result.now (ap (λ (r : State). r.stand) c.self.view_is)
    (c.as_slice.ensures.value ∙ c.deref.ensures ∙ ap (λ (r : State). r.taken) c.self.view_is) c.requires.pending

pub at_hand-bytes-requires-clause-few : goal.at_hand-bytes-requires-clause-few
at_hand-bytes-requires-clause-few c = omega (arith, ap length c.as_slice.ensures.value, c.as_slice.ensures.fits)

pub feed_other-requires-clause-joins : goal.feed_other-requires-clause-joins
feed_other-requires-clause-joins c =
    joins_at c.args.self.now.stand (position c.self.inside.stand) c.args.self.now.taken c.as_slice.result.now c.args.piece.now c.at_hand-bytes.result.now (ap (λ (r : State). r.stand) c.self.view_is)
    (c.as_slice.ensures.value ∙ c.deref.ensures ∙ ap (λ (r : State). r.taken) c.self.view_is) c.at_hand-bytes.ensures
