use Rattle.fw_log.proofs.Common.{length, arith, refl, ap, ◌∙◌, Position, position}
use Rattle.fw_log.proofs.FeedLaws.{pending_of}
use Rattle.fw_log.proofs.FindLaws.{pending_at}
use Rattle.fw_log.proofs.PassLaws.{without_fault}
use Rattle.fw_log.proofs.NextLaws.{is_next}
use Rattle.fw_log.proofs.read.LogReader.next_body.Goals as goal

pub at_hand-bytes-requires-clause-pending : goal.at_hand-bytes-requires-clause-pending
at_hand-bytes-requires-clause-pending c =
    let s : Position = position c.self.inside.stand in
    let clear = without_fault c.self.inside.fault c.is_some.result c.is_some.ensures c.if-is_some.false in
    pending_at s s c.self.inside.taken.value c.as_slice.result.now refl (c.as_slice.ensures.value ∙ c.deref.ensures) (pending_of s c.self.inside.taken.value c.self.inside.fault clear c.self.invariant)

pub at_hand-bytes-requires-clause-few : goal.at_hand-bytes-requires-clause-few
at_hand-bytes-requires-clause-few c = omega (arith, ap length c.as_slice.ensures.value, c.as_slice.ensures.fits)

pub returns : goal.returns
returns c =
    let clear = without_fault c.self.inside.fault c.is_some.result c.is_some.ensures c.if-is_some.false in
    is_next c.args.self.now (position c.self.inside.stand) c.self.inside.taken.value c.as_slice.result.now c.args.piece.now c.at_hand-bytes.result.now c.self.inside.fault
    c.plain_bodied.result c.self.view_is clear (c.as_slice.ensures.value ∙ c.deref.ensures) c.at_hand-bytes.ensures c.plain_bodied.ensures
