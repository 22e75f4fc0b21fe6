use Rattle.fw_async.proofs.Common.{arith, ◌++◌, ap, ◌∙◌}
use Rattle.fw_async.proofs.RoomLaws.{appended}
use Rattle.fw_async.proofs.room.PacketRoom.extend.Goals as goal

pub returns : goal.returns
returns c =
    appended c.self.inside.length c.self.inside.bytes c.write_over.new.out c.args.more.now (omega (arith, c.self.invariant, c.self.told)) c.write_over.ensures
    ∙ ap (λ t. t ++ c.args.more.now) c.self.view_is
