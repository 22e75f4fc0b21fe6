use Rattle.fw_async.proofs.Common.{◌≡◌, ℕ, ◌+◌, List, length, take, drop, arith, sym, ap, ◌∙◌}
use Rattle.std.proofs.lemmas.List.{take-take}
use Rattle.fw_async.proofs.RoomLaws.{row_is, stood}
use Rattle.fw_async.proofs.room.PacketRoom.row_following.Goals as goal

pub returns : goal.returns
returns c =
    let n = c.self.inside.length in
    let bytes = c.self.inside.bytes in
    let row = c.row_of.result.now in
    let size : length c.args.self.now ≡ n = ap (λ (xs : List ℕ). length xs) (sym c.self.view_is) ∙ stood n bytes (omega (arith, c.self.invariant, c.self.told)) in
    let put : length c.copy_from_slice.new.self ≡ 16 = omega (arith, ap length c.copy_from_slice.ensures.after, c.copy_from_slice.ensures.len) in
    ap (λ (k : ℕ). take (16 + k) row) size
    ∙ (ap (take (16 + n)) c.row_of.ensures
    ∙ (take-take (16 + n) 48 _ (omega (arith, size, c.requires))
    ∙ row_is n c.copy_from_slice.new.self c.args.prefix (drop 16 bytes) c.args.self.now put c.copy_from_slice.ensures.after c.self.view_is))
