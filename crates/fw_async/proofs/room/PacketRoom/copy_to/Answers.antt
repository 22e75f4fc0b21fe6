use Rattle.fw_async.proofs.Common.{◌≡◌, ℕ, List, length, take, drop, arith, sym, ap, ◌∙◌}
use Rattle.fw_async.proofs.RoomLaws.{copied, stood}
use Rattle.fw_async.proofs.room.PacketRoom.copy_to.Goals as goal
use Rattle.fw_async.proofs.room.PacketRoom.copy_to.Goals.{then-self-le-SHORT, else-self-le-SHORT}

pub returns-clause-size : goal.returns-clause-size
returns-clause-size c = sym (stood c.self.inside.length c.self.inside.bytes (omega (arith, c.self.invariant, c.self.told))) ∙ ap (λ (xs : List ℕ). length xs) c.self.view_is

pub returns-clause-bytes : goal.returns-clause-bytes
returns-clause-bytes c =
    let n = c.self.inside.length in
    let bytes = c.self.inside.bytes in
    elim c.if-self-le-SHORT.branch [
      | then-self-le-SHORT w ↦ ap (take n) w.row-is ∙ (copied n 32 (drop 16 bytes) w.copy_short.new.row w.if-self-le-SHORT.true w.copy_short.ensures ∙ c.self.view_is)
      | else-self-le-SHORT w ↦
          let size : length w.as_slice.result.now ≡ n = ap (λ (xs : List ℕ). length xs) (w.as_slice.ensures ∙ sym c.self.view_is) ∙ stood n bytes (omega (arith, c.self.invariant, c.self.told)) in
          ap (take n) w.row-is ∙ (ap (λ k. take k w.copy_over.new.row) (sym size) ∙ (w.copy_over.ensures ∙ w.as_slice.ensures))
    ]
