use Rattle.std.proofs.Common.{ℕ, List, length, ap, arith, length-append}
use Rattle.fw_log_entry.proofs.room.CycleRoom.put_entry.Goals as goal

pub extend-requires : goal.extend-requires
extend-requires c = let few = c.as_slice.ensures.few in let room = c.requires.room in omega (arith, few, room)

pub returns-clause-size : goal.returns-clause-size
returns-clause-size c =
    let few = c.as_slice.ensures.few in
    let put = ap (λ (l : List ℕ). length l) c.extend.ensures in
    omega (arith, few, put, length-append c.args.self.now c.as_slice.result.now)
