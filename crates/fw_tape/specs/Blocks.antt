-- The blocks of a playing tape (IEC 61883-2), counted from the first cycle of the play.
use Rattle.std.specs.Prelude.{◌≡◌, ℕ, zero, suc, ◌+◌, ◌-◌, ◌/◌, ◌%◌, nat_lt, List, Option, Some, None, IsTrue, Bool, true, false, if◌then◌else◌}
use Rattle.fw_tape.specs.declared.system.TapeSystem.{TapeSystem}
use Rattle.fw_tape.specs.declared.transport.Transport.{Transport}
use Rattle.fw_tape.specs.declared.transport.Transport.TheVariants.{Play}
use Rattle.fw_tape.specs.declared.cassette.Cassette.{Cassette}
use Rattle.fw_tape.specs.declared.cassette.BlockPlace.{BlockPlace}
use Rattle.fw_tape.specs.Desks.{BlockRelation}
use Rattle.fw_tape.specs.Systems.{blocks_due, blocks_per_frame, frames_per_day}

-- a block is due in the k-th cycle of a play, the first being 1: by it, one more is due than by the cycle before
abbrev pub is_due : TapeSystem → ℕ → Bool
is_due system k = nat_lt (blocks_due system (k - 1)) (blocks_due system k)

-- block b of a play, the first being 0, is due in its k-th cycle: b + 1 are due by it, and not by the cycle before
pub record IsCycleOf (system : TapeSystem) (b k : ℕ) : Type 0 where
  pub due : IsTrue (is_due system k)
  pub count : blocks_due system k ≡ b + 1

-- the block that is due in the k-th cycle of a play, if one is: the last of those that are due by then, the first being 0
abbrev pub block_in : Cassette → ℕ → Option BlockPlace
block_in c k =
    let b = blocks_due c.system k - 1 in
    let per_frame = blocks_per_frame c.system in
    if is_due c.system k then Some (record { tape = c.tape; frame = (c.start + b / per_frame) % frames_per_day c.system; block = b % per_frame }) else None

-- forward play
abbrev pub is_play : Transport → Bool
is_play Play = true
is_play _ = false

-- the block that is due in the next cycle; none is without forward play
abbrev pub next_block : Option Cassette → Option BlockPlace
next_block None = None
next_block (Some c) = if is_play c.transport then block_in c (c.passed + 1) else None

-- the block that was due in the cycle that passed last; none was without forward play, and none before its first cycle
abbrev pub block_now : Option Cassette → Option BlockPlace
block_now None = None
block_now (Some c) = if is_play c.transport then block_in c c.passed else None

-- the bytes of a due block are there exactly if one is due, and the desk's relation allows them for its place
abbrev pub Gives : BlockRelation → Option BlockPlace → Option (List ℕ) → Type 0
Gives R None None = Unit {0}
Gives R None (Some bytes) = ⊥
Gives R (Some place) None = ⊥
Gives R (Some place) (Some bytes) = R place.tape place.frame place.block bytes

-- how many of the n cycles after the k-th have a due block
unfoldable pub due_among : TapeSystem → ℕ → ℕ → ℕ
due_among system k zero = 0
due_among system k (suc n) = due_among system k n + (if is_due system (k + n + 1) then 1 else 0)

-- how many blocks of forward play are due in the next n cycles
abbrev pub blocks_among : Option Cassette → ℕ → ℕ
blocks_among None n = 0
blocks_among (Some c) n = if is_play c.transport then due_among c.system c.passed n else 0
