-- Swaps that were made and changed something: what they change, and what they tell.
use Rattle.std.specs.Prelude.{ℕ, zero, suc, ◌+◌, ◌-◌, ◌==◌, ◌&&◌, not, nat_lt, Bool, true, false, List, [], ◌∷◌, ◌++◌, Option, Some, None, unwrap_or, if◌then◌else◌}
use Rattle.fw_words.specs.Quadlet.{field}
use Rattle.fw_watch_remarks.specs.declared.register.WatchedRegister.{WatchedRegister}
use Rattle.fw_watch_remarks.specs.declared.register.WatchedRegister.TheVariants.{Bandwidth, ChannelsHigh, ChannelsLow, Output, Input}
use Rattle.fw_watch_known.specs.declared.second.Before.{Before}
use Rattle.fw_watch_known.specs.declared.second.Before.TheVariants.{Nothing, Dark, Words}
use Rattle.fw_watch_known.specs.declared.second.Second.{Second}
use Rattle.fw_watch_known.specs.declared.state.State.{State}
use Rattle.fw_watch_known.specs.declared.swap.Made.{Made}
use Rattle.fw_watch_remarks.specs.declared.remark.Remark.TheVariants.{Units, Takes, Returns, Plug, TooMany, UnitsInSecond, NewInSecond, Several, MoreThanMove}
use Rattle.fw_watch_remarks.specs.Registers.{is_output}
use Rattle.fw_watch_remarks.specs.Knowing.{bit_of, is_connected, is_known_set}
use Rattle.fw_watch_remarks.specs.Remarks.{Said, said}
use Rattle.fw_watch_known.specs.States.{counted_second}

-- ---- the swap of a plug

-- two words have the same bits from one to another
abbrev pub same_bits : ℕ → ℕ → ℕ → ℕ → Bool
same_bits old new first last = field old first last == field new first last

-- two numbers are neighbours
abbrev pub are_next : ℕ → ℕ → Bool
are_next n m = if n + 1 == m then true else m + 1 == n

-- one connection comes or goes: the counter (bits 2 to 7) changes by one and the broadcast bit (bit 1) not, or the bit and not the counter
unfoldable pub moves_one : ℕ → ℕ → Bool
moves_one old new = if same_bits old new 1 1 then are_next (field old 2 7) (field new 2 7) else same_bits old new 2 7

-- the first bit after the counters that a move keeps: bit 8, but if the plug was or is not connected, an iPCR may have another channel (to bit 15),
-- and an oPCR another channel, rate and overhead (to bit 21)
unfoldable pub first_kept : WatchedRegister → ℕ → ℕ → ℕ
first_kept register old new = if is_connected old && is_connected new then 8 else if is_output register then 22 else 16

-- the swap makes or breaks one connection, and changes nothing else
unfoldable pub is_move : WatchedRegister → ℕ → ℕ → Bool
is_move register old new = moves_one old new && same_bits old new 0 0 && same_bits old new (first_kept register old new) 31

-- ---- the second after a bus reset

-- the channel at a bit of a half was known to be free before the second; channel 31 is nobody's business
abbrev pub is_new : Before → WatchedRegister → ℕ → Bool
is_new (Words words) ChannelsHigh at = not (at == 31) && is_known_set words.high at
is_new (Words words) ChannelsLow at = is_known_set words.low at
is_new (Words words) Bandwidth at = false
is_new (Words words) (Output number) at = false
is_new (Words words) (Input number) at = false
is_new Nothing register at = false
is_new Dark register at = false

-- how many units were held before the second, if that is known: those that were not left
abbrev pub units_held : Before → Option ℕ
units_held Nothing = None
units_held Dark = None
units_held (Words words) = if words.bandwidth.mask == 0 then None else Some (4915 - words.bandwidth.word)

-- ---- what is told

-- more units are left than there are
unfoldable pub many_remarks : Made → List Said
many_remarks m = if nat_lt 4915 m.new then said m.cycle (TooMany m.by m.new) ∷ [] else []

-- the epoch of the latest bus reset
abbrev pub epoch_of : State → ℕ
epoch_of s = unwrap_or s.epoch 0

-- the units that were taken since the bus reset and not given back, with those of a swap
abbrev pub taken_with : Made → Second → ℕ
taken_with m s = (counted_second m.old m.new s).taken - (counted_second m.old m.new s).given

-- a swap takes units, so that more are taken in the second after a bus reset than were held before it
abbrev pub units_beyond : Option ℕ → State → Made → List Said
units_beyond None s m = []
units_beyond (Some held) s m =
    if nat_lt m.new m.old && nat_lt held (taken_with m s.second)
    then said m.cycle (UnitsInSecond m.by (epoch_of s) (taken_with m s.second) held) ∷ []
    else []

-- that is told if it is known what was held
unfoldable pub new_units_remarks : State → Made → List Said
new_units_remarks s m = units_beyond (units_held s.second.before) s m

-- a swap of BANDWIDTH_AVAILABLE
unfoldable pub units_remarks : State → Made → List Said
units_remarks s m = said m.cycle (Units m.by m.old m.new) ∷ (many_remarks m ++ new_units_remarks s m)

-- a channel was taken; in the second after a bus reset it may have been free before
unfoldable pub taken_remarks : State → Made → ℕ → ℕ → List Said
taken_remarks s m first at =
    said m.cycle (Takes m.by (first + at))
    ∷ (if is_new s.second.before m.at.register at then said m.cycle (NewInSecond m.by (first + at) (epoch_of s)) ∷ [] else [])

-- what a swap does to the channel at a bit
unfoldable pub change_remarks : State → Made → ℕ → ℕ → List Said
change_remarks s m first at =
    if bit_of m.old at
    then (if bit_of m.new at then [] else taken_remarks s m first at)
    else (if bit_of m.new at then said m.cycle (Returns m.by (first + at)) ∷ [] else [])

-- what it does to the channels at the first n bits
unfoldable pub changes_remarks : ℕ → State → Made → ℕ → List Said
changes_remarks zero s m first = []
changes_remarks (suc n) s m first = changes_remarks n s m first ++ change_remarks s m first n

-- how many bits differ with one more
abbrev pub next_count : ℕ → Bool → Bool → ℕ
next_count count true false = count + 1
next_count count false true = count + 1
next_count count true true = count
next_count count false false = count

-- how many of the first n bits differ
unfoldable pub changes_to : ℕ → ℕ → ℕ → ℕ
changes_to zero old new = 0
changes_to (suc n) old new = next_count (changes_to n old new) (bit_of old n) (bit_of new n)

-- a swap changes more than one channel
abbrev pub several_remarks : Made → List Said
several_remarks m = if nat_lt 1 (changes_to 32 m.old m.new) then said m.cycle (Several m.by (changes_to 32 m.old m.new)) ∷ [] else []

-- a swap of half of CHANNELS_AVAILABLE, whose first channel is this
unfoldable pub channels_remarks : State → Made → ℕ → List Said
channels_remarks s m first = changes_remarks 32 s m first ++ several_remarks m

-- a swap of a plug
unfoldable pub plug_remarks : Made → List Said
plug_remarks m =
    said m.cycle (Plug m.by m.at m.old m.new)
    ∷ (if is_move m.at.register m.old m.new then [] else said m.cycle (MoreThanMove m.by m.at m.old m.new) ∷ [])

-- a swap, by its register
abbrev pub remarks_by : WatchedRegister → State → Made → List Said
remarks_by Bandwidth s m = units_remarks s m
remarks_by ChannelsHigh s m = channels_remarks s m 0
remarks_by ChannelsLow s m = channels_remarks s m 32
remarks_by (Output number) s m = plug_remarks m
remarks_by (Input number) s m = plug_remarks m

-- a swap that was made
unfoldable pub swap_remarks : State → Made → List Said
swap_remarks s m = remarks_by m.at.register s m
