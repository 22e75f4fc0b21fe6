-- Deeds of time, of tapes and of streams (IEEE 1394-1995, cycle start; IEC 61883-1 and -2).
use Rattle.std.specs.Prelude.{ℕ, ◌≡◌, ◌+◌, ◌^◌, ◌<◌, ◌≤◌, length, Option, Some, None, is_some, IsTrue}
use Rattle.fw_terms.specs.declared.plug.PlugAt.{PlugAt}
use Rattle.fw_log_entry.specs.declared.entry.Entry.TheVariants.{Async, Iso}
use Rattle.fw_log_entry.specs.declared.entry.ResetEntry.{ResetEntry}
use Rattle.fw_tape.specs.declared.system.TapeSystem.{TapeSystem}
use Rattle.fw_tape.specs.Motion.{inserted}
use Rattle.fw_order.specs.declared.limits.TheConstants.{MOST_WRITTEN_CYCLES}
use Rattle.fw_model_account.specs.Account.{talks}
use Rattle.fw_model_run.specs.Afterwards.{after_cycles, after_second, with_cassette}
use Rattle.fw_model_run.specs.Entries.{second_over, inserted as inserted_entry, ejected}
use Rattle.fw_model_run.specs.State.{State, has_deck}
use Rattle.fw_model_run.specs.Streams.{GivenBlock, GivesBlock, bytes_of, cycle_start, stream_packet}
use Rattle.fw_model_run.specs.Deed.{Deed, silent, saying}

-- ---- time

-- cycle numbers are at most 2 to the power 52, and the second of the latest bus reset, if it runs, is not over within these cycles
pub record MayPass (s : State) (cycles : ℕ) : Type 0 where
  pub fits : s.clock.cycle + cycles ≤ 2 ^ 52
  pub within : IsTrue s.account.reclaiming → s.clock.cycle + cycles < s.clock.over_at

-- cycles go by
abbrev pub passing : State → ℕ → Deed
passing s cycles = silent s (MayPass s cycles) (after_cycles s cycles)

-- the second runs, and is over in the next cycle
pub record MayEndSecond (s : State) : Type 0 where
  pub fits : s.clock.cycle + 1 ≤ 2 ^ 52
  pub runs : IsTrue s.account.reclaiming
  pub over : s.clock.cycle + 1 ≡ s.clock.over_at

-- the second is over as the cycle number passes to the next cycle, so that is the cycle in which it is written
abbrev pub ending_second : State → Deed
ending_second s = record { may = MayEndSecond s; cycle = s.clock.cycle + 1; says = Some second_over; after = after_cycles (after_second s) 1 }

-- ---- tapes

-- a deck or a camcorder, on the bus or off, and a tape's number
pub record MayInsert (s : State) (d tape : ℕ) : Type 0 where
  pub declared : d < length s.declared.names
  pub deck : IsTrue (has_deck s d)
  pub fits : tape < 2 ^ 16

-- a tape goes into a deck
abbrev pub inserting : State → ℕ → ℕ → TapeSystem → Deed
inserting s d tape system = saying s (MayInsert s d tape) (inserted_entry d tape system) (with_cassette s d (Some (inserted tape system)))

-- a deck or a camcorder with a tape
pub record MayEject (s : State) (d : ℕ) : Type 0 where
  pub declared : d < length s.declared.names
  pub deck : IsTrue (has_deck s d)
  pub tape : IsTrue (is_some (s.decks d).unit.tape)

-- the tape goes out of a deck
abbrev pub ejecting : State → ℕ → Deed
ejecting s d = saying s (MayEject s d) (ejected d) (with_cassette s d None)

-- ---- cycles that are written

-- one more may be written, on a bus whose latest bus reset this is
pub record MayStartCycle (s : State) (e : ResetEntry) : Type 0 where
  pub few : s.written < MOST_WRITTEN_CYCLES
  pub latest : s.account.latest ≡ Some e

-- the root writes the cycle start of the cycle that has come
abbrev pub starting_cycle : State → ResetEntry → Deed
starting_cycle s e = saying s (MayStartCycle s e) (Async (cycle_start e.root s.clock.cycle)) (record s { written = s.written + 1 })

-- the plug talks, and its tape gives this block in the cycle that has come, or none
pub record MaySendPacket (s : State) (p : PlugAt) (block : Option GivenBlock) : Type 0 where
  pub talks : IsTrue (talks s.account p)
  pub gives : GivesBlock s p block

-- an output plug sends its packet of the cycle: what it has sent is counted as the cycle comes
abbrev pub sending_packet : State → PlugAt → Option GivenBlock → Deed
sending_packet s p block = saying s (MaySendPacket s p block) (Iso (stream_packet s p (bytes_of block))) s
