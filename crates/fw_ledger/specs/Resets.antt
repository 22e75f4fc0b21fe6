-- What a bus reset does to the places of the tables.
use Rattle.fw_terms.specs.declared.plug.PlugAt.{PlugAt}
use Rattle.fw_log_entry.specs.declared.entry.ResetEntry.{ResetEntry}
use Rattle.fw_log_entry.specs.declared.nodes.NodeRow.{NodeRow}
use Rattle.fw_phy.specs.declared.packet.PhyPacket.{PhyPacket}
use Rattle.std.specs.Prelude.{◌≡◌, ◌<◌, ◌≤◌, ℕ, nat_lt, Bool, true, false, not, ◌&&◌, ◌||◌, Option, List, slice_index, if◌then◌else◌, IsTrue}
use Rattle.std.specs.List.{list_any}
use Rattle.fw_plug.specs.Words.{is_connected, out_word, in_word}
use Rattle.fw_plug.specs.Plugs.{disconnected}
use Rattle.fw_log_entry.specs.Network.{speed_of, node_of_device}
use Rattle.fw_model_account.specs.Network.{is_output, is_output_of}
use Rattle.fw_account_tables.specs.declared.tables.Charge.{Charge}
use Rattle.fw_account_tables.specs.declared.tables.Charge.TheVariants.{Free, Pending, Connected, Orphaned}
use Rattle.fw_account_tables.specs.declared.tables.Reclaimable.{Reclaimable}
use Rattle.fw_account_tables.specs.declared.tables.Reclaimable.TheVariants.{Nothing, Flow}
use Rattle.fw_account_tables.specs.declared.tables.Seats.{Seats}
use Rattle.fw_account_tables.specs.Stands.{no_seats}

-- the word of a new output plug of a device with this speed
abbrev pub first_output : ℕ → ℕ
first_output rate = out_word (record { broadcast = false; counter = 0; settings = record { channel = 63; rate = rate; overhead = 0 } })

-- the word of a new input plug
abbrev pub first_input : ℕ
first_input = in_word (record { broadcast = false; counter = 0; channel = 63 })

-- the speed of a device
abbrev pub rate_of : List NodeRow → List PhyPacket → ℕ → ℕ
rate_of nodes ids d = speed_of (node_of_device nodes d) ids

-- these are the speeds of the devices that have more output plugs now than before; those of the others do not count
abbrev pub AreRates : List ℕ → List ℕ → List NodeRow → List PhyPacket → List ℕ → Type 0
AreRates before now nodes ids rates =
    (d n : ℕ) → nat_lt n (slice_index now d) ≡ true → nat_lt n (slice_index before d) ≡ false → slice_index rates d ≡ rate_of nodes ids d

-- no device has more plugs now than before
abbrev pub GainsNone : List ℕ → List ℕ → Type 0
GainsNone before now = (d : ℕ) → slice_index now d ≤ slice_index before d

-- some device has
abbrev pub GainsSome : List ℕ → List ℕ → Type 0
GainsSome before now = (d : ℕ) × (slice_index before d < slice_index now d)

-- each output plug of these nodes is one of the latest reset entry, so that none is new
abbrev pub HasNoNewOutput : Option ResetEntry → List NodeRow → Type 0
HasNoNewOutput latest nodes = (p : PlugAt) → IsTrue (list_any (is_output_of p) nodes) → IsTrue (is_output latest p)

-- the word of output plug n of device d, if the devices had these numbers of plugs, and have these now, and have these speeds; of a
-- plug that is not there now it is not looked at
abbrev pub renewed_output : List ℕ → List ℕ → List ℕ → ℕ → ℕ → ℕ → ℕ
renewed_output before now rates d n word =
    if nat_lt n (slice_index now d) then (if nat_lt n (slice_index before d) then disconnected word else first_output (slice_index rates d)) else word

-- the word of input plug n of device d, likewise
abbrev pub renewed_input : List ℕ → List ℕ → ℕ → ℕ → ℕ → ℕ
renewed_input before now d n word = if nat_lt n (slice_index now d) then (if nat_lt n (slice_index before d) then disconnected word else first_input) else word

-- whose the connections of a plug are that had this word, likewise: one whose word shows no connection has none to lose
abbrev pub renewed_seats : List ℕ → List ℕ → ℕ → ℕ → ℕ → Seats → Seats
renewed_seats before now d n word seats =
    if nat_lt n (slice_index now d) then (if nat_lt n (slice_index before d) && not (is_connected word) then seats else no_seats) else seats

-- whether an output plug goes on talking, likewise
abbrev pub goes_on : List ℕ → List ℕ → Bool → ℕ → ℕ → ℕ → Bool → Bool
goes_on before now runs d n word continues = if nat_lt n (slice_index now d) then nat_lt n (slice_index before d) && (is_connected word || (runs && continues)) else continues

-- the flow of a channel that may be allocated again
abbrev pub talker : Charge → Reclaimable
talker Free = Nothing
talker (Pending c plug units) = Nothing
talker (Connected plug units) = Flow plug units
talker (Orphaned plug units) = Nothing
