-- What a swap does that is a move, by its register and its two words.
use Rattle.std.specs.Prelude.{◌≡◌, ⊤, ℕ, ◌+◌, ◌-◌, ◌==◌, ◌&&◌, nat_lt, Bool, Option, Some, None, if◌then◌else◌}
use Rattle.fw_terms.specs.declared.plug.PlugAt.{PlugAt}
use Rattle.fw_terms.specs.declared.plug.ConnectionKind.{ConnectionKind}
use Rattle.fw_words.specs.Quadlet.{field, quadlet_at}
use Rattle.fw_plug.specs.Words.{is_connected, out_fields, in_fields}
use Rattle.fw_log_entry.specs.declared.entry.ResetEntry.{ResetEntry}
use Rattle.fw_model_account.specs.Account.{Operation, Reads, Locks, Request}
use Rattle.fw_model_account.specs.Decode.{changed_bit, is_more, kind_of}
use Rattle.fw_model_account.specs.Packets.{Reply, Read, Locked, is_quadlet_swap}
use Rattle.fw_model_account.specs.Words.{Register, BandwidthAvailable, ChannelsAvailable, OutputPlug, InputPlug, register_of}
use Rattle.fw_holders_text.specs.declared.deed.Deed.{Deed}
use Rattle.fw_holders_text.specs.declared.deed.Deed.TheVariants.{TakesChannel, TakesUnits, GivesUnits, GivesChannel, Connects, Adds, Leaves}
use Rattle.fw_holders_text.specs.declared.names.Side.{Side}
use Rattle.fw_holders_text.specs.declared.names.Side.TheVariants.{Output, Input}
use Rattle.fw_model_audit.specs.Looked.{quadlet_in}
use Rattle.fw_holders.specs.Counts.{shows}

-- units that are taken or given back
abbrev pub units_deed : ℕ → ℕ → Deed
units_deed arg new = if nat_lt new arg then TakesUnits (arg - new) else GivesUnits (new - arg)

-- the channel whose bit was 1 is taken, one whose bit was 0 given back
abbrev pub channel_deed : ℕ → ℕ → Option ℕ → Option Deed
channel_deed base arg None = None
channel_deed base arg (Some i) = if field arg i i == 1 then Some (TakesChannel (base + i)) else Some (GivesChannel (base + i))

-- the connection of a plug that is made or broken
abbrev pub connection_deed : Side → PlugAt → ConnectionKind → Bool → Bool → Deed
connection_deed side p kind more connected = if more then (if connected then Adds side p kind else Connects side p kind) else Leaves side p kind

-- at a register
abbrev pub word_deed : Register → ℕ → ℕ → Option Deed
word_deed BandwidthAvailable arg new = Some (units_deed arg new)
word_deed (ChannelsAvailable base) arg new = channel_deed base arg (changed_bit arg new)
word_deed (OutputPlug p) arg new =
    Some (connection_deed Output p (kind_of (out_fields arg).broadcast (out_fields new).broadcast) (is_more (out_fields arg).broadcast (out_fields arg).counter
    (out_fields new).broadcast (out_fields new).counter) (is_connected arg))
word_deed (InputPlug p) arg new =
    Some (connection_deed Input p (kind_of (in_fields arg).broadcast (in_fields new).broadcast) (is_more (in_fields arg).broadcast (in_fields arg).counter (in_fields new).broadcast
    (in_fields new).counter) (is_connected arg))

-- at a register of the account, or elsewhere
abbrev pub swap_deed : Option Register → ℕ → ℕ → Option Deed
swap_deed None arg new = None
swap_deed (Some register) arg new = word_deed register arg new

-- by what was asked
abbrev pub operation_deed : Option ResetEntry → Request → Operation → ℕ → Option ℕ → Option Deed
operation_deed latest q Reads rcode shown = None
operation_deed latest q (Locks function bytes) rcode shown =
    if is_quadlet_swap function bytes && (rcode == 0) && shows shown (quadlet_at bytes 0) then swap_deed (register_of latest q.target q.address) (quadlet_at bytes 0) (quadlet_at bytes 4) else None

-- what a complete response does that shows the argument of a compare_swap
abbrev pub answer_deed : Option ResetEntry → Request → ℕ → Option ℕ → Option Deed
answer_deed latest q rcode shown = operation_deed latest q q.operation rcode shown

-- a reply has the response code and the quadlet of its response
abbrev pub HasReply : Reply → ℕ → Option ℕ → Type 0
HasReply Read rcode word = ⊤
HasReply (Locked function code old) rcode word = (code ≡ rcode) × (word ≡ quadlet_in old)
