-- Which account the tables of a ledger stand for.
use Rattle.fw_terms.specs.declared.plug.PlugAt.{PlugAt}
use Rattle.fw_log_entry.specs.declared.entry.ResetEntry.{ResetEntry}
use Rattle.fw_log_entry.specs.declared.nodes.NodeRow.{NodeRow}
use Rattle.std.specs.Prelude.{◌≡◌, ◌<◌, ℕ, ◌+◌, ◌-◌, ◌*◌, nat_lt, nat_le, slice_get, Bool, true}
use Rattle.std.specs.Prelude.{false, Option, Some, None, List, [], length, replicate, slice_index, slice_index_or, if◌then◌else◌, IsTrue}
use Rattle.fw_log_entry.specs.Network.{first_id}
use Rattle.std.specs.Option.{option_map}
use Rattle.fw_words.specs.Quadlet.{quadlet_at}
use Rattle.fw_words.specs.declared.swap.TheConstants.{COMPARE_SWAP}
use Rattle.fw_plug.specs.Words.{Settings, out_word, in_word}
use Rattle.fw_model_account.specs.Account.{Pending, Connected, Orphaned, Allocation, Owner, Of, Dead, Connections, Flow, Reads, Locks, Request, Account, total, is_open, is_there, counter}
use Rattle.fw_model_account.specs.Network.{is_output, is_input}
use Rattle.fw_model_account.specs.Packets.{is_quadlet_swap}
use Rattle.fw_model_account.specs.Words.{bits_word}
use Rattle.fw_model_account.specs.Sound.{IsSound}
use Rattle.fw_account_tables.specs.declared.tables.Charge.{Charge}
use Rattle.fw_account_tables.specs.declared.tables.Charge.TheVariants.{Free, Pending as PendingCharge, Connected as ConnectedCharge, Orphaned as OrphanedCharge}
use Rattle.fw_account_tables.specs.declared.tables.Reclaimable.{Reclaimable}
use Rattle.fw_account_tables.specs.declared.tables.Reclaimable.TheVariants.{Nothing as NoFlow, Flow as TheFlow}
use Rattle.fw_account_tables.specs.declared.tables.Addressed.{Addressed}
use Rattle.fw_account_tables.specs.declared.tables.Addressed.TheVariants.{Nowhere, Plug}
use Rattle.fw_account_tables.specs.declared.tables.Broadcaster.{Broadcaster}
use Rattle.fw_account_tables.specs.declared.tables.Broadcaster.TheVariants.{Nobody, Controller, Died}
use Rattle.fw_account_tables.specs.declared.tables.Seats.{Seats}
use Rattle.fw_account_tables.specs.declared.tables.Asked.{Asked}
use Rattle.fw_account_tables.specs.declared.tables.Asked.TheVariants.{Nothing as NotAsked, Read, Swap, Lock}
use Rattle.fw_account_tables.specs.declared.tables.Tables.{Tables}

-- ---- one place of a table

-- the allocation that a charge is
abbrev pub allocation_of : Charge → Option Allocation
allocation_of Free = None
allocation_of (PendingCharge controller plug units) = Some (record { holder = Pending controller plug; units = units })
allocation_of (ConnectedCharge plug units) = Some (record { holder = Connected plug; units = units })
allocation_of (OrphanedCharge plug units) = Some (record { holder = Orphaned plug; units = units })

-- the flow
abbrev pub flow_of : Reclaimable → Option Flow
flow_of NoFlow = None
flow_of (TheFlow plug units) = Some (record { plug = plug; units = units })

-- the plug that was addressed
abbrev pub plug_of : Addressed → Option PlugAt
plug_of Nowhere = None
plug_of (Plug p) = Some p

-- the owner of the broadcast connection
abbrev pub owner_of : Broadcaster → Option Owner
owner_of Nobody = None
owner_of (Controller c) = Some (Of c)
owner_of Died = Some Dead

-- the request
abbrev pub AskedFor : Asked → Option Request → Type 0
AskedFor NotAsked o = o ≡ None
AskedFor (Read target address) o = (o ≡ Some (record { target = target; address = address; operation = Reads }))
AskedFor (Swap target address swap) o =
    (bytes : List ℕ) × (o ≡ Some (record { target = target; address = address; operation = Locks COMPARE_SWAP bytes })) × (length bytes ≡ 8) × (swap.argument ≡ quadlet_at bytes 0)
    × (swap.new ≡ quadlet_at bytes 4)
AskedFor (Lock target address function) o =
    (bytes : List ℕ) × (o ≡ Some (record { target = target; address = address; operation = Locks function bytes })) × (is_quadlet_swap function bytes ≡ false)

-- there is a request
abbrev pub is_asked : Asked → Bool
is_asked NotAsked = false
is_asked (Read target address) = true
is_asked (Swap target address swap) = true
is_asked (Lock target address function) = true

-- whose the connections of a plug are
pub record SeatsFor (t : Seats) (s : Connections) : Type 0 where
  pub size : length t.counts ≡ 63
  pub counts : (c : ℕ) → c < 63 → slice_index t.counts c ≡ s.counts c
  pub broadcast : owner_of t.broadcaster ≡ s.broadcast

-- ---- tables

-- the place of a plug
abbrev pub place : PlugAt → ℕ
place p = p.device * 31 + p.plug

-- CHANNELS_AVAILABLE_HI if nothing is allocated
abbrev pub first_high : Bool → ℕ
first_high withheld = bits_word (λ i. is_open withheld (λ ch. None) (0 + i))

-- no connections: no counts, and nobody has the broadcast connection
abbrev pub no_seats : Seats
no_seats = record { counts = replicate 63 0; broadcaster = Nobody }

-- the charge of a channel
abbrev pub charge_at : List Charge → ℕ → Charge
charge_at charges ch = slice_index_or charges ch Free

-- the flow of a channel that may be allocated again
abbrev pub reclaimable_at : List Reclaimable → ℕ → Reclaimable
reclaimable_at flows ch = slice_index_or flows ch NoFlow

-- what a controller addressed last
abbrev pub addressed_at : List Addressed → ℕ → Addressed
addressed_at addressed c = slice_index_or addressed c Nowhere

-- the request of a controller
abbrev pub asked_at : List Asked → ℕ → Asked
asked_at asked c = slice_index_or asked c NotAsked

-- whose the connections of a plug are
abbrev pub seats_at : List Seats → PlugAt → Seats
seats_at seats p = slice_index_or seats (place p) no_seats

-- the word of a plug
abbrev pub word_at : List ℕ → PlugAt → ℕ
word_at words p = slice_index words (place p)

-- whether an output plug goes on talking
abbrev pub continues_at : List Bool → PlugAt → Bool
continues_at continues p = slice_index_or continues (place p) false

-- the row of the node with this node ID
abbrev pub row_at : List NodeRow → ℕ → Option NodeRow
row_at nodes id = if nat_le first_id id then slice_get nodes (id - first_id) else None

-- the device that has this node ID
abbrev pub device_at : List NodeRow → ℕ → Option ℕ
device_at nodes id = option_map (λ (row : NodeRow). row.device) (row_at nodes id)

-- the nodes and the manager of the latest reset entry
abbrev pub ShowsReset : Bool → Option ℕ → List NodeRow → Option ResetEntry → Type 0
ShowsReset started manager nodes None = (started ≡ false) × (manager ≡ None) × (nodes ≡ [])
ShowsReset started manager nodes (Some r) = (started ≡ true) × (manager ≡ r.manager) × (nodes ≡ r.nodes)

-- which plugs the latest reset entry has, by how many each device has
pub record PlugsFor (out_counts in_counts : List ℕ) (latest : Option ResetEntry) : Type 0 where
  pub outs : (p : PlugAt) → is_output latest p ≡ nat_lt p.plug (slice_index out_counts p.device)
  pub ins : (p : PlugAt) → is_input latest p ≡ nat_lt p.plug (slice_index in_counts p.device)

-- the registers of the resource manager, and what is allocated
pub record ResourcesFor (withheld : Bool) (units upper lower : ℕ) (table : List Charge) (allocations : ℕ → Option Allocation) : Type 0 where
  pub left : units ≡ 4915 - total allocations
  pub high : upper ≡ bits_word (λ i. is_open withheld allocations (0 + i))
  pub low : lower ≡ bits_word (λ i. is_open withheld allocations (32 + i))
  pub charges : (ch : ℕ) → ch < 64 → allocation_of (charge_at table ch) ≡ allocations ch

-- What goes on and what may be allocated again counts only while a reclaim second runs.
pub record SecondFor (reclaims : Bool) (flows : List Reclaimable) (goes_on : List Bool) (l : Account) : Type 0 where
  pub runs : reclaims ≡ l.reclaiming
  pub reclaimable : IsTrue reclaims → (ch : ℕ) → ch < 64 → flow_of (reclaimable_at flows ch) ≡ l.reclaimable ch
  pub continues : IsTrue reclaims → (p : PlugAt) → IsTrue (is_output l.latest p) → continues_at goes_on p ≡ l.continues p

-- each output plug of the latest reset entry: its word, and whose its connections are
pub record OutputsFor (registers : List ℕ) (table : List Seats) (latest : Option ResetEntry) (outputs : PlugAt → Connections) (settings : PlugAt → Settings) : Type 0 where
  pub words : (p : PlugAt) → IsTrue (is_output latest p) → word_at registers p ≡ out_word (record { broadcast = is_there (outputs p).broadcast; counter = counter (outputs p); settings = settings p })
  pub seats : (p : PlugAt) → IsTrue (is_output latest p) → SeatsFor (seats_at table p) (outputs p)

-- each input plug of the latest reset entry
pub record InputsFor (registers : List ℕ) (table : List Seats) (latest : Option ResetEntry) (inputs : PlugAt → Connections) (channel : PlugAt → ℕ) : Type 0 where
  pub words : (p : PlugAt) → IsTrue (is_input latest p) → word_at registers p ≡ in_word (record { broadcast = is_there (inputs p).broadcast; counter = counter (inputs p); channel = channel p })
  pub seats : (p : PlugAt) → IsTrue (is_input latest p) → SeatsFor (seats_at table p) (inputs p)

-- what each controller addressed and asked
pub record ControllersFor (plugs : List Addressed) (requests : List Asked) (latest : ℕ → Option PlugAt) (outstanding : ℕ → Option Request) : Type 0 where
  pub addressed : (c : ℕ) → c < 63 → plug_of (addressed_at plugs c) ≡ latest c
  pub asked : (c : ℕ) → c < 63 → AskedFor (asked_at requests c) (outstanding c)

-- the tables have their sizes
pub record HasSizes (t : Tables) : Type 0 where
  pub charges : length t.charges.items ≡ 64
  pub reclaimable : length t.reclaimable.items ≡ 64
  pub addressed : length t.addressed.items ≡ 63
  pub asked : length t.asked.items ≡ 63
  pub outputs : length t.outputs.items ≡ 1953
  pub inputs : length t.inputs.items ≡ 1953
  pub output_seats : length t.output_seats.items ≡ 1953
  pub input_seats : length t.input_seats.items ≡ 1953
  pub continues : length t.continues.items ≡ 1953

-- The tables stand for this account, which is sound. What they have at a plug counts only if the latest reset entry has
-- the plug.
pub record StandsFor (t : Tables) (l : Account) : Type 0 where
  pub sizes : HasSizes t
  pub latest : ShowsReset t.started t.manager t.nodes l.latest
  pub plugs : PlugsFor t.outs t.ins l.latest
  pub withheld : t.withheld ≡ l.withheld
  pub resources : ResourcesFor l.withheld t.left t.high t.low t.charges.items l.allocations
  pub second : SecondFor t.reclaiming t.reclaimable.items t.continues.items l
  pub outputs : OutputsFor t.outputs.items t.output_seats.items l.latest l.outputs l.settings
  pub inputs : InputsFor t.inputs.items t.input_seats.items l.latest l.inputs l.input_channel
  pub controllers : ControllersFor t.addressed.items t.asked.items l.addressed l.outstanding
  pub sound : IsSound l

-- they stand for some account
abbrev pub Stands : Tables → Type 0
Stands t = (l : Account) × StandsFor t l

-- The tables after an entry whose next account is this: if there is none they are unchanged, and the entry is refused.
abbrev pub Follows : Bool → Tables → Tables → Option Account → Type 0
Follows taken old new None = (taken ≡ false) × (new ≡ old)
Follows taken old new (Some m) = (taken ≡ true) × StandsFor new m
