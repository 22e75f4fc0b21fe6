-- The tables after a bus reset.
use Rattle.fw_terms.specs.declared.plug.PlugAt.{PlugAt}
use Rattle.fw_log_entry.specs.declared.nodes.NodeRow.{NodeRow}
use Rattle.std.specs.Prelude.{◌≡◌, ◌<◌, ◌/◌, ◌%◌, ℕ, nat_lt, true, false, Option, List, length, slice_index, slice_index_or, if◌then◌else◌}
use Rattle.std.specs.List.{list_any}
use Rattle.fw_model_account.specs.Network.{is_output_of, is_input_of}
use Rattle.fw_account_tables.specs.Stands.{first_high}
use Rattle.fw_ledger.specs.Resets.{renewed_output, renewed_input, renewed_seats, goes_on, talker}
use Rattle.fw_account_tables.specs.Stands.{no_seats, charge_at, reclaimable_at, asked_at}
use Rattle.fw_account_tables.specs.declared.tables.Charge.TheVariants.{Free}
use Rattle.fw_account_tables.specs.declared.tables.Asked.TheVariants.{Nothing as NotAsked}
use Rattle.fw_account_tables.specs.declared.tables.Tables.{Tables}

-- the devices of these nodes have these numbers of output plugs
abbrev pub AreOuts : List NodeRow → List ℕ → Type 0
AreOuts nodes outs = (p : PlugAt) → list_any (is_output_of p) nodes ≡ nat_lt p.plug (slice_index outs p.device)

-- the tables of plugs after a bus reset to these nodes, if devices with new plugs have these speeds
pub record HasNewPlugs (t : Tables) (nodes : List NodeRow) (rates : List ℕ) (new : Tables) : Type 0 where
  pub outs : AreOuts nodes new.outs
  pub ins : (p : PlugAt) → list_any (is_input_of p) nodes ≡ nat_lt p.plug (slice_index new.ins p.device)
  pub output_size : length new.outputs.items ≡ 1953
  pub outputs : (k : ℕ) → k < 1953 → slice_index new.outputs.items k ≡ renewed_output t.outs new.outs rates (k / 31) (k % 31) (slice_index t.outputs.items k)
  pub input_size : length new.inputs.items ≡ 1953
  pub inputs : (k : ℕ) → k < 1953 → slice_index new.inputs.items k ≡ renewed_input t.ins new.ins (k / 31) (k % 31) (slice_index t.inputs.items k)
  pub output_seat_size : length new.output_seats.items ≡ 1953
  pub output_seats : (k : ℕ) → k < 1953 → slice_index_or new.output_seats.items k no_seats
      ≡ renewed_seats t.outs new.outs (k / 31) (k % 31) (slice_index t.outputs.items k) (slice_index_or t.output_seats.items k no_seats)
  pub input_seat_size : length new.input_seats.items ≡ 1953
  pub input_seats : (k : ℕ) → k < 1953 → slice_index_or new.input_seats.items k no_seats
      ≡ renewed_seats t.ins new.ins (k / 31) (k % 31) (slice_index t.inputs.items k) (slice_index_or t.input_seats.items k no_seats)
  pub continue_size : length new.continues.items ≡ 1953
  pub continues : (k : ℕ) → k < 1953 → slice_index_or new.continues.items k false
      ≡ goes_on t.outs new.outs t.reclaiming (k / 31) (k % 31) (slice_index t.outputs.items k) (slice_index_or t.continues.items k false)

-- the tables after a bus reset to these nodes, of which this is the resource manager
pub record IsRenewed (t : Tables) (manager : Option ℕ) (nodes : List NodeRow) (rates : List ℕ) (new : Tables) : Type 0 where
  pub latest : (new.started ≡ true) × (new.manager ≡ manager) × (new.nodes ≡ nodes)
  pub reclaiming : new.reclaiming ≡ t.started
  pub withheld : new.withheld ≡ t.withheld
  pub words : (new.left ≡ 4915) × (new.high ≡ first_high t.withheld) × (new.low ≡ 4294967295)
  pub plugs : HasNewPlugs t nodes rates new
  pub charge_size : length new.charges.items ≡ 64
  pub charges : (ch : ℕ) → ch < 64 → charge_at new.charges.items ch ≡ Free
  pub flow_size : length new.reclaimable.items ≡ 64
  pub flows : (ch : ℕ) → ch < 64
      → reclaimable_at new.reclaimable.items ch ≡ (if t.reclaiming then reclaimable_at t.reclaimable.items ch else talker (charge_at t.charges.items ch))
  pub addressed : new.addressed ≡ t.addressed
  pub asked_size : length new.asked.items ≡ 63
  pub asked : (c : ℕ) → c < 63 → asked_at new.asked.items c ≡ NotAsked
