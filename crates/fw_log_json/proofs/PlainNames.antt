-- The names of the tables are plain.
use Rattle.fw_log_json.proofs.Common.{◌≡◌, ℕ, ◌^◌, ◌==◌, ◌&&◌, Bool, true, false, if◌then◌else◌, List, [], ◌∷◌, map, codes, Option, Some, None, refl, Packet, tcode_name, rcode_name, function_name}
use Rattle.fw_log_json.proofs.Common.{retry_name, port_name, format_name}
use Rattle.std.proofs.Common.{◌/◌}
use Rattle.std.specs.Option.{option_map}
use Rattle.fw_terms.specs.declared.device.DeviceKind.{DeviceKind}
use Rattle.fw_terms.specs.Devices.{kind_coded, name_of}
use Rattle.fw_terms.proofs.KindLaws.{name_letters}
use Rattle.fw_async.specs.declared.packet.Packet.TheVariants.{WriteQuadlet, WriteBlock, WriteReply, ReadQuadlet, ReadBlock, ReadQuadletReply, ReadBlockReply, CycleStart, Lock, LockReply}
use Rattle.fw_cip.specs.declared.packet.CipHeader.{CipHeader}
use Rattle.fw_text.specs.Names.{name_in, rows}
use Rattle.fw_log_names.specs.declared.bus.TheConstants.{SPEEDS, PORTS}
use Rattle.fw_log_names.specs.declared.entries.TheConstants.{KINDS, EVENTS, OUTCOMES, SYSTEMS}
use Rattle.fw_log_names.specs.declared.packets.TheConstants.{FUNCTIONS}
use Rattle.fw_log_names.specs.Names.{kind_name, speed_name, device_name, system_name, event_name, outcome_name}
use Rattle.fw_log_json.proofs.Told.{both_left, both_right}
use Rattle.fw_log_json.proofs.PlainLaws.{plain, letters, Named, word}

name : (bs : List ℕ) → plain bs ≡ true → Named (Some bs)
name bs e = record { is = word bs e }

none : Named None
none = record { is = tt }

choice : (b : Bool) {o p : Option (List ℕ)} → Named o → Named p → Named (if b then o else p)
choice true o p = o
choice false o p = p

abbrev all_plain : List (List ℕ) → Bool
all_plain [] = true
all_plain (n ∷ ns) = plain n && all_plain ns

in_table : (table : List (ℕ × List ℕ)) → all_plain (map (λ (r : ℕ × List ℕ). r.1) table) ≡ true → (code : ℕ) → Named (name_in table code)
in_table [] e code = none
in_table (r ∷ table) e code =
    let others : List (List ℕ) = map (λ (w : ℕ × List ℕ). w.1) table in
    choice (code == r.0) (name r.1 (both_left (plain r.1) (all_plain others) e)) (in_table table (both_right (plain r.1) (all_plain others) e) code)

pub kinds : (n : ℕ) → Named (kind_name n)
kinds n = in_table (rows KINDS) refl n

pub rcodes : (n : ℕ) → Named (rcode_name n)
rcodes n =
    (choice (n == 0) (name (codes "complete") refl)
    (choice (n == 4) (name (codes "conflict_error") refl)
    (choice (n == 5) (name (codes "data_error") refl)
    (choice (n == 6) (name (codes "type_error") refl)
    (choice (n == 7) (name (codes "address_error") refl) none)))))

pub functions : (n : ℕ) → Named (function_name n)
functions n = in_table (rows FUNCTIONS) refl n

pub retries : (n : ℕ) → Named (retry_name n)
retries n =
    (choice (n == 0) (name (codes "retry_1") refl)
    (choice (n == 1) (name (codes "retry_x") refl)
    (choice (n == 2) (name (codes "retry_a") refl)
    (choice (n == 3) (name (codes "retry_b") refl) none))))

pub speeds : (n : ℕ) → Named (speed_name n)
speeds n = in_table (rows SPEEDS) refl n

pub ports : (n : ℕ) → Named (port_name n)
ports n = in_table (rows PORTS) refl n

pub devices : (n : ℕ) → Named (device_name n)
devices n = by (kind_coded n)
  where
    by : (o : Option DeviceKind) → Named (option_map name_of o)
    by None = none
    by (Some kind) = name (name_of kind) (letters (name_of kind) (name_letters kind))

pub systems : (n : ℕ) → Named (system_name n)
systems n = in_table (rows SYSTEMS) refl n

pub formats : (c : CipHeader) → Named (format_name c)
formats c =
    choice (c.fmt == 0) (choice (c.fdf / 2 ^ 16 == 0) (name (codes "SD-DVCR 525-60") refl) (choice (c.fdf / 2 ^ 16 == 128) (name (codes "SD-DVCR 625-50") refl) none)) none

pub tcodes : (p : Packet) → Named (Some (tcode_name p))
tcodes (WriteQuadlet h offset value) = name (codes "write_quadlet_request") refl
tcodes (WriteBlock h offset bytes) = name (codes "write_block_request") refl
tcodes (WriteReply h rcode) = name (codes "write_response") refl
tcodes (ReadQuadlet h offset) = name (codes "read_quadlet_request") refl
tcodes (ReadBlock h offset len) = name (codes "read_block_request") refl
tcodes (ReadQuadletReply h rcode value) = name (codes "read_quadlet_response") refl
tcodes (ReadBlockReply h rcode bytes) = name (codes "read_block_response") refl
tcodes (CycleStart h offset time) = name (codes "cycle_start") refl
tcodes (Lock h offset function bytes) = name (codes "lock_request") refl
tcodes (LockReply h rcode function bytes) = name (codes "lock_response") refl

pub events : (code : ℕ) → Named (event_name code)
events code = in_table (map (λ r. (r.0, r.1.now)) EVENTS) refl code

pub outcomes : (code : ℕ) → Named (outcome_name code)
outcomes code = in_table (rows OUTCOMES) refl code
