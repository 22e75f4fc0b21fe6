-- What entries say that are no packets, with names in place of numbers.
use Rattle.std.specs.Prelude.{ℕ, ◌==◌, List, [], ◌++◌, flat_map, codes, decimal, Option, Some, None, if◌then◌else◌}
use Rattle.fw_log_entry.specs.declared.codes.TheConstants.{NO_DEVICE}
use Rattle.fw_log_entry.specs.declared.codes.outcome.TheConstants as Outcomes
use Rattle.fw_log_entry.specs.declared.entry.EventEntry.{EventEntry}
use Rattle.fw_log_entry.specs.declared.entry.OutcomeEntry.{OutcomeEntry}
use Rattle.fw_log_entry.specs.declared.entry.ResetEntry.{ResetEntry}
use Rattle.fw_log_entry.specs.declared.entry.ShownEntry.{ShownEntry}
use Rattle.fw_log_names.specs.Names.{event_name, event_saying, outcome_name}
use Rattle.fw_text.specs.Texts.{named}
use Rattle.fw_log_registers.specs.Words.{place_text}
use Rattle.fw_log_explain.specs.Lines.{saying_text, tape_text, value_text, shown_place}
use Rattle.fw_trace_lines.specs.Jobs.{doing_text}
use Rattle.fw_trace_lines.specs.declared.job.TracedConnection.{TracedConnection}
use Rattle.fw_trace_names.specs.Names.{Naming, device_text, node_text, blank_device}
use Rattle.fw_trace_names.specs.Registers.{named_word}

-- the resource manager that a bus reset has found
unfoldable pub manager_text : Naming → Option ℕ → List ℕ
manager_text n None = codes "; no manager"
manager_text n (Some number) = codes "; manager " ++ node_text n number

-- a bus reset, with the names that it leaves: who began it, the nodes from the first to the root, and the resource manager
unfoldable pub reset_text : Naming → ResetEntry → List ℕ
reset_text n r =
    codes "bus reset " ++ decimal r.epoch ++ codes " by " ++ node_text n r.initiator ++ codes ":" ++ flat_map (blank_device n) n.nodes ++ manager_text n r.manager

-- the device of an event, if it has one
unfoldable pub event_device : Naming → ℕ → List ℕ
event_device n device = if device == NO_DEVICE then [] else blank_device n device

-- an event: its name, its device, and what it says
unfoldable pub event_text : Naming → EventEntry → List ℕ
event_text n e =
    codes "event " ++ named (event_name e.code) (codes "code") e.code ++ event_device n e.device ++ codes ": " ++ saying_text (event_saying e.code) ++ tape_text e

-- a missing device
unfoldable pub missing_text : Naming → ℕ → List ℕ
missing_text n device = codes ", missing device " ++ device_text n device

-- the value of an outcome: of a missing device its name
unfoldable pub outcome_value : Naming → ℕ → ℕ → List ℕ
outcome_value n code value = if code == Outcomes.ABSENT then missing_text n value else value_text code value

-- an outcome: whose it is, what its job did, and how that ended
unfoldable pub outcome_text : Naming → Option TracedConnection → OutcomeEntry → List ℕ
outcome_text n j o =
    device_text n o.device ++ doing_text o.code j ++ codes ", slot " ++ decimal o.slot ++ codes ": " ++ named (outcome_name o.code) (codes "code") o.code
    ++ outcome_value n o.code o.value

-- a shown word: its device, where it stands, and what it says
unfoldable pub shown_text : Naming → ShownEntry → List ℕ
shown_text n s = codes "shown " ++ device_text n s.device ++ codes " " ++ place_text (shown_place s) ++ named_word n (shown_place s) s.word
