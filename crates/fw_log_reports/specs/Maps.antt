-- What a map makes of a log.
use Rattle.std.proofs.Common.{◌≡◌, ℕ, List, Some, None, sym, subst, ◌∙◌}
use Rattle.std.specs.Prelude.{⊤}
use Rattle.fw_log_entry.specs.declared.entry.ResetEntry.{ResetEntry}
use Rattle.fw_log_entry.specs.declared.entry.Timed.{Timed}
use Rattle.fw_map.specs.declared.tree.Tree.{Tree}
use Rattle.fw_map.specs.Trees.{HasPackets}
use Rattle.fw_map.specs.Faults.{IsFault}
use Rattle.fw_map.specs.Texts.{IsTreeText}
use Rattle.fw_map.specs.Graphs.{graph_text}
use Rattle.fw_log_loop.specs.Readings.{Rules, IsAccepted}
use Rattle.fw_log_reports.specs.Trees.{last_reset}
use Rattle.fw_log_reports.specs.declared.refusal.NoMap.{NoMap}
use Rattle.fw_log_reports.specs.declared.refusal.NoMap.TheVariants.{NoReset, NoTree}
use Rattle.fw_log_reports.specs.declared.refusal.LogRefusal.{LogRefusal}
use Rattle.fw_log_reports.specs.declared.refusal.LogRefusal.TheVariants.{Map}

-- a tree has the packets of the log's last reset
pub record HasTree (entries : List Timed) : Type 0 where
  pub reset : ResetEntry
  pub last : last_reset entries ≡ Some reset
  pub tree : Tree
  pub packets : HasPackets reset tree

-- the text of a tree
abbrev pub IsTextOf : Tree → ResetEntry → List ℕ → Type 0
IsTextOf tree reset text = IsTreeText tree text

-- its graph, with the nodes of the reset whose packets it has
abbrev pub IsGraphOf : Tree → ResetEntry → List ℕ → Type 0
IsGraphOf tree reset text = text ≡ graph_text tree reset.nodes

-- the text shows the tree of the log's last reset
pub record HasPicture (Shows : Tree → ResetEntry → List ℕ → Type 0) (entries : List Timed) (text : List ℕ) : Type 0 where
  pub has : HasTree entries
  pub spelled : Shows has.tree has.reset text

-- the log has no reset, or no tree has the packets of its last one
abbrev pub IsNoMap : List Timed → NoMap → Type 0
IsNoMap entries NoReset = last_reset entries ≡ None
IsNoMap entries (NoTree fault) = (e : ResetEntry) × (last_reset entries ≡ Some e) × IsFault e fault × ((t : Tree) → HasPackets e t → ⊥)

-- a map refuses a log with that, and with nothing else
abbrev pub RefusesUnmapped : List Timed → LogRefusal → Type 0
RefusesUnmapped entries (Map no_map) = IsNoMap entries no_map
RefusesUnmapped entries _ = ⊥

-- at the end of a log the tree of its last reset is shown, or the log is refused
abbrev pub picture_rules : (Tree → ResetEntry → List ℕ → Type 0) → Rules LogRefusal
picture_rules Shows = record { accepts = λ entries. ⊤; rejects = λ entries refusal. ⊥; closes = HasPicture Shows; refuses = RefusesUnmapped; completes = HasTree }

-- as text
abbrev pub map_rules : Rules LogRefusal
map_rules = picture_rules IsTextOf

-- as a graph
abbrev pub graph_rules : Rules LogRefusal
graph_rules = picture_rules IsGraphOf

never_unmapped : (entries : List Timed) (m : NoMap) → HasTree entries → IsNoMap entries m → ⊥
never_unmapped entries NoReset h none = let e : Some h.reset ≡ None = sym h.last ∙ none in cc e
never_unmapped entries (NoTree fault) h none =
    let one : Some none.0 ≡ Some h.reset = sym none.1 ∙ h.last in
    let same : h.reset ≡ none.0 = cc one in
    let P : ResetEntry → Type 0 = λ e. HasPackets e h.tree in
    none.3 h.tree (subst P same h.packets)

never_refused_map : (entries : List Timed) (refusal : LogRefusal) → HasTree entries → RefusesUnmapped entries refusal → ⊥
never_refused_map entries (Map m) h r = never_unmapped entries m h r
never_refused_map entries _ h r = r

-- a log that has its tree is not refused, however it is shown
pub picture_unrefused : (Shows : Tree → ResetEntry → List ℕ → Type 0) (entries : List Timed) → HasTree entries → IsAccepted (picture_rules Shows) entries
picture_unrefused Shows entries h = record { entry = λ prefix rest m is r. r; end = λ refusal r. never_refused_map entries refusal h r }
