-- What each word makes of a log.
use Rattle.std.specs.Prelude.{List}
use Rattle.fw_log_entry.specs.declared.entry.Timed.{Timed}
use Rattle.fw_log_json.specs.Objects.{object}
use Rattle.fw_log_text.specs.Line.{entry_line}
use Rattle.fw_log_text.specs.Report.{report_text}
use Rattle.fw_watch.specs.Watched.{watched_end}
use Rattle.fw_log_loop.specs.Readings.{Form, Rules, IsAccepted}
use Rattle.fw_log_reports.specs.Texts.{nothing, silent_form}
use Rattle.fw_log_words.specs.Texts.{each_form, explained_form, log_form}
use Rattle.fw_log_words.specs.Pages.{page_form}
use Rattle.fw_log_reports.specs.Watching.{watched_form}
use Rattle.fw_log_reports.specs.Silences.{never_refused}
use Rattle.fw_log_reports.specs.Verdicts.{audit_rules, sound_unrefused}
use Rattle.fw_log_reports.specs.Holdings.{holders_form, holders_rules, held_unrefused}
use Rattle.fw_log_reports.specs.Maps.{IsGraphOf, IsTextOf, map_rules, graph_rules, picture_unrefused}
use Rattle.fw_log_reports.specs.declared.refusal.LogRefusal.{LogRefusal}
use Rattle.fw_log_words.specs.declared.LogWord.{LogWord}
use Rattle.fw_log_words.specs.declared.LogWord.TheVariants.{Decode, Explain, Json, Page, Dv, Convert, Audit, Holders, Watch, Map, Graph}

-- what a word writes while a log is read
abbrev pub form_by : LogWord → Form
form_by Decode = each_form entry_line
form_by Explain = explained_form
form_by Json = each_form object
form_by Page = page_form
form_by Dv = silent_form
form_by (Convert v) = log_form v
form_by Audit = silent_form
form_by Holders = holders_form
form_by Watch = watched_form
form_by Map = silent_form
form_by Graph = silent_form

-- what it makes of entries besides
abbrev pub rules_by : LogWord → Rules LogRefusal
rules_by Decode = never_refused nothing
rules_by Explain = never_refused nothing
rules_by Json = never_refused nothing
rules_by Page = never_refused nothing
rules_by Dv = never_refused report_text
rules_by (Convert v) = never_refused nothing
rules_by Audit = audit_rules
rules_by Holders = holders_rules
rules_by Watch = never_refused watched_end
rules_by Map = map_rules
rules_by Graph = graph_rules

-- the logs that it does not refuse
abbrev pub Accepts : LogWord → List Timed → Type 0
Accepts word entries = (rules_by word).completes entries

-- so it refuses none of them
pub accepts_by : (word : LogWord) (entries : List Timed) → Accepts word entries → IsAccepted (rules_by word) entries
accepts_by Audit entries h = sound_unrefused entries h
accepts_by Holders entries h = held_unrefused entries h
accepts_by Map entries h = picture_unrefused IsTextOf entries h
accepts_by Graph entries h = picture_unrefused IsGraphOf entries h
accepts_by _ entries h = record { entry = λ prefix rest refusal is r. r; end = λ refusal r. r }
