-- What `convert` did with a log.
use Rattle.std.specs.Prelude.{ℕ, List, [], Some}
use Rattle.std.specs.declared.option.Option.{Option}
use Rattle.fw_log_entry.specs.declared.version.Version.{Version}
use Rattle.fw_log_loop.specs.Endings.{Reads}
use Rattle.fw_log_loop.specs.declared.ending.LogEnding.TheVariants.{Done}
use Rattle.fw_log_words.specs.Words.{form_by, rules_by}
use Rattle.fw_log_words.specs.declared.LogWord.TheVariants.{Convert}

-- a source told these bytes, a call read them to the end as a log, and wrote those to an empty sink
abbrev pub Converts : Version → List ℕ → List ℕ → Type 0
Converts v bytes out = (left : Option (List ℕ)) × Reads (form_by (Convert v)) (rules_by (Convert v)) (Some bytes) left (Some []) (Some out) Done
