-- What `watch` writes of entries as they end, and that it is the lines of each of them, one after another.
use Rattle.std.proofs.Common.{[], refl}
use Rattle.fw_watch.specs.Watched.{watched}
use Rattle.fw_watch.proofs.WatchLaws.{watched_more}
use Rattle.fw_log_loop.specs.Readings.{Form, IsEach, bare_form}

-- the lines that entries give as they end, after these
abbrev pub watched_form : Form
watched_form = bare_form [] watched

-- what `watch` writes is the lines of each entry, over the entries before it
pub watched_each : IsEach (watched_form.text)
watched_each = record { none = λ xs. refl; more = watched_more }
