-- What words write whose report comes at a log's end.
use Rattle.std.proofs.Common.{ℕ, List, [], ◌++◌, refl}
use Rattle.std.specs.Prelude.{codes, decimal}
use Rattle.fw_audit.specs.Unjudged.{unjudged_text}
use Rattle.fw_log_entry.specs.declared.entry.Timed.{Timed}
use Rattle.fw_log_loop.specs.Readings.{Form, IsEach, bare_form}

-- no text
abbrev pub nothing : List Timed → List ℕ
nothing entries = []

-- `sound`, how many entries, and how many of them no audit judges, if any
unfoldable pub sound_text : ℕ → ℕ → List ℕ
sound_text entries unjudged = codes "sound " ++ decimal entries ++ unjudged_text unjudged ++ codes "\n"

-- nothing while the log is read
abbrev pub silent_form : Form
silent_form = bare_form [] (λ before more. [])

-- a word that writes nothing meanwhile has the empty text for each entry
pub silent_each : IsEach (silent_form.text)
silent_each = record { none = λ xs. refl; more = λ xs ys zs. refl }
