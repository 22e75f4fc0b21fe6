-- What is made of the end of a log, by what is written there.
use Rattle.std.proofs.Common.{◌≡◌, ℕ, List, Ok, Err, string_bytes, subst}
use Rattle.fw_log_entry.specs.declared.entry.Timed.{Timed}
use Rattle.fw_log_loop.specs.Readings.{Rules, Closes, closing_of}
use Rattle.fw_log_loop.specs.declared.ending.Closing.{Closing}
use Rattle.fw_log_loop.specs.declared.ending.Closing.TheVariants.{Text, Bytes, Refused}

pub closed_by : {R : Type 0} (rules : Rules R) (entries : List Timed) (x : Closing R) (bytes : List ℕ) → closing_of x ≡ Ok bytes → Closes rules entries x → rules.closes entries bytes
closed_by rules entries (Text text) bytes is h = let same : string_bytes text ≡ bytes = cc is in subst (rules.closes entries) same h
closed_by rules entries (Bytes given) bytes is h = let same : given.items ≡ bytes = cc is in subst (rules.closes entries) same h
closed_by rules entries (Refused refusal) bytes is h = cc is

pub refused_by : {R : Type 0} (rules : Rules R) (entries : List Timed) (x : Closing R) (refusal : R) → closing_of x ≡ Err refusal → Closes rules entries x → rules.refuses entries refusal
refused_by rules entries (Text text) refusal is h = cc is
refused_by rules entries (Bytes given) refusal is h = cc is
refused_by rules entries (Refused given) refusal is h = let same : given ≡ refusal = cc is in subst (rules.refuses entries) same h
