-- Entries that are passed by their bodies: what is made of the entry that has the body.
use Rattle.std.proofs.Common.{◌≡◌, ℕ, List, [], ◌∷◌, ◌++◌, ap, sym, subst, ◌∙◌}
use Rattle.fw_log_entry.specs.declared.entry.Entry.{Entry}
use Rattle.fw_log_entry.specs.declared.entry.Timed.{Timed}
use Rattle.fw_log.specs.Passing.{PassesBody}
use Rattle.fw_log.specs.Reader.{State}
use Rattle.fw_log.specs.declared.passing.PassedBody.{PassedBody}
use Rattle.fw_log_loop.specs.Readings.{Passes}
use Rattle.fw_watch.specs.Watched.{watched, Watches, WatchState as WatchRoom}
use Rattle.fw_log_reports.specs.Watching.{watched_form}

-- the entry that was made is the one that was passed
pub made_is : (cycle : ℕ) (what : Entry) (t : Timed) → cycle ≡ t.cycle → what ≡ t.what → record { cycle = cycle; what = what } ≡ t
made_is cycle what t e f = ap (λ (n : ℕ). record t { cycle = n; what = what }) e ∙ ap (λ (w : Entry). record t { what = w }) f

pub watched_passes : (old new : WatchRoom) (entries : List Timed) (bytes : List ℕ) (reader : State) (p : PassedBody) (x : PassesBody entries bytes reader p) (what : Entry)
    → what ≡ x.entry.what → new.told.text ≡ old.told.text ++ watched entries (record { cycle = p.cycle; what = what } ∷ [])
    → Watches new (entries ++ record { cycle = p.cycle; what = what } ∷ []) → Passes watched_form.text (λ es. Watches new es) old.told.text new.told.text entries bytes reader
watched_passes old new entries bytes reader p x what same text watches =
    let made = made_is p.cycle what x.entry (sym x.cycle) same in
    let P : Timed → Type 0 = λ t. Watches new (entries ++ t ∷ []) in
    record {
      entry = x.entry;
      read = x.read;
      took = subst P made watches;
      gathered = text ∙ ap (λ (t : Timed). old.told.text ++ watched entries (t ∷ [])) made;
    }
