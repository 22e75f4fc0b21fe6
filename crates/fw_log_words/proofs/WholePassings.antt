-- Entries that are passed by their bodies: what is made of the entry that has the body.
use Rattle.std.proofs.Common.{◌≡◌, ℕ, List, [], ◌∷◌, ◌++◌, refl, ap, sym, ◌∙◌}
use Rattle.std.proofs.lemmas.List.{append-nil}
use Rattle.fw_log_entry.specs.declared.entry.Entry.{Entry}
use Rattle.fw_log_entry.specs.declared.entry.Timed.{Timed}
use Rattle.fw_log.specs.Passing.{PassesBody}
use Rattle.fw_log.specs.Reader.{State}
use Rattle.fw_log.specs.declared.passing.PassedBody.{PassedBody}
use Rattle.fw_log_loop.specs.Readings.{Passes}
use Rattle.fw_log_text.specs.Line.{entry_line}
use Rattle.fw_log_json.specs.Objects.{object}
use Rattle.fw_log_explain.specs.Explained.{explained, ExplainerState}
use Rattle.fw_log_explain.specs.Lines.{line}
use Rattle.fw_log_requests.specs.Requests.{standing, standing_after}
use Rattle.fw_log_requests.specs.declared.asked.Asked.{Asked}
use Rattle.fw_log_explain.proofs.StandingLaws.{standing_more}
use Rattle.fw_log_reports.proofs.WholePassings.{made_is}
use Rattle.fw_log_words.specs.Texts.{each_form, explained_form, all_of_one}

pub object_passes : (room new : List ℕ) (entries : List Timed) (bytes : List ℕ) (reader : State) (p : PassedBody) (x : PassesBody entries bytes reader p) (what : Entry)
    → what ≡ x.entry.what → new ≡ room ++ object (record { cycle = p.cycle; what = what }) → Passes (each_form object).text (λ es. Unit {0}) room new entries bytes reader
object_passes room new entries bytes reader p x what same is =
    let made = made_is p.cycle what x.entry (sym x.cycle) same in
    record { entry = x.entry; read = x.read; took = tt; gathered = is ∙ ap (λ (t : Timed). room ++ object t) made ∙ ap (λ (l : List ℕ). room ++ l) (all_of_one object x.entry) }

pub explained_passes : (old new : ExplainerState) (entries : List Timed) (bytes : List ℕ) (reader : State) (p : PassedBody) (x : PassesBody entries bytes reader p) (what : Entry)
    → what ≡ x.entry.what → new.text ≡ old.text ++ explained entries (record { cycle = p.cycle; what = what } ∷ [])
    → new.requests ≡ standing (entries ++ record { cycle = p.cycle; what = what } ∷ []) → Passes explained_form.text (λ es. new.requests ≡ standing es) old.text new.text entries bytes reader
explained_passes old new entries bytes reader p x what same text requests =
    let made = made_is p.cycle what x.entry (sym x.cycle) same in
    record {
      entry = x.entry;
      read = x.read;
      took = requests ∙ ap (λ (t : Timed). standing (entries ++ t ∷ [])) made;
      gathered = text ∙ ap (λ (t : Timed). old.text ++ explained entries (t ∷ [])) made;
    }

-- by the line of the entry, and the outstanding requests after it
pub told_passes : (old new : ExplainerState) (entries : List Timed) (bytes : List ℕ) (reader : State) (p : PassedBody) (x : PassesBody entries bytes reader p) → old.requests ≡ standing entries
    → new.text ≡ old.text ++ line old.requests (record { cycle = p.cycle; what = x.entry.what }) → new.requests ≡ standing_after x.entry.what old.requests
    → Passes explained_form.text (λ es. new.requests ≡ standing es) old.text new.text entries bytes reader
told_passes old new entries bytes reader p x took text requests =
    let t : Timed = record { cycle = p.cycle; what = x.entry.what } in
    let told = text ∙ ap (λ (l : List Asked). old.text ++ line l t) took ∙ ap (λ (l : List ℕ). old.text ++ l) (sym (append-nil (line (standing entries) t))) in
    explained_passes old new entries bytes reader p x x.entry.what refl told (requests ∙ ap (standing_after x.entry.what) took ∙ sym (standing_more entries t))

pub line_passes : (room new : List ℕ) (entries : List Timed) (bytes : List ℕ) (reader : State) (p : PassedBody) (x : PassesBody entries bytes reader p)
    → new ≡ room ++ entry_line (record { cycle = p.cycle; what = x.entry.what }) → Passes (each_form entry_line).text (λ es. Unit {0}) room new entries bytes reader
line_passes room new entries bytes reader p x is =
    let cycle = ap (λ (n : ℕ). entry_line (record { cycle = n; what = x.entry.what })) (sym x.cycle) in
    record { entry = x.entry; read = x.read; took = tt; gathered = is ∙ ap (λ (l : List ℕ). room ++ l) (cycle ∙ all_of_one entry_line x.entry) }
