-- One entry more in a version.
use Rattle.std.proofs.Common.{◌≡◌, ℕ, ◌≤◌, ◌/◌, Bool, true, false, if◌then◌else◌, List, [], ◌∷◌, ◌++◌, length, arith, refl, ap, sym, ◌∙◌}
use Rattle.std.proofs.lemmas.List.{append-nil}
use Rattle.fw_words.specs.Layout.{packed}
use Rattle.fw_log_entry.specs.Log.{body, epoch_after, event_quads, kind_of, latest_epoch, entry_bytes, entry_head, outcome_quads, shown_quads}
use Rattle.fw_log_entry.specs.Rows.{event_form, has_tape}
use Rattle.fw_log_entry.specs.declared.entry.Entry.{Entry}
use Rattle.fw_log_entry.specs.declared.entry.Entry.TheVariants.{Reset, Async, Iso, Event, Outcome, Shown, End}
use Rattle.fw_log_entry.specs.declared.entry.EventEntry.{EventEntry}
use Rattle.fw_log_entry.specs.declared.entry.Timed.{Timed}
use Rattle.fw_log_entry.proofs.LogLaws.{latest_append}
use Rattle.fw_log_entry.proofs.SizeLaws.{iso_few, length-quads, length-reset}
use Rattle.fw_log.specs.Passing.{HasBody, IsAnnotation, PassesBody, PassesAnnotation}
use Rattle.fw_log.specs.Reader.{State}
use Rattle.fw_log.specs.declared.annotation.PassedAnnotation.{PassedAnnotation}
use Rattle.fw_log.specs.declared.passing.PassedBody.{PassedBody}
use Rattle.fw_log.specs.declared.plain.PlainBody.TheVariants as Bodies
use Rattle.fw_log_loop.specs.Readings.{Passes}
use Rattle.fw_log_words.specs.Texts.{Rewritten, log_form}
use Rattle.fw_log_reports.proofs.WholePassings.{made_is}

pub rewritten : (old new : Rewritten) (entries : List Timed) (t : Timed) → old.epoch ≡ latest_epoch 0 entries → new.epoch ≡ epoch_after old.epoch t.what
    → new.bytes ≡ old.bytes ++ entry_bytes old.version (epoch_after old.epoch t.what) t
    → (new.epoch ≡ latest_epoch 0 (entries ++ t ∷ [])) × (new.bytes ≡ old.bytes ++ (log_form old.version).text entries (t ∷ []))
rewritten old new entries t before epoch bytes = (
  epoch ∙ ap (λ (n : ℕ). epoch_after n t.what) before ∙ sym (latest_append 0 entries (t ∷ [])),
  bytes ∙ ap (λ (n : ℕ). old.bytes ++ entry_bytes old.version (epoch_after n t.what) t) before
      ∙ ap (λ (x : List ℕ). old.bytes ++ x) (sym (append-nil (entry_bytes old.version (epoch_after (latest_epoch 0 entries) t.what) t))),
)

-- ---- an entry whose body is copied

-- no body is longer than that of a reset
pub few_iso : (bytes : List ℕ) (e : Entry) → HasBody (Bodies.Iso bytes) e → length bytes ≤ 2276
few_iso bytes e made = omega (arith, iso_few made.0 made.2, ap length made.3)

pub few_reset : (bytes : List ℕ) (e : Entry) → HasBody (Bodies.Reset bytes) e → length bytes ≤ 2276
few_reset bytes e made = omega (arith, length-reset made.0, ap length made.3, made.2.few, made.2.few_packets)

pub rewritten_passes : (old new : Rewritten) (entries : List Timed) (bytes : List ℕ) (reader : State) (p : PassedBody) (x : PassesBody entries bytes reader p)
    → old.epoch ≡ latest_epoch 0 entries → new.epoch ≡ epoch_after old.epoch x.entry.what
    → new.bytes ≡ old.bytes ++ entry_bytes old.version (epoch_after old.epoch x.entry.what) (record { cycle = p.cycle; what = x.entry.what })
    → Passes (log_form old.version).text (λ es. new.epoch ≡ latest_epoch 0 es) old.bytes new.bytes entries bytes reader
rewritten_passes old new entries bytes reader p x before epoch is =
    let made = made_is p.cycle x.entry.what x.entry (sym x.cycle) refl in
    let all = rewritten old new entries x.entry before epoch (is ∙ ap (λ (t : Timed). old.bytes ++ entry_bytes old.version (epoch_after old.epoch x.entry.what) t) made) in
    record { entry = x.entry; read = x.read; took = all.0; gathered = all.1 }

-- ---- an annotation

few_event : (e : EventEntry) → length (body (Event e)) ≤ 8
few_event e = omega (arith, length-quads (event_quads e), by (has_tape (event_form e.code)))
  where
    by : (b : Bool) → length (if b then packed ((16, e.tape) ∷ (16, e.system) ∷ []) 0 ∷ [] else []) ≤ 1
    by true = omega arith
    by false = omega arith

pub few_annotation : (e : Entry) → IsAnnotation e → length (body e) ≤ 8
few_annotation (Reset r) h = absurd h
few_annotation (Async p) h = absurd h
few_annotation (Iso p) h = absurd h
few_annotation (Event x) h = few_event x
few_annotation (Outcome o) h = omega (arith, length-quads (outcome_quads o))
few_annotation (Shown s) h = omega (arith, length-quads (shown_quads s))
few_annotation End h = absurd h

annotation_epoch : (epoch : ℕ) (e : Entry) → IsAnnotation e → epoch_after epoch e ≡ epoch
annotation_epoch epoch (Reset r) h = absurd h
annotation_epoch epoch (Async p) h = absurd h
annotation_epoch epoch (Iso p) h = absurd h
annotation_epoch epoch (Event x) h = refl
annotation_epoch epoch (Outcome o) h = refl
annotation_epoch epoch (Shown s) h = refl
annotation_epoch epoch End h = absurd h

-- its head, and its body's bytes as they are
pub annotation_passes : (old new : Rewritten) (entries : List Timed) (bytes : List ℕ) (reader : State) (kind : ℕ) (p : PassedAnnotation) (x : PassesAnnotation entries bytes reader kind p)
    → old.epoch ≡ latest_epoch 0 entries → new.epoch ≡ old.epoch → new.bytes ≡ old.bytes ++ (entry_head old.version old.epoch kind (length p.body / 4) p.cycle ++ p.body)
    → Passes (log_form old.version).text (λ es. new.epoch ≡ latest_epoch 0 es) old.bytes new.bytes entries bytes reader
annotation_passes old new entries bytes reader kind p x before epoch is =
    let e : Entry = x.entry.what in
    let same = annotation_epoch old.epoch e x.annotation in
    let Copy : ℕ → ℕ → List ℕ → ℕ → List ℕ = λ n k b c. entry_head old.version n k (length b / 4) c ++ b in
    let whole : Copy old.epoch kind p.body p.cycle ≡ Copy (epoch_after old.epoch e) (kind_of e) (body e) x.entry.cycle =
    ap (λ k. Copy old.epoch k p.body p.cycle) (sym x.is.kind) ∙ ap (λ b. Copy old.epoch (kind_of e) b p.cycle) (sym x.is.same)
    ∙ ap (λ c. Copy old.epoch (kind_of e) (body e) c) (sym x.cycle) ∙ ap (λ n. Copy n (kind_of e) (body e) x.entry.cycle) (sym same) in
    let all = rewritten old new entries x.entry before (epoch ∙ sym same) (is ∙ ap (λ y. old.bytes ++ y) whole) in
    record { entry = x.entry; read = x.read; took = all.0; gathered = all.1 }
