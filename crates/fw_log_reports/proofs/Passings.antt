-- Entries that are passed over: what they change of a report.
use Rattle.std.proofs.Common.{◌≡◌, ℕ, ◌+◌, ◌^◌, ◌<◌, List, [], ◌∷◌, ◌++◌, length, Option, Some, None, IfSome, arith, refl, ap, sym, subst, ◌∙◌, length-append}
use Rattle.fw_cip.specs.Iso.{Fits as IsoFits, spelling as iso_spelling}
use Rattle.fw_cip.specs.declared.packet.IsoPacket.{IsoPacket}
use Rattle.fw_log_entry.specs.declared.entry.Entry.{Entry}
use Rattle.fw_log_entry.specs.declared.entry.Entry.TheVariants.{Iso}
use Rattle.fw_log_entry.specs.declared.entry.Timed.{Timed}
use Rattle.fw_log.specs.History.{bytes_of, HasRead}
use Rattle.fw_log.specs.Passing.{IsPassed, HasBody, CountsUp, PassesOn, PassesBody}
use Rattle.fw_log.specs.Reader.{State, total}
use Rattle.fw_log.specs.Stands.{Position}
use Rattle.fw_log.specs.declared.passing.PassedBody.{PassedBody}
use Rattle.fw_log.specs.declared.plain.PlainBody.{PlainBody}
use Rattle.fw_log.specs.declared.plain.PlainBody.TheVariants as Bodies
use Rattle.fw_log_loop.specs.Readings.{Passes}
use Rattle.fw_log_loop.proofs.Texts.{few_by}
use Rattle.fw_log_text.specs.declared.report.Channel.{Channel}
use Rattle.fw_log_text.specs.Tallies.{Reports}
use Rattle.fw_log_text.proofs.TallyLaws.{reports_other}
use Rattle.fw_log_reports.specs.Texts.{silent_form}

not_iso : (e : Entry) (p : IsoPacket) → IsPassed e → e ≡ Iso p → ⊥
not_iso e p h is = subst IsPassed is h

pub report_passes : (report : List Channel) (r : Option ℕ) (entries : List Timed) (bytes : ℕ → List ℕ) (new : State)
    → Reports entries report → IfSome r (λ n. PassesOn entries (bytes n) new) → IfSome r (λ n. Passes silent_form.text (λ es. Reports es report) [] [] entries (bytes n) new)
report_passes report None entries bytes new reports h = tt
report_passes report (Some n) entries bytes new reports h =
    let more = reports_other entries h.entry report (λ p. not_iso h.entry.what p h.passed) reports in
    record { entry = h.entry; read = h.read; took = more; gathered = refl }

-- fewer entries were read than bytes
pub few_read : (entries : List Timed) (entry : Timed) (bytes : List ℕ) (new : State) → HasRead (entries ++ entry ∷ []) bytes new → total new < 2 ^ 64 → length entries + 1 < 2 ^ 64
few_read entries entry bytes new h small =
    let start : new.stand.start ≡ length (bytes_of h.version (entries ++ entry ∷ [])) = ap (λ (s : Position). s.start) h.stand in
    omega (arith, start, few_by h.version (entries ++ entry ∷ []), length-append entries (entry ∷ []), small)

-- an isochronous packet changes the report by what it counts
pub packet_passes : (old new : List Channel) (packet : IsoPacket) (given : List ℕ) (entries : List Timed) (bytes piece : List ℕ) (before reader : State) (p : PassedBody)
    (x : PassesBody entries bytes reader p)
    → p.body ≡ Bodies.Iso given → ((q : IsoPacket) → IsoFits q → iso_spelling q ≡ given → packet ≡ q) → total before + length piece < 2 ^ 64 → CountsUp before piece reader p.used
    → ((es : List Timed) (entry : Timed) → entry.what ≡ Iso packet → length es + 1 < 2 ^ 64 → Reports es old → Reports (es ++ entry ∷ []) new)
    → Reports entries old → Passes silent_form.text (λ es. Reports es new) [] [] entries bytes reader
packet_passes old new packet given entries bytes piece before reader p x is whole room up counts h =
    let P : PlainBody → Type 0 = λ b. HasBody b x.entry.what in
    let made = subst P is x.made in
    let few = few_read entries x.entry bytes reader x.read (omega (arith, room, up.total, up.within)) in
    record { entry = x.entry; read = x.read; took = counts entries x.entry (made.1 ∙ ap Iso (sym (whole made.0 made.2 made.3))) few h; gathered = refl }

no_stream : (b : PlainBody) (e : Entry) → HasBody b e → ((bytes : List ℕ) → b ≡ Bodies.Iso bytes → ⊥) → (p : IsoPacket) → e ≡ Iso p → ⊥
no_stream (Bodies.Packet bytes) e h other p is = cc (h.1, is)
no_stream (Bodies.Iso bytes) e h other p is = other bytes refl
no_stream (Bodies.Reset bytes) e h other p is = cc (h.1, is)

-- another entry does not change it
pub other_passes : (report : List Channel) (entries : List Timed) (bytes : List ℕ) (reader : State) (p : PassedBody) (x : PassesBody entries bytes reader p)
    → ((given : List ℕ) → p.body ≡ Bodies.Iso given → ⊥) → Reports entries report → Passes silent_form.text (λ es. Reports es report) [] [] entries bytes reader
other_passes report entries bytes reader p x other h =
    record { entry = x.entry; read = x.read; took = reports_other entries x.entry report (no_stream p.body x.entry.what x.made other) h; gathered = refl }
