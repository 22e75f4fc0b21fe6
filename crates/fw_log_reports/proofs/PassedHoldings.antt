-- What is held after an entry that is passed over.
use Rattle.std.proofs.Common.{◌≡◌, ◌+◌, ◌^◌, ◌<◌, List, [], ◌∷◌, ◌++◌, length, refl, ap, sym, subst, ◌∙◌}
use Rattle.std.proofs.lemmas.List.{append-nil}
use Rattle.std.proofs.lemmas.Option.{same_Some}
use Rattle.fw_model_account.specs.Account.{Account}
use Rattle.fw_model_account.specs.Fold.{no_account}
use Rattle.fw_audit.specs.Found.{IsPassedOver}
use Rattle.fw_audit.specs.Unjudged.{Tallies}
use Rattle.fw_audit.specs.declared.tally.Tally.{Tally}
use Rattle.fw_log_entry.specs.Log.{kind_of}
use Rattle.fw_log_entry.specs.declared.entry.Entry.{Entry}
use Rattle.fw_log_entry.specs.declared.entry.Entry.TheVariants.{Reset, Async, Iso, Event, Outcome, Shown, End}
use Rattle.fw_log_entry.specs.declared.entry.Timed.{Timed}
use Rattle.fw_holders.specs.Told.{Holds, IsQuiet, HolderState, holders as lines}
use Rattle.fw_holders.proofs.QuietLaws.{quiet_packet, quiet_iso, holds_quiet, text_quiet}
use Rattle.fw_log.specs.Passing.{HasBody}
use Rattle.fw_log.specs.declared.plain.PlainBody.{PlainBody}
use Rattle.fw_log.specs.declared.plain.PlainBody.TheVariants as Bodies
use Rattle.fw_log_reports.proofs.PassedAudits.{outcome_passed}
use Rattle.fw_log_reports.specs.Holdings.{Takes, TakesText}
use Rattle.fw_log_reports.specs.declared.holding.Holding.{Holding}

-- a bus reset changes the account of no entries
quiet_body : (b : PlainBody) (e : Entry) → HasBody b e → IsPassedOver e → IsQuiet e
quiet_body (Bodies.Packet bytes) e h passed = subst IsQuiet (sym h.1) (quiet_packet h.0 (subst IsPassedOver h.1 passed))
quiet_body (Bodies.Iso bytes) e h passed = subst IsQuiet (sym h.1) (quiet_iso h.0 (subst IsPassedOver h.1 passed))
quiet_body (Bodies.Reset bytes) e h passed =
    let same = same_Some _ no_account (subst IsPassedOver h.1 passed no_account).0 in
    let latest = ap (λ (l : Account). l.latest) same in
    absurd (cc latest)

-- an entry that no audit looks at leaves what is held, and has no line
pub passed_over : (holders : HolderState) (entries : List Timed) (t : Timed) (b : PlainBody) → length entries + 1 < 2 ^ 64 → Holds entries holders → HasBody b t.what → IsPassedOver t.what
    → Holds (entries ++ t ∷ []) holders × (holders.text ≡ holders.text ++ lines entries (t ∷ []))
passed_over holders entries t b few h made passed =
    let quiet = quiet_body b t.what made passed in
    (holds_quiet entries t holders few h quiet, sym (ap (λ text. holders.text ++ text) (text_quiet entries t holders h quiet) ∙ append-nil holders.text))

-- nor at the outcome of a command
quiet_outcome : (e : Entry) → kind_of e ≡ 5 → IsQuiet e
quiet_outcome (Outcome o) is = record { passed = outcome_passed (Outcome o) is; untold = λ l. refl; uncounted = λ l j. refl }
quiet_outcome (Reset r) is = cc is
quiet_outcome (Async p) is = cc is
quiet_outcome (Iso p) is = cc is
quiet_outcome (Event e) is = cc is
quiet_outcome (Shown s) is = cc is
quiet_outcome End is = cc is

-- one that was taken has the line that was appended
pub taken_text : (v : Holding) (holders : HolderState) (tally : Tally) (entries : List Timed) (t : Timed) → Holds (entries ++ t ∷ []) holders
    → holders.text ≡ v.holders.text ++ lines entries (t ∷ []) → Tallies tally (entries ++ t ∷ []) → TakesText entries t v (record { holders = holders; tally = tally })
taken_text v holders tally entries t holds text counts = record { takes = record { tally = counts; holds = holds }; text = text }

pub outcome_taken : (v : Holding) (tally : Tally) (entries : List Timed) (t : Timed) → length entries + 1 < 2 ^ 64 → Takes v entries → kind_of t.what ≡ 5 → Tallies tally (entries ++ t ∷ [])
    → TakesText entries t v (record { holders = v.holders; tally = tally })
outcome_taken v tally entries t few h is counts =
    let quiet = quiet_outcome t.what is in
    taken_text v v.holders tally entries t (holds_quiet entries t v.holders few h.holds quiet)
    (sym (ap (λ text. v.holders.text ++ text) (text_quiet entries t v.holders h.holds quiet) ∙ append-nil v.holders.text)) counts
