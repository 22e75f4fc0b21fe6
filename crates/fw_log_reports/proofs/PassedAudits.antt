-- What a verdict says of an entry that is passed.
use Rattle.std.proofs.Common.{◌≡◌, false, List, [], ◌∷◌, ◌++◌, None, refl, sym, subst, ◌∙◌}
use Rattle.fw_model_account.specs.Fold.{entries_of}
use Rattle.fw_audit.specs.Found.{Found, IsPassedOver}
use Rattle.fw_audit.proofs.Audits.{other_clear, passed_found}
use Rattle.fw_audit.specs.Unjudged.{Tallies, is_unjudged}
use Rattle.fw_audit.specs.declared.audit.Audit.{Audit}
use Rattle.fw_audit.specs.declared.tally.Tally.{Tally}
use Rattle.fw_log_entry.specs.Log.{kind_of}
use Rattle.fw_log_entry.specs.declared.entry.Entry.{Entry}
use Rattle.fw_log_entry.specs.declared.entry.Entry.TheVariants.{Reset, Async, Iso, Event, Outcome, Shown, End}
use Rattle.fw_log_entry.specs.declared.entry.Timed.{Timed}
use Rattle.fw_log_reports.specs.Verdicts.{Audits, entries_more}
use Rattle.fw_log_reports.specs.declared.verdict.Verdict.{Verdict}

-- it is counted
pub passed_audits : (v : Verdict) (tally : Tally) (entries : List Timed) (t : Timed) → Audits v entries → IsPassedOver t.what → Tallies tally (entries ++ t ∷ [])
    → Audits (record { audit = v.audit; tally = tally }) (entries ++ t ∷ [])
passed_audits v tally entries t h passed counts = record {
  tally = counts;
  sound = h.sound;
  found = subst (λ (es : List Entry). Found es v.audit None) (sym (entries_more entries (t ∷ []))) (passed_found (entries_of entries) t.what v.audit passed h.found);
}

-- an entry that was taken, and has no fault, is counted
pub taken_audits : (v : Verdict) (audit : Audit) (tally : Tally) (entries : List Timed) (t : Timed) → Audits v entries → audit.fault ≡ v.audit.fault
    → Found (entries_of entries ++ t.what ∷ []) audit None → Tallies tally (entries ++ t ∷ []) → Audits (record { audit = audit; tally = tally }) (entries ++ t ∷ [])
taken_audits v audit tally entries t h fresh found counts = record {
  tally = counts;
  sound = fresh ∙ h.sound;
  found = subst (λ (es : List Entry). Found es audit None) (sym (entries_more entries (t ∷ []))) found;
}

-- no audit looks at the outcome of a command
pub outcome_passed : (e : Entry) → kind_of e ≡ 5 → IsPassedOver e
outcome_passed (Outcome o) is = λ l. (refl, other_clear l)
outcome_passed (Reset r) is = cc is
outcome_passed (Async p) is = cc is
outcome_passed (Iso p) is = cc is
outcome_passed (Event e) is = cc is
outcome_passed (Shown s) is = cc is
outcome_passed End is = cc is

-- and it is no lock
pub outcome_judged : (e : Entry) → kind_of e ≡ 5 → false ≡ is_unjudged e
outcome_judged (Outcome o) is = refl
outcome_judged (Reset r) is = refl
outcome_judged (Async p) is = cc is
outcome_judged (Iso p) is = refl
outcome_judged (Event e) is = refl
outcome_judged (Shown s) is = refl
outcome_judged End is = refl
