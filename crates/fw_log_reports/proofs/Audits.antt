-- What a verdict says of one entry more.
use Rattle.std.proofs.Common.{◌≡◌, ℕ, ◌+◌, Option, Some, None, List, [], ◌∷◌, ◌++◌, sym, subst, ◌∙◌, arith, length-append}
use Rattle.std.specs.List.{All}
use Rattle.std.proofs.lemmas.List.Elements.{All-nil, All-cons}
use Rattle.fw_log_entry.specs.Log.{Fits, InOrder}
use Rattle.fw_log_entry.specs.declared.entry.Entry.{Entry}
use Rattle.fw_log_entry.specs.declared.entry.Timed.{Timed}
use Rattle.fw_model_account.specs.Fold.{entries_of}
use Rattle.fw_model_audit.specs.Audited.{EndsFaulty}
use Rattle.fw_audit.specs.Found.{Found}
use Rattle.fw_audit.specs.Unjudged.{Tallies}
use Rattle.fw_audit.specs.declared.audit.Audit.{Audit}
use Rattle.fw_audit.specs.declared.tally.Tally.{Tally}
use Rattle.fw_model_audit.specs.declared.fault.AuditFault.{AuditFault}
use Rattle.fw_log_reports.specs.Verdicts.{Audits, IsUnsound, entries_more}
use Rattle.fw_log_reports.specs.declared.verdict.Verdict.{Verdict}

-- the entry has a fault
pub flawed : (v : Verdict) (new : Audit) (tally : Tally) (entries : List Timed) (t : Timed) (o : Option AuditFault) (f : AuditFault) → Audits v entries
    → Found (entries_of entries ++ t.what ∷ []) new o → o ≡ Some f → Tallies tally (entries ++ t ∷ [])
    → IsUnsound (entries ++ t ∷ []) (record { entry = v.tally.entries; fault = f; unjudged = tally.unjudged })
flawed v new tally entries t o f h x is counts = record {
  last = omega (arith, h.tally.entries, length-append entries (t ∷ []));
  locks = counts.locks;
  faulty = subst (λ (es : List Entry). EndsFaulty es f) (sym (entries_more entries (t ∷ []))) (subst (Found (entries_of entries ++ t.what ∷ []) new) is x);
}

-- it has none
pub unflawed : (v : Verdict) (new : Audit) (tally : Tally) (entries : List Timed) (t : Timed) (o : Option AuditFault) → Audits v entries → o ≡ new.fault
    → Found (entries_of entries ++ t.what ∷ []) new o → o ≡ None → Tallies tally (entries ++ t ∷ []) → Audits (record { audit = new; tally = tally }) (entries ++ t ∷ [])
unflawed v new tally entries t o h same x is counts = record {
  tally = counts;
  sound = sym same ∙ is;
  found = subst (λ (es : List Entry). Found es new None) (sym (entries_more entries (t ∷ []))) (subst (Found (entries_of entries ++ t.what ∷ []) new) is x);
}

-- entries of a log may be written
pub order_fits : (last : ℕ) (es : List Timed) → InOrder last es → All Fits (entries_of es)
order_fits last [] o = All-nil Fits
order_fits last (t ∷ ts) o = All-cons Fits t.what (entries_of ts) o.1.entry (order_fits t.cycle ts o.3)
