-- Entries that were taken, and one more.
use Rattle.fw_holders.proofs.Common.{◌≡◌, ◌+◌, ◌<◌, ◌^◌, Option, Some, None, List, [], ◌∷◌, ◌++◌, length, refl, ap, sym, subst, ◌∙◌, Ok, append-nil, Entry, Account, looked, Judged, entry_judged}
use Rattle.fw_holders.proofs.Common.{IsWithin, told, Holds, HolderState, TakesMore, holders, line_of}
use Rattle.std.proofs.Common.{length-append, Result, Err, IfOk}
use Rattle.fw_log_entry.specs.declared.entry.Timed.{Timed}
use Rattle.fw_model_account.specs.Fold.{account_from, account_of, entries_of, next_of, no_account}
use Rattle.fw_model_audit.specs.Audited.{IsAudited, EndsFaulty}
use Rattle.fw_model_audit.specs.Faults.{IsVerdict}
use Rattle.fw_model_audit.specs.declared.fault.AuditFault.{AuditFault}
use Rattle.fw_audit.specs.Found.{Follows}
use Rattle.fw_audit.specs.declared.audit.Audit.{Audit}
use Rattle.fw_audit.proofs.Audits.{account_push, found_more}
use Rattle.fw_holders.specs.Counts.{judged_from, judged_of, next_judged, none_judged}
use Rattle.fw_holders.specs.Told.{Takes, entry_line}
use Rattle.fw_holders.proofs.CountLaws.{entry_within}

-- the entries of a list and one more
pub entries_push : (entries : List Timed) (t : Timed) → entries_of (entries ++ t ∷ []) ≡ entries_of entries ++ t.what ∷ []
entries_push [] t = refl
entries_push (x ∷ xs) t = ap (λ es. x.what ∷ es) (entries_push xs t)

judged_append : (o : Option Account) (es fs : List Entry) (j : Judged) → judged_from o (es ++ fs) j ≡ judged_from (account_from o es) fs (judged_from o es j)
judged_append o [] fs j = refl
judged_append o (e ∷ es) fs j = judged_append (next_of o e) es fs (next_judged o e j)

-- what is counted of them
pub judged_push : (entries : List Timed) (t : Timed) (l : Account) → account_of (entries_of entries) ≡ Some l → judged_of (entries ++ t ∷ []) ≡ entry_judged l t.what (judged_of entries)
judged_push entries t l at =
    ap (λ es. judged_from (Some no_account) es none_judged) (entries_push entries t)
    ∙ judged_append (Some no_account) (entries_of entries) (t.what ∷ []) none_judged
    ∙ ap (λ o. next_judged o t.what (judged_of entries)) at

-- the line of an entry after others
pub line_push : (entries : List Timed) (t : Timed) (l m : Account) → account_of (entries_of entries) ≡ Some l → next_of (Some l) t.what ≡ Some m
    → line_of t.cycle (told l t.what) (Some m) ≡ holders entries (t ∷ [])
line_push entries t l m at next =
    ap (λ o. line_of t.cycle (told l t.what) o) (sym next)
    ∙ ap (λ o. entry_line o t) (sym at)
    ∙ sym (append-nil (entry_line (account_of (entries_of entries)) t))

-- the entry has a fault
pub faulty_push : (entries : List Timed) (t : Timed) (r : HolderState) (f : AuditFault) → (h : Holds entries r) → IsVerdict h.account (looked t.what) (Some f)
    → EndsFaulty (entries_of (entries ++ t ∷ [])) f
faulty_push entries t r f h is = record {
  prefix = entries_of entries;
  entry = t.what;
  parts = entries_push entries t;
  audited = h.audited;
  account = h.account;
  before = h.is_account;
  verdict = is;
}

-- it has none
pub holds_push : (entries : List Timed) (t : Timed) (old new : HolderState) → length entries + 1 < 2 ^ 64 → (h : Holds entries old) → TakesMore h.account t old new → Holds (entries ++ t ∷ []) new
holds_push entries t old new few h m =
    let counts = m.judged (length entries) few h.within in
    let es = entries_push entries t in
    record {
      audited = subst IsAudited (sym es) (found_more (entries_of entries) t.what taken new.tables None follows m.clear (λ none. (m.account, m.follows, m.stands))).audited;
      account = m.account;
      is_account = ap account_of es ∙ account_push (entries_of entries) t.what h.account h.is_account ∙ m.follows;
      stands = m.stands;
      judged = counts ∙ ap (λ j. entry_judged h.account t.what j) h.judged ∙ sym (judged_push entries t h.account h.is_account);
      within = subst (λ n. IsWithin n new.judged) (sym (length-append entries (t ∷ []))) (subst (λ j. IsWithin (length entries + 1) j) (sym counts) (entry_within h.account t.what
          (length entries) old.judged h.within));
    }
  where
    taken : Audit
    taken = record { ledger = old.tables; fault = None }

    follows : Follows (entries_of entries) taken
    follows = record { account = h.account; is = h.is_account; stands = h.stands; audited = h.audited }

-- what is written with it
pub text_push : (entries : List Timed) (t : Timed) (old new : HolderState) → (h : Holds entries old) → TakesMore h.account t old new → new.text ≡ old.text ++ holders entries (t ∷ [])
text_push entries t old new h m = m.text ∙ ap (λ x. old.text ++ x) (line_push entries t h.account m.account h.is_account m.follows)

-- what a call says that takes it
pub takes_holds : {E : Type 0} (entries : List Timed) (t : Timed) (old new : HolderState) (r : Result (Option AuditFault) E) → length entries + 1 < 2 ^ 64 → (h : Holds entries old)
    → IfOk r (Takes h.account t old new)
    → IfOk r (λ f. f ≡ None → Holds (entries ++ t ∷ []) new × (new.text ≡ old.text ++ holders entries (t ∷ [])))
takes_holds entries t old new (Ok None) few h m = λ none. (holds_push entries t old new few h m, text_push entries t old new h m)
takes_holds entries t old new (Ok (Some f)) few h m = λ none. let z : ⊥ = cc in absurd z
takes_holds entries t old new (Err e) few h m = m

pub takes_faulty : {E : Type 0} (entries : List Timed) (t : Timed) (old new : HolderState) (r : Result (Option AuditFault) E) (fault : AuditFault) → (h : Holds entries old)
    → IfOk r (Takes h.account t old new)
    → IfOk r (λ f. f ≡ Some fault → EndsFaulty (entries_of (entries ++ t ∷ [])) fault × (new.text ≡ old.text))
takes_faulty entries t old new (Ok None) fault h m = λ some. let z : ⊥ = cc in absurd z
takes_faulty entries t old new (Ok (Some f)) fault h m = λ some.
    let same : f ≡ fault = cc in
    (faulty_push entries t old fault h (subst (λ g. IsVerdict h.account (looked t.what) (Some g)) same m.0), m.1)
takes_faulty entries t old new (Err e) fault h m = m
