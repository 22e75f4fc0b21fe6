-- Where `holders` stops, entry by entry.
use Rattle.std.proofs.Common.{◌≡◌, ℕ, ◌+◌, List, [], ◌∷◌, ◌++◌, Option, Some, None, length, arith, refl, ap, sym, subst, ◌∙◌, append_assoc, length-append}
use Rattle.std.proofs.lemmas.List.{append-nil}
use Rattle.std.proofs.lemmas.Option.{same_Some}
use Rattle.fw_log_entry.specs.declared.entry.Entry.{Entry}
use Rattle.fw_log_entry.specs.declared.entry.Timed.{Timed}
use Rattle.fw_model_account.specs.Account.{Account}
use Rattle.fw_model_account.specs.Fold.{account_of, entries_of}
use Rattle.fw_model_account.specs.Sound.{IsSound}
use Rattle.fw_model_audit.specs.Audited.{IsAudited, EndsFaulty}
use Rattle.fw_model_audit.specs.Faults.{HasNoFault, IsVerdict}
use Rattle.fw_model_audit.specs.Judged.{verdict}
use Rattle.fw_model_audit.specs.Looked.{looked}
use Rattle.fw_model_audit.specs.declared.fault.AuditFault.{AuditFault}
use Rattle.fw_audit.specs.Unjudged.{unjudged}
use Rattle.fw_log_reports.specs.Verdicts.{IsSoundLog, IsUnsound, entries_more}
use Rattle.fw_log_reports.specs.declared.refusal.Unsound.{Unsound}
use Rattle.fw_log_words.specs.Stops.{fault_over, refused_at, first_of, stop_from, stop_of}
use Rattle.fw_log_words.proofs.VerdictLaws.{verdict_some, verdict_none}

-- ---- the first of two stops

first_none : (o : Option Unsound) → first_of o None ≡ o
first_none None = refl
first_none (Some u) = refl

both_none : (o later : Option Unsound) → first_of o later ≡ None → (o ≡ None) × (later ≡ None)
both_none None later e = (refl, e)
both_none (Some u) later e = absurd (cc e)

first_stays : (u : Unsound) (o a b : Option Unsound) → (a ≡ Some u → b ≡ Some u) → first_of o a ≡ Some u → first_of o b ≡ Some u
first_stays u None a b h e = h e
first_stays u (Some v) a b h e = e

-- ---- one entry more

-- after entries without a stop the next one decides
stop_after : (before xs : List Timed) (t : Timed) → stop_from before xs ≡ None
    → stop_from before (xs ++ t ∷ []) ≡ refused_at (before ++ xs) t (fault_over (account_of (entries_of (before ++ xs))) t.what)
stop_after before [] t none =
    let at : List Timed → Option Unsound = λ b. refused_at b t (fault_over (account_of (entries_of b)) t.what) in
    first_none (at before) ∙ ap at (sym (append-nil before))
stop_after before (x ∷ xs) t none =
    let at : List Timed → Option Unsound = λ b. refused_at b t (fault_over (account_of (entries_of b)) t.what) in
    let here = refused_at before x (fault_over (account_of (entries_of before)) x.what) in
    let parts = both_none here (stop_from (before ++ x ∷ []) xs) none in
    ap (λ (o : Option Unsound). first_of o (stop_from (before ++ x ∷ []) (xs ++ t ∷ []))) parts.0 ∙ stop_after (before ++ x ∷ []) xs t parts.1 ∙ ap at (append_assoc before (x ∷ []) xs)

-- a stop stays
stays_from : (u : Unsound) (before xs ys : List Timed) → stop_from before xs ≡ Some u → stop_from before (xs ++ ys) ≡ Some u
stays_from u before [] ys e = absurd (cc e)
stays_from u before (x ∷ xs) ys e =
    first_stays u (refused_at before x (fault_over (account_of (entries_of before)) x.what)) (stop_from (before ++ x ∷ []) xs) (stop_from (before ++ x ∷ []) (xs ++ ys))
    (stays_from u (before ++ x ∷ []) xs ys) e

pub stop_stays : (u : Unsound) (xs ys : List Timed) → stop_of xs ≡ Some u → stop_of (xs ++ ys) ≡ Some u
stop_stays u xs ys e = stays_from u [] xs ys e

-- the next one has no fault
pub goes_on : (entries : List Timed) (t : Timed) (l : Account) → account_of (entries_of entries) ≡ Some l → IsSound l → stop_of entries ≡ None → IsSoundLog (entries ++ t ∷ [])
    → stop_of (entries ++ t ∷ []) ≡ None
goes_on entries t l is sound none audited =
    let at = audited (entries_of entries) [] t.what (entries_more entries (t ∷ [])) in
    let same : at.0 ≡ l = same_Some at.0 l (sym at.1 ∙ is) in
    let clear = verdict_none l t.what sound (subst (λ (k : Account). HasNoFault k (looked t.what)) same at.2) in
    stop_after [] entries t none ∙ ap (λ (o : Option Account). refused_at entries t (fault_over o t.what)) is ∙ ap (λ (f : Option AuditFault). refused_at entries t f) clear

-- ---- it has one

pub last_same : {A : Type 0} (xs ys : List A) (a b : A) → xs ++ a ∷ [] ≡ ys ++ b ∷ [] → (xs ≡ ys) × (a ≡ b)
last_same [] [] a b e = (refl, cc e)
last_same [] (y ∷ []) a b e = absurd (cc e)
last_same [] (y ∷ z ∷ ys) a b e = absurd (cc e)
last_same (x ∷ []) [] a b e = absurd (cc e)
last_same (x ∷ z ∷ xs) [] a b e = absurd (cc e)
last_same (x ∷ xs) (y ∷ ys) a b e =
    let head : x ≡ y = cc e in
    let tail : xs ++ a ∷ [] ≡ ys ++ b ∷ [] = cc e in
    let rest = last_same xs ys a b tail in
    (ap (λ v. v ∷ xs) head ∙ ap (λ l. y ∷ l) rest.0, rest.1)

-- what is refused at it
refused : (entries : List Timed) (t : Timed) (u : Unsound) → IsUnsound (entries ++ t ∷ []) u → refused_at entries t (Some u.fault) ≡ Some u
refused entries t u x =
    let number : length entries ≡ u.entry = omega (arith, x.last, length-append entries (t ∷ [])) in
    let made : ℕ → ℕ → Option Unsound = λ n m. Some (record { entry = n; fault = u.fault; unjudged = m }) in
    ap (λ (n : ℕ). made n (unjudged (entries ++ t ∷ []))) number ∙ ap (λ (m : ℕ). made u.entry m) (sym x.locks)

pub stops : (entries : List Timed) (t : Timed) (l : Account) (u : Unsound) → account_of (entries_of entries) ≡ Some l → IsSound l → stop_of entries ≡ None → IsUnsound (entries ++ t ∷ []) u
    → stop_of (entries ++ t ∷ []) ≡ Some u
stops entries t l u is sound none x =
    let f = x.faulty in
    let parts : entries_of entries ++ t.what ∷ [] ≡ f.prefix ++ f.entry ∷ [] = sym (entries_more entries (t ∷ [])) ∙ f.parts in
    let last = last_same (entries_of entries) f.prefix t.what f.entry parts in
    let same : f.account ≡ l = same_Some f.account l (sym f.before ∙ ap account_of (sym last.0) ∙ is) in
    let V : Account → Type 0 = λ k. IsVerdict k (looked f.entry) (Some u.fault) in
    let W : Entry → Type 0 = λ e. IsVerdict l (looked e) (Some u.fault) in
    let faulty = verdict_some l t.what u.fault sound (subst W (sym last.1) (subst V same f.verdict)) in
    stop_after [] entries t none ∙ ap (λ (o : Option Account). refused_at entries t (fault_over o t.what)) is ∙ ap (λ (o : Option AuditFault). refused_at entries t o) faulty ∙ refused entries t u x
