-- Entries without a fault are those of a sound account, whose words they show.
use Rattle.fw_log_entry.specs.declared.entry.Entry.{Entry}
use Rattle.fw_log_entry.specs.Log.{Fits}
use Rattle.std.specs.List.{All}
use Rattle.std.proofs.lemmas.List.Elements.{All-nil, All-cons, All-head, All-tail}
use Rattle.std.proofs.lemmas.Option.{same_Some}
use Rattle.std.proofs.Common.{◌≡◌, ◌↔◌, Some, List, [], ◌∷◌, ◌++◌, refl, ap, sym, subst, ◌∙◌, append_assoc}
use Rattle.fw_model_account.specs.Account.{Account}
use Rattle.fw_model_account.specs.Fold.{no_account, next_account, account_from, account_of}
use Rattle.fw_model_account.specs.Sound.{IsSound, IsConflictFree}
use Rattle.fw_model_account.proofs.Fold.{account_from-append, account_sound, next_keeps, starts_sound}
use Rattle.fw_model_account.proofs.Shared.{is_conflict_free}
use Rattle.fw_model_audit.specs.Looked.{looked, ShowsWords}
use Rattle.fw_model_audit.specs.Faults.{HasNoFault}
use Rattle.fw_model_audit.specs.Audited.{IsAudited, IsVouched}
use Rattle.fw_model_audit.proofs.Verdicts.{no_fault}

-- a prefix of entries in the grammar
pub prefix_fits : (prefix rest : List Entry) → All Fits (prefix ++ rest) → All Fits prefix
prefix_fits [] rest a = All-nil Fits
prefix_fits (e ∷ es) rest a = All-cons Fits e es (All-head Fits e (es ++ rest) a) (prefix_fits es rest (All-tail Fits e (es ++ rest) a))

-- ---- from an account on

abbrev AuditedFrom : Account → List Entry → Type 0
AuditedFrom l es = (prefix rest : List Entry) (e : Entry) → es ≡ prefix ++ e ∷ rest → (k : Account) × (account_from (Some l) prefix ≡ Some k) × HasNoFault k (looked e)

-- there is an account after all entries
account_after : (l : Account) (es : List Entry) → IsSound l → All Fits es → AuditedFrom l es → (m : Account) × (account_from (Some l) es ≡ Some m)
account_after l [] s fits a = (l, refl)
account_after l (e ∷ es) s fits a =
    let y = account_after next.0 es (next_keeps l next.0 e (All-head Fits e es fits) s next.1) (All-tail Fits e es fits) later in
    (y.0, step es ∙ y.1)
  where
    none : HasNoFault l (looked e)
    none =
        let x = a [] es e refl in
        let same : l ≡ x.0 = same_Some l x.0 x.1 in
        subst (λ k. HasNoFault k (looked e)) (sym same) x.2

    next : (m : Account) × (next_account l e ≡ Some m)
    next = ((no_fault l e s).0 none).0

    step : (xs : List Entry) → account_from (Some l) (e ∷ xs) ≡ account_from (Some next.0) xs
    step xs = ap (λ o. account_from o xs) next.1

    later : AuditedFrom next.0 es
    later prefix rest x is = let y = a (e ∷ prefix) rest x (ap (λ xs. e ∷ xs) is) in (y.0, sym (step prefix) ∙ y.1, y.2)

-- ---- both ways

sound_at : (entries prefix rest : List Entry) (l : Account) → All Fits entries → entries ≡ prefix ++ rest → account_of prefix ≡ Some l → IsSound l
sound_at entries prefix rest l fits is e = account_sound prefix l (prefix_fits prefix rest (subst (All Fits) is fits)) e

pub audited_vouched : (entries : List Entry) → All Fits entries → IsAudited entries → IsVouched entries
audited_vouched entries fits a = record { accounts = accounts; words = words }
  where
    accounts : (prefix rest : List Entry) → entries ≡ prefix ++ rest → (l : Account) × (account_of prefix ≡ Some l) × IsSound l × IsConflictFree l
    accounts prefix [] is =
        let fit : All Fits prefix = prefix_fits prefix [] (subst (All Fits) is fits) in
        let later : AuditedFrom no_account prefix = λ before after x same. a before (after ++ []) x (is ∙ (ap (λ xs. xs ++ []) same ∙ append_assoc before (x ∷ after) [])) in
        let y = account_after no_account prefix starts_sound fit later in
        let s : IsSound y.0 = account_sound prefix y.0 fit y.1 in
        (y.0, y.1, s, is_conflict_free y.0 s)
    accounts prefix (e ∷ rest) is =
        let y = a prefix rest e is in
        let s : IsSound y.0 = sound_at entries prefix (e ∷ rest) y.0 fits is y.1 in
        (y.0, y.1, s, is_conflict_free y.0 s)

    words : (prefix rest : List Entry) (e : Entry) → entries ≡ prefix ++ e ∷ rest → (l : Account) × (account_of prefix ≡ Some l) × ShowsWords l (looked e)
    words prefix rest e is =
        let y = a prefix rest e is in
        (y.0, y.1, ((no_fault y.0 e (sound_at entries prefix (e ∷ rest) y.0 fits is y.1)).0 y.2).1)

pub vouched_audited : (entries : List Entry) → IsVouched entries → IsAudited entries
vouched_audited entries v = λ prefix rest e is. go prefix rest e is (v.accounts prefix (e ∷ rest) is) (v.accounts (prefix ++ e ∷ []) rest (is ∙ sym (append_assoc prefix (e ∷ []) rest)))
    (v.words prefix rest e is)
  where
    go : (prefix rest : List Entry) (e : Entry) → entries ≡ prefix ++ e ∷ rest → (l : Account) × (account_of prefix ≡ Some l) × IsSound l × IsConflictFree l
        → (m : Account) × (account_of (prefix ++ e ∷ []) ≡ Some m) × IsSound m × IsConflictFree m → (k : Account) × (account_of prefix ≡ Some k) × ShowsWords k (looked e)
        → (l : Account) × (account_of prefix ≡ Some l) × HasNoFault l (looked e)
    go prefix rest e is x y z = (x.0, x.1, (no_fault x.0 e x.2).1 ((y.0, next), subst (λ k. ShowsWords k (looked e)) same z.2))
      where
        same : z.0 ≡ x.0
        same = same_Some z.0 x.0 (sym z.1 ∙ x.1)

        next : next_account x.0 e ≡ Some y.0
        next = ap (λ o. account_from o (e ∷ [])) (sym x.1) ∙ (sym (account_from-append prefix (e ∷ []) (Some no_account)) ∙ y.1)

pub vouched_exactly : (entries : List Entry) → All Fits entries → IsAudited entries ↔ IsVouched entries
vouched_exactly entries fits = (audited_vouched entries fits, vouched_audited entries)
