-- What an audit has found after one entry more.
use Rattle.fw_log_entry.specs.declared.entry.Entry.{Entry}
use Rattle.std.proofs.Common.{◌≡◌, ◌⊎◌, ◌==◌, inl, inr, false, cond, Option, Some, None, List, [], ◌∷◌, ◌++◌, refl, ap, sym, subst, ◌∙◌, append_assoc}
use Rattle.std.proofs.lemmas.Option.{same_Some}
use Rattle.fw_model_account.specs.Account.{Account}
use Rattle.fw_model_account.specs.Fold.{no_account, next_account, account_from, account_of}
use Rattle.fw_account_tables.specs.declared.tables.Tables.{Tables}
use Rattle.fw_model_account.proofs.Fold.{account_from-append}
use Rattle.fw_model_audit.specs.Looked.{Looked, Other, labelled, looked}
use Rattle.fw_model_audit.specs.Faults.{HasNoFault, IsVerdict}
use Rattle.fw_model_audit.specs.Audited.{IsAudited, EndsFaulty}
use Rattle.fw_model_audit.specs.declared.fault.AuditFault.{AuditFault}
use Rattle.fw_model_audit.specs.declared.fault.AuditFault.TheVariants.{NoNode, Overlap, Orphan, NotAllowed, WrongWord, NoMove, NoEvent}
use Rattle.fw_async.specs.declared.packet.Head.{Head}
use Rattle.fw_terms.specs.declared.label.Label.TheVariants.{Procedure}
use Rattle.fw_terms.specs.Labels.{label_code}
use Rattle.fw_audit.specs.Found.{StandsAfter, Follows, Found, IsPassedOver}
use Rattle.fw_audit.specs.declared.audit.Audit.{Audit}

-- ---- lists

no_part : {A : Type 0} (prefix rest : List A) (e : A) → [] ≡ prefix ++ e ∷ rest → ⊥
no_part [] rest e is = cc is
no_part (x ∷ xs) rest e is = cc is

-- a part of a list and one element more is a part of the list, or that element
part_of : {A : Type 0} (xs : List A) (y : A) (prefix rest : List A) (e : A) → xs ++ y ∷ [] ≡ prefix ++ e ∷ rest → ((later : List A) × (xs ≡ prefix ++ e ∷ later)) ⊎ ((xs ≡ prefix) × (y ≡ e))
part_of [] y [] rest e is = let same : y ≡ e = cc is in inr (refl, same)
part_of [] y (f ∷ fs) rest e is = let none : [] ≡ fs ++ e ∷ rest = cc is in absurd (no_part fs rest e none)
part_of (x ∷ xs) y [] rest e is = let same : x ≡ e = cc is in inl (xs, ap (λ v. v ∷ xs) same)
part_of (x ∷ xs) y (f ∷ fs) rest e is =
    let same : x ≡ f = cc is in
    let tail : xs ++ y ∷ [] ≡ fs ++ e ∷ rest = cc is in
    go same (part_of xs y fs rest e tail)
  where
    go : x ≡ f → ((later : List _) × (xs ≡ fs ++ e ∷ later)) ⊎ ((xs ≡ fs) × (y ≡ e)) → ((later : List _) × (x ∷ xs ≡ f ∷ (fs ++ e ∷ later))) ⊎ ((x ∷ xs ≡ f ∷ fs) × (y ≡ e))
    go same (inl (later, is)) = let both : x ∷ xs ≡ f ∷ (fs ++ e ∷ later) = cc in inl (later, both)
    go same (inr (is, end)) = let both : x ∷ xs ≡ f ∷ fs = cc in inr (both, end)

-- ---- audited entries

pub nothing_audited : IsAudited []
nothing_audited prefix rest e is = absurd (no_part prefix rest e is)

audited_push : (entries : List Entry) (e : Entry) (l : Account) → IsAudited entries → account_of entries ≡ Some l → HasNoFault l (looked e) → IsAudited (entries ++ e ∷ [])
audited_push entries e l a at none prefix rest x is = go (part_of entries e prefix rest x is)
  where
    go : ((later : List Entry) × (entries ≡ prefix ++ x ∷ later)) ⊎ ((entries ≡ prefix) × (e ≡ x)) → (k : Account) × (account_of prefix ≡ Some k) × HasNoFault k (looked x)
    go (inl (later, same)) = a prefix later x same
    go (inr (same, end)) = (l, subst (λ es. account_of es ≡ Some l) same at, subst (λ y. HasNoFault l (looked y)) end none)

pub account_push : (entries : List Entry) (e : Entry) (l : Account) → account_of entries ≡ Some l → account_of (entries ++ e ∷ []) ≡ next_account l e
account_push entries e l at = account_from-append entries (e ∷ []) (Some no_account) ∙ ap (λ o. account_from o (e ∷ [])) at

-- entries that begin with some of which the last has a fault are not audited
pub never_audited : (es rest : List Entry) (f : AuditFault) → EndsFaulty es f → IsAudited (es ++ rest) → ⊥
never_audited es rest f x a =
    let y = a x.prefix rest x.entry (ap (λ xs. xs ++ rest) x.parts ∙ append_assoc x.prefix (x.entry ∷ []) rest) in
    let same : y.0 ≡ x.account = same_Some y.0 x.account (sym y.1 ∙ x.before) in
    subst (λ l. HasNoFault l (looked x.entry)) same y.2 f x.verdict.0

-- ---- one entry more

pub found_more : (entries : List Entry) (e : Entry) (a : Audit) (t : Tables) (f : Option AuditFault) → (x : Follows entries a) → IsVerdict x.account (looked e) f
    → (f ≡ None → StandsAfter t x.account e)
    → Found (entries ++ e ∷ []) (record { ledger = t; fault = f }) f
found_more entries e a t None x is after =
    let y = after refl in
    record {
      account = y.0;
      is = account_push entries e x.account x.is ∙ y.1;
      stands = y.2;
      audited = audited_push entries e x.account x.audited x.is is;
    }
found_more entries e a t (Some f) x is after = record {
  prefix = entries;
  entry = e;
  parts = refl;
  audited = x.audited;
  account = x.account;
  before = x.is;
  verdict = is;
}

-- an entry that was taken and has no fault
pub taken_found : (entries : List Entry) (e : Entry) (a b : Audit) → (x : Follows entries a) → HasNoFault x.account (looked e) → StandsAfter b.ledger x.account e → Found (entries ++ e ∷ []) b None
taken_found entries e a b x none after = record {
  account = after.0;
  is = account_push entries e x.account x.is ∙ after.1;
  stands = after.2;
  audited = audited_push entries e x.account x.audited x.is none;
}

-- an entry that is passed over leaves what was found
pub passed_found : (entries : List Entry) (e : Entry) (a : Audit) → IsPassedOver e → Found entries a None → Found (entries ++ e ∷ []) a None
passed_found entries e a passed x = record {
  account = x.account;
  is = account_push entries e x.account x.is ∙ (passed x.account).0;
  stands = x.stands;
  audited = audited_push entries e x.account x.audited x.is (passed x.account).1;
}

-- what is no request, response, shown word or event has no fault
pub other_clear : (l : Account) → HasNoFault l Other
other_clear l (NoNode k) h = h
other_clear l (Overlap k) h = h
other_clear l (Orphan k) h = h
other_clear l (NotAllowed k o) h = h
other_clear l (WrongWord v w) h = h
other_clear l (NoMove v w) h = h
other_clear l (NoEvent k) h = h

-- so has a packet that is not of a procedure
pub other_passed : (l : Account) (h : Head) (x : Looked) (o : Option Account) → (h.tl == label_code Procedure) ≡ false → (cond (h.tl == label_code Procedure) o (Some l) ≡ Some l)
    × HasNoFault l (labelled h x)
other_passed l h x o e = (rw e refl, rw e (other_clear l))
