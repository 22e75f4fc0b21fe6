-- A log without an audit fault, entry by entry.
use Rattle.fw_watch_laws.proofs.Common.{◌≡◌, refl, ap, sym, ◌∙◌, subst, ℕ, Bool, true, false, List, [], ◌∷◌, ◌++◌, Option, Some, if◌then◌else◌, ◌||◌, All, filter, list_any, same_Some, Timed, Fits}
use Rattle.fw_watch_laws.proofs.Common.{InOrder, Account, no_account, next_account, IsSound, ShowsWords, Said, State, no_state, remarks, after, known, IsOrderly}
use Rattle.std.proofs.Common.{append_assoc}
use Rattle.std.proofs.lemmas.List.{map-append}
use Rattle.std.proofs.lemmas.List.Elements.{All-head, All-tail, filter-append}
use Rattle.fw_model_account.specs.Fold.{next_of, account_of, entries_of}
use Rattle.fw_model_account.proofs.Accesses.{account_of-push}
use Rattle.fw_model_account.proofs.Fold.{next_keeps, starts_sound}
use Rattle.fw_model_audit.specs.Looked.{looked}
use Rattle.fw_model_audit.specs.Faults.{HasNoFault}
use Rattle.fw_model_audit.specs.Audited.{IsAudited}
use Rattle.fw_model_audit.proofs.Verdicts.{no_fault}
use Rattle.fw_watch.specs.Watched.{remarks_from, all_remarks}
use Rattle.fw_watch.proofs.WatchLaws.{known_from_more}
use Rattle.fw_watch_laws.specs.Orderly.{IsLabelledIn}
use Rattle.fw_watch_laws.proofs.Agrees.{Agrees, agrees_none, agrees_step}

-- an entry after others of a log that has no fault, over the account of these
pub record Passes (entries prefix rest : List Timed) (t : Timed) (l m : Account) : Type 0 where
  pub parts : entries ≡ prefix ++ t ∷ rest
  pub account : account_of (entries_of prefix) ≡ Some l
  pub fits : Fits t.what
  pub labelled : IsLabelledIn t.what
  pub sound : IsSound l
  pub words : ShowsWords l (looked t.what)
  pub next : next_account l t.what ≡ Some m
  pub agrees : Agrees (known prefix) l

-- so far it has passed
pub record HasPassed (prefix : List Timed) (l : Account) : Type 0 where
  pub account : account_of (entries_of prefix) ≡ Some l
  pub sound : IsSound l
  pub agrees : Agrees (known prefix) l

push_entries : (prefix rest : List Timed) (t : Timed) → entries_of (prefix ++ t ∷ rest) ≡ entries_of prefix ++ t.what ∷ entries_of rest
push_entries prefix rest t = map-append (λ (x : Timed). x.what) prefix (t ∷ rest)

-- an entry passes
pub passes : (entries prefix ts : List Timed) (t : Timed) (l : Account) → IsAudited (entries_of entries) → entries ≡ prefix ++ t ∷ ts → Fits t.what → IsLabelledIn t.what → HasPassed prefix l
    → (m : Account) × Passes entries prefix ts t l m
passes entries prefix ts t l a e f b p =
    let x = a (entries_of prefix) (entries_of ts) t.what (ap entries_of e ∙ push_entries prefix ts t) in
    let same : x.0 ≡ l = same_Some x.0 l (sym x.1 ∙ p.account) in
    let P : Account → Type 0 = λ k. HasNoFault k (looked t.what) in
    let y = (no_fault l t.what p.sound).0 (subst P same x.2) in
    (y.0.0, record { parts = e; account = p.account; fits = f; labelled = b; sound = p.sound; words = y.1; next = y.0.1; agrees = p.agrees })

pub known_push : (prefix : List Timed) (t : Timed) → known (prefix ++ t ∷ []) ≡ after (known prefix) t
known_push prefix t = known_from_more no_state prefix (t ∷ [])

pub passed : (entries prefix ts : List Timed) (t : Timed) (l m : Account) → Passes entries prefix ts t l m → HasPassed (prefix ++ t ∷ []) m
passed entries prefix ts t l m p =
    let P : State → Type 0 = λ s. Agrees s m in
    record {
      account = ap account_of (push_entries prefix [] t) ∙ account_of-push (entries_of prefix) t.what ∙ ap (λ (o : Option Account). next_of o t.what) p.account ∙ p.next;
      sound = next_keeps l m t.what p.fits p.sound p.next;
      agrees = subst P (sym (known_push prefix t)) (agrees_step t l m (known prefix) p.fits p.labelled p.next p.agrees);
    }

-- ---- nothing is told

-- none of them is one
abbrev pub IsNone : (Said → Bool) → List Said → Type 0
IsNone q xs = filter q xs ≡ []

pub both_none : (q : Said → Bool) (xs ys : List Said) → IsNone q xs → IsNone q ys → IsNone q (xs ++ ys)
both_none q xs ys e f = filter-append q xs ys ∙ ap (λ (zs : List Said). zs ++ filter q ys) e ∙ f

-- what holds of each prefix and is kept by each entry, and of which nothing is told, is told of nowhere
pub none_from : (q : Said → Bool) (entries : List Timed) (P : List Timed → Account → Type 0) → IsAudited (entries_of entries)
    → ((prefix rest : List Timed) (t : Timed) (l m : Account) → Passes entries prefix rest t l m → P prefix l → P (prefix ++ t ∷ []) m)
    → ((prefix rest : List Timed) (t : Timed) (l m : Account) → Passes entries prefix rest t l m → P prefix l → IsNone q (remarks (known prefix) t))
    → (last : ℕ) (prefix ts : List Timed) (l : Account) → InOrder last ts → All (λ t. IsLabelledIn t.what) ts → entries ≡ prefix ++ ts → HasPassed prefix l → P prefix l
    → IsNone q (remarks_from (known prefix) ts)
none_from q entries P a step quiet last prefix [] l o b e h p = refl
none_from q entries P a step quiet last prefix (t ∷ ts) l o b e h p =
    let x = passes entries prefix ts t l a e o.1.entry (All-head (λ (y : Timed). IsLabelledIn y.what) t ts b) h in
    let later : IsNone q (remarks_from (known (prefix ++ t ∷ [])) ts) =
    none_from q entries P a step quiet t.cycle (prefix ++ t ∷ []) ts x.0 o.3 (All-tail (λ (y : Timed). IsLabelledIn y.what) t ts b)
    (e ∙ sym (append_assoc prefix (t ∷ []) ts)) (passed entries prefix ts t l x.0 x.1) (step prefix ts t l x.0 x.1 p) in
    let Q : State → Type 0 = λ s. IsNone q (remarks_from s ts) in
    both_none q (remarks (known prefix) t) (remarks_from (after (known prefix) t) ts) (quiet prefix ts t l x.0 x.1 p) (subst Q (known_push prefix t) later)

none_first : (b : Bool) (x : Said) (xs : List Said) (rest : Bool) → (if b then x ∷ xs else xs) ≡ [] → (xs ≡ [] → rest ≡ false) → (b || rest) ≡ false
none_first true x xs rest e f = cc
none_first false x xs rest e f = f e

pub none_any : (q : Said → Bool) (xs : List Said) → IsNone q xs → list_any q xs ≡ false
none_any q [] e = refl
none_any q (x ∷ xs) e = none_first (q x) x (filter q xs) (list_any q xs) e (none_any q xs)

pub none_passed : HasPassed [] no_account
none_passed = record { account = refl; sound = starts_sound; agrees = agrees_none }

-- of a log
pub none_in : (q : Said → Bool) (entries : List Timed) (P : List Timed → Account → Type 0) → IsOrderly entries
    → ((prefix rest : List Timed) (t : Timed) (l m : Account) → Passes entries prefix rest t l m → P prefix l → P (prefix ++ t ∷ []) m)
    → ((prefix rest : List Timed) (t : Timed) (l m : Account) → Passes entries prefix rest t l m → P prefix l → IsNone q (remarks (known prefix) t))
    → P [] no_account → list_any q (all_remarks entries) ≡ false
none_in q entries P o step quiet p = none_any q (all_remarks entries) (none_from q entries P o.audited step quiet 0 [] entries no_account o.order o.labels refl none_passed p)
