-- The log of a run has no fault.
use Rattle.fw_model_run.proofs.Common.{◌≡◌, List, [], ◌∷◌, ◌++◌, Some, refl, ap, sym, subst, ◌∙◌, Entry, Timed, Account, entries_of, IsSound, State, first_state, Action, Transitions}
use Rattle.fw_model_account.specs.Fold.{account_of}
use Rattle.fw_model_account.specs.Sound.{IsConflictFree}
use Rattle.fw_model_audit.specs.Looked.{looked, ShowsWords}
use Rattle.fw_model_audit.specs.Audited.{IsAudited, IsVouched}
use Rattle.fw_model_audit.proofs.Vouched.{vouched_audited}
use Rattle.fw_model_run.specs.Headline.{IsSoundThroughout}
use Rattle.fw_model_run.proofs.Sounds.{sound_throughout}

-- ---- parts of a list of entries are those of its log

pub record Part (log : List Timed) (prefix rest : List Entry) : Type 0 where
  pub before : List Timed
  pub after : List Timed
  pub parts : log ≡ before ++ after
  pub prefix_is : entries_of before ≡ prefix
  pub rest_is : entries_of after ≡ rest

part_of : (log : List Timed) (prefix rest : List Entry) → entries_of log ≡ prefix ++ rest → Part log prefix rest
part_of log [] rest is = record { before = []; after = log; parts = refl; prefix_is = refl; rest_is = is }
part_of [] (e ∷ es) rest is = absurd (let wrong : [] ≡ e ∷ (es ++ rest) = is in cc wrong)
part_of (t ∷ ts) (e ∷ es) rest is =
    let both : t.what ∷ entries_of ts ≡ e ∷ (es ++ rest) = is in
    let first : t.what ≡ e = cc both in
    let tail : entries_of ts ≡ es ++ rest = cc both in
    let p = part_of ts es rest tail in
    record {
      before = t ∷ p.before;
      after = p.after;
      parts = ap (λ xs. t ∷ xs) p.parts;
      prefix_is = ap (λ xs. t.what ∷ xs) p.prefix_is ∙ ap (λ x. x ∷ es) first;
      rest_is = p.rest_is;
    }

-- ---- the log

vouched : (actions : List Action) (log : List Timed) → IsSoundThroughout actions log → IsVouched (entries_of log)
vouched actions log h = record { accounts = accounts; words = words }
  where
    accounts : (prefix rest : List Entry) → entries_of log ≡ prefix ++ rest → (l : Account) × (account_of prefix ≡ Some l) × IsSound l × IsConflictFree l
    accounts prefix rest is =
        let p = part_of log prefix rest is in
        let f = h.fronts p.before p.after p.parts in
        let at = h.states f.0 f.1 p.before f.2 f.3 f.4 in
        (f.2.account, ap account_of (sym p.prefix_is) ∙ at.account, at.sound, at.free)

    words : (prefix rest : List Entry) (e : Entry) → entries_of log ≡ prefix ++ e ∷ rest → (l : Account) × (account_of prefix ≡ Some l) × ShowsWords l (looked e)
    words prefix rest e is = let p = part_of log prefix (e ∷ rest) is in go p.before p.after p.parts p.prefix_is p.rest_is
      where
        go : (before after : List Timed) → log ≡ before ++ after → entries_of before ≡ prefix → entries_of after ≡ e ∷ rest → (l : Account) × (account_of prefix ≡ Some l) × ShowsWords l (looked e)
        go before [] parts prefix_is rest_is = absurd (cc rest_is)
        go before (t ∷ ts) parts prefix_is rest_is =
            let both : t.what ∷ entries_of ts ≡ e ∷ rest = rest_is in
            let same : t.what ≡ e = cc both in
            let x = h.answers before ts t parts in
            (x.0, ap account_of (sym prefix_is) ∙ x.1, subst (λ y. ShowsWords x.0 (looked y)) same x.2.1)

pub run_audited : (actions : List Action) (log : List Timed) (s : State) → Transitions first_state actions log s → IsAudited (entries_of log)
run_audited actions log s f = vouched_audited (entries_of log) (vouched actions log (sound_throughout actions log s f))

pub sound_audited : (actions : List Action) (log : List Timed) → IsSoundThroughout actions log → IsAudited (entries_of log)
sound_audited actions log h = vouched_audited (entries_of log) (vouched actions log h)
