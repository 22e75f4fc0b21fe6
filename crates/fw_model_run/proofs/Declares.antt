-- A device more leads from a good state to a good state.
use Rattle.fw_model_run.proofs.Common.{◌≡◌, ℕ, ◌+◌, ◌<◌, List, [], ◌∷◌, ◌++◌, length, Option, Some, None, refl, ap, sym, subst, ◌∙◌, arith, DeviceKind, ResetEntry, kind_at, row_of, Shows}
use Rattle.fw_model_run.proofs.Common.{is_contender, State, with_device, epoch_of, IsGood, IsLatest, AreDeclared}
use Rattle.fw_devices.specs.Network.{facts_of}
use Rattle.fw_model_run.specs.Afterwards.{beginning}
use Rattle.fw_model_run.specs.Good.{ManagerContends}
use Rattle.fw_model_run.proofs.NextEntry.{entry_more}
use Rattle.fw_model_run.proofs.Networks.{one_more, kind_before, kinds_more, made_more, shows_more}
use Rattle.fw_model_run.specs.BusDeeds.{MayDeclare, declaring, declaring_beside, with_declared}
use Rattle.fw_model_run.specs.Found.{FoundBefore}
use Rattle.fw_model_run.proofs.Resets.{MayReset, reset_good, resets_by}
use Rattle.fw_model_run.proofs.Times.{beginning_good}

pub more_declared : (s : State) (name : List ℕ) (kind : DeviceKind) (ports speed : ℕ) → IsGood s → MayDeclare s ports speed → AreDeclared (with_device s.declared name kind ports speed)
more_declared s name kind ports speed g m = let h = g.declared in record {
  made = made_more s.declared.topology (facts_of kind ports speed) h.made (subst (λ k. k < 63) h.named m.room) (let some = m.least in omega (arith, some)) m.most m.rate;
  kinds = kinds_more s.declared.topology.devices s.declared.kinds kind ports speed h.kinds;
  named = one_more s.declared.names name ∙ (ap (λ k. k + 1) h.named ∙ sym (one_more s.declared.topology.devices (facts_of kind ports speed)));
}

still_contends : (s : State) (kind : DeviceKind) (e : ResetEntry) → length s.declared.kinds ≡ length s.declared.topology.devices → Shows s.declared.topology s.declared.kinds e
    → ManagerContends s.declared.kinds e → ManagerContends (s.declared.kinds ++ kind ∷ []) e
still_contends s kind e size h m n is =
    let w = m n is in
    let low = h.declared n (row_of w.0 (kind_at s.declared.kinds w.0)) (h.numbers w.0 n w.1) in
    (w.0, w.1, ap is_contender (kind_before s.declared.kinds kind w.0 (subst (λ k. w.0 < k) (sym size) low)) ∙ w.2)

-- one that is off
pub more_good : (s : State) (name : List ℕ) (kind : DeviceKind) (ports speed : ℕ) → IsGood s → MayDeclare s ports speed → 0 < length s.declared.names
    → IsGood (with_declared s name kind ports speed)
more_good s name kind ports speed g m some = record {
  declared = more_declared s name kind ports speed g m;
  latest = latest_ s.account.latest g.latest;
  reclaims = g.reclaims;
  stands = g.stands;
  unused = g.unused;
  time = g.time;
  losses = g.losses;
  half_steps = g.half_steps;
  written = g.written;
  decks = g.decks;
  streams = g.streams;
}
  where
    longer : 0 < length (s.declared.names ++ name ∷ [])
    longer = let e = one_more s.declared.names name in omega (arith, e)

    latest_ : (o : Option ResetEntry) → IsLatest o s.declared s.account
        → IsLatest o (with_declared s name kind ports speed).declared (with_declared s name kind ports speed).account
    latest_ None h = absurd (omega (arith, some, ap (λ (xs : List (List ℕ)). length xs) h.0))
    latest_ (Some e) h = (
      longer,
      shows_more s.declared.topology s.declared.kinds e (facts_of kind ports speed) kind g.declared.made g.declared.kinds.size (subst (λ k. 0 < k) g.declared.named some) h.1,
      h.2,
      still_contends s kind e g.declared.kinds.size h.1 h.3,
      h.4,
      (h.5.0, entry_more s.declared.topology s.declared.kinds kind (facts_of kind ports speed) e.epoch h.5.0 e g.declared.made g.declared.kinds.size h.5.1),
    )

-- the first one begins a bus reset
pub first_may : (s : State) (name : List ℕ) (kind : DeviceKind) (ports speed : ℕ) → IsGood s → MayDeclare s ports speed → s.declared.names ≡ []
    → MayReset (beginning s) (with_device s.declared name kind ports speed)
first_may s name kind ports speed g m none = record {
  good = beginning_good s g (no_epoch s.account.latest refl g.latest);
  counted = let e = no_epoch s.account.latest refl g.latest in omega (arith, e);
  declared = more_declared s name kind ports speed g m;
  some = let e = one_more s.declared.names name in omega (arith, e);
  kinds = λ e is. absurd (never e is g.latest);
  stays = λ e is. absurd (never e is g.latest);
}
  where
    never : (e : ResetEntry) → s.account.latest ≡ Some e → IsLatest s.account.latest s.declared s.account → ⊥
    never e is h = let some = (subst (λ o. IsLatest o s.declared s.account) is h).0 in omega (arith, some, ap (λ (xs : List (List ℕ)). length xs) none)

    no_epoch : (o : Option ResetEntry) → s.account.latest ≡ o → IsLatest o s.declared s.account → epoch_of o ≡ 0
    no_epoch None is h = refl
    no_epoch (Some e) is h = absurd (never e is g.latest)

pub declare_good : (s : State) (name : List ℕ) (kind : DeviceKind) (ports speed : ℕ) (found : FoundBefore s.declared.names) → IsGood s
    → (declaring s name kind ports speed found).may → IsGood (declaring s name kind ports speed found).after
declare_good s name kind ports speed found g may = go s.declared.names refl found may
  where
    go : (names : List (List ℕ)) → s.declared.names ≡ names → (f : FoundBefore names) → (declaring_beside names s name kind ports speed f).may
        → IsGood (declaring_beside names s name kind ports speed f).after
    go [] none e may =
        reset_good (beginning s) (with_device s.declared name kind ports speed) 0 _ _ (first_may s name kind ports speed g may.device none) (resets_by 1 s.half_steps may.reset refl refl)
    go (x ∷ names) more f may = more_good s name kind ports speed g may (let e = ap (λ (xs : List (List ℕ)). length xs) more in omega (arith, e))
