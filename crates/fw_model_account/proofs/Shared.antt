-- In a sound account no channel has two talkers, and they take at most 4915 units.
use Rattle.fw_model_account.proofs.Common.{PlugAt, ◌≡◌, ◌≢◌, ℕ, ◌≤◌, Bool, true, false, refl, arith, cond, Account, allocated, units_of, IsSound}
use Rattle.fw_model_account.specs.Account.{flow_units, talks}
use Rattle.fw_model_account.specs.Sound.{IsConflictFree, load}
use Rattle.fw_terms.proofs.Tables.{sum_plugs_fits}
use Rattle.fw_model_account.proofs.Events.{talker_is_allocated, talker_is_reclaimable}

share : Account → PlugAt → ℕ
share l p = cond (talks l p) (units_of (l.settings p)) 0

apart : (b : Bool) (l : Account) → IsSound l → l.reclaiming ≡ b → (p q : PlugAt) → talks l p ≡ true → talks l q ≡ true → (l.settings p).channel ≡ (l.settings q).channel → p ≡ q
apart true l s e p q t u same = grind (arith, talker_is_reclaimable l p s e t, talker_is_reclaimable l q s e u)
apart false l s e p q t u same = grind (arith, talker_is_allocated l p s e t, talker_is_allocated l q s e u)

talking : (l : Account) (p : PlugAt) → share l p ≢ 0 → talks l p ≡ true
unfolding share
talking l p h = grind arith

fits : (b : Bool) (l : Account) → IsSound l → l.reclaiming ≡ b → load l ≤ 4915
unfolding share
fits true l s e =
    omega (
      arith,
      s.reclaimable_load,
      sum_plugs_fits (share l) (λ p. (l.settings p).channel) (λ c. flow_units (l.reclaimable c))
          (λ p h. let t = talking l p h in let k = talker_is_reclaimable l p s e t in (s.reclaimable_bounded (l.settings p).channel _ k, grind arith))
          (λ p q h k. apart true l s e p q (talking l p h) (talking l q k)),
    )
fits false l s e =
    omega (
      arith,
      s.load,
      sum_plugs_fits (share l) (λ p. (l.settings p).channel) (λ c. allocated (l.allocations c))
          (λ p h. let t = talking l p h in let k = talker_is_allocated l p s e t in (s.bounded (l.settings p).channel _ k, grind arith))
          (λ p q h k. apart false l s e p q (talking l p h) (talking l q k)),
    )

pub is_conflict_free : (l : Account) → IsSound l → IsConflictFree l
is_conflict_free l s = record { one_talker = apart l.reclaiming l s refl; fits = fits l.reclaiming l s refl }
