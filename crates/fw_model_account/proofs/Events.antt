-- A reset, the end of a reclaim second and the withholding of channel 31 keep the account sound.
use Rattle.fw_model_account.proofs.Common.{PlugAt, ◌≡◌, ℕ, ◌-◌, ◌^◌, ◌<◌, ◌≤◌, Bool, true, false, Option, Some}
use Rattle.fw_model_account.proofs.Common.{None, is_some, refl, sym, ◌∙◌, subst, true≢false, arith, nat_tests, ◌&&◌, ◌==◌, Connected}
use Rattle.fw_model_account.proofs.Common.{Account, has_connection, allocated, units_of, is_output, ResetEntry, false≢true, IsSound}
use Rattle.std.proofs.Common.{pow_pos, if◌then◌else◌}
use Rattle.fw_terms.specs.Tables.{find_plug}
use Rattle.fw_model_account.specs.Account.{Flow, reclaimable_total, flow_units, talks, is_withheld}
use Rattle.fw_plug.specs.Words.{Settings, FitsRegister}
use Rattle.fw_model_account.specs.Events.{no_connections, talker_at, after_reset, after_second, after_withholding, flow_of}
use Rattle.fw_log_entry.specs.Network.{IsNetwork}
use Rattle.fw_model_account.specs.Network.{declared}
use Rattle.fw_model_account.proofs.Network.{not_both, no_outputs, output_in_range, declared_fits}
use Rattle.fw_terms.proofs.Tables.{sum_to_le, sum_to_zero, find_plug_is, IsFirstPlug}

pub second_ends : (l : Account) → IsSound l → IsSound (after_second l)
second_ends l s = record {
  load = s.load;
  bounded = s.bounded;
  allocated = s.allocated;
  connected = s.connected;
  one_pending = s.one_pending;
  for_addressed = s.for_addressed;
  reclaimable_once = λ a b p u v x y. grind arith;
  reclaimable_load = omega (arith, sum_to_zero 64);
  reclaimable_bounded = λ ch f e. grind arith;
  reclaimable_ends = λ e ch. refl;
  begins = λ e. let b = s.begins e in record {
    no_second = refl;
    allocations = b.allocations;
    outputs = b.outputs;
    inputs = b.inputs;
    continues = λ p. refl;
    addressed = b.addressed;
    outstanding = b.outstanding;
  };
  there = λ p t. grind (arith, s.there p);
  inputs_there = s.inputs_there;
  continuing = λ p t. grind arith;
  reclaimed = λ t ch x e. grind arith;
  counts = s.counts;
  controllers = s.controllers;
  range = s.range;
  settings_fit = s.settings_fit;
  channels_fit = s.channels_fit;
  withheld_unallocated = s.withheld_unallocated;
  withheld_unclaimed = λ ch w. refl;
}

-- with no second, who talks has a connection
is_connected : (l : Account) (p : PlugAt) → IsSound l → l.reclaiming ≡ false → talks l p ≡ true → has_connection (l.outputs p) ≡ true
is_connected l p s none t = grind (arith, nat_tests, s.continuing p, s.reclaimable_ends none (l.settings p).channel)

-- who talks has its channel and its units, by an allocation or, while a second runs, in the reclaimable list
pub talker_is_allocated : (l : Account) (p : PlugAt) → IsSound l → l.reclaiming ≡ false → talks l p ≡ true
    → l.allocations (l.settings p).channel ≡ Some (record { holder = Connected p; units = units_of (l.settings p) })
talker_is_allocated l p s none t = s.allocated p (is_connected l p s none t)

some_units : (k : Settings) → 0 < units_of k
some_units k = let e : 0 < 2 ^ (4 - k.rate) = pow_pos (4 - k.rate) in omega arith

pub talker_is_reclaimable : (l : Account) (p : PlugAt) → IsSound l → l.reclaiming ≡ true → talks l p ≡ true
    → l.reclaimable (l.settings p).channel ≡ Some (record { plug = p; units = units_of (l.settings p) })
talker_is_reclaimable l p s runs t = go (has_connection (l.outputs p)) refl
  where
    go : (b : Bool) → has_connection (l.outputs p) ≡ b → l.reclaimable (l.settings p).channel ≡ Some (record { plug = p; units = units_of (l.settings p) })
    go true e = grind (arith, some_units (l.settings p), s.reclaimed runs (l.settings p).channel (record { holder = Connected p; units = units_of (l.settings p) }) (s.allocated p e))
    go false e = (s.continuing p (grind arith)).1

-- with no second, one plug talks on a channel
one_talker : (l : Account) (p q : PlugAt) → IsSound l → l.reclaiming ≡ false → talks l p ≡ true → talks l q ≡ true → (l.settings p).channel ≡ (l.settings q).channel → p ≡ q
one_talker l p q s none t u e = grind (arith, talker_is_allocated l p s none t, talker_is_allocated l q s none u)

-- what the search for a channel's talker finds
abbrev pub IsTalker : Account → ℕ → Option Flow → Type 0
IsTalker l ch None = (p : PlugAt) → talks l p ≡ true → (l.settings p).channel ≡ ch → ⊥
IsTalker l ch (Some f) = (talks l f.plug ≡ true) × ((l.settings f.plug).channel ≡ ch) × (f.units ≡ units_of (l.settings f.plug))

pub talker_at_is : (l : Account) (ch : ℕ) → IsSound l → IsTalker l ch (talker_at l ch)
talker_at_is l ch s = go (find_plug test) (find_plug_is test)
  where
    test : PlugAt → Bool
    test p = talks l p && ((l.settings p).channel == ch)

    go : (o : Option PlugAt) → IsFirstPlug test o → IsTalker l ch (flow_of l.settings o)
    go None f = λ p t e. grind (arith, nat_tests, f p, s.there p, output_in_range l.latest p s.range)
    go (Some p) f = grind (arith, nat_tests)

no_connection : has_connection no_connections ≡ false
no_connection = grind (arith, nat_tests, sum_to_zero 63)

-- the reclaimable list after a reset
abbrev pub reclaimable_after : Bool → Account → ℕ → Option Flow
reclaimable_after b l = if b then l.reclaimable else talker_at l

reclaimable_has : (b : Bool) (l : Account) (p : PlugAt) → IsSound l → l.reclaiming ≡ b → talks l p ≡ true
    → reclaimable_after b l (l.settings p).channel ≡ Some (record { plug = p; units = units_of (l.settings p) })
reclaimable_has true l p s e t = talker_is_reclaimable l p s e t
reclaimable_has false l p s e t = go (talker_at l (l.settings p).channel) (talker_at_is l (l.settings p).channel s)
  where
    go : (o : Option Flow) → IsTalker l (l.settings p).channel o → o ≡ Some (record { plug = p; units = units_of (l.settings p) })
    go None f = absurd (f p t refl)
    go (Some g) f = grind (arith, one_talker l g.plug p s e f.0 t f.1)

reclaimable_fits : (b : Bool) (l : Account) → IsSound l → l.reclaiming ≡ b → reclaimable_total (reclaimable_after b l) ≤ 4915
reclaimable_fits true l s e = s.reclaimable_load
reclaimable_fits false l s e = omega (arith, s.load, sum_to_le 64 (λ ch. flow_units (talker_at l ch)) (λ ch. allocated (l.allocations ch)) (λ ch lt. below ch (talker_at l ch) (talker_at_is l ch s)))
  where
    below : (ch : ℕ) (o : Option Flow) → IsTalker l ch o → flow_units o ≤ allocated (l.allocations ch)
    below ch None f = omega arith
    below ch (Some g) f = grind (arith, talker_is_allocated l g.plug s e f.0)

reclaimable_apart : (b : Bool) (l : Account) → IsSound l → l.reclaiming ≡ b → (i j : ℕ) (p : PlugAt) (u v : ℕ) → reclaimable_after b l i ≡ Some (record { plug = p; units = u })
    → reclaimable_after b l j ≡ Some (record { plug = p; units = v }) → i ≡ j
reclaimable_apart true l s e = s.reclaimable_once
reclaimable_apart false l s e = λ i j p u v x y. go i j p u v (talker_at l i) (talker_at l j) (talker_at_is l i s) (talker_at_is l j s) x y
  where
    go : (i j : ℕ) (p : PlugAt) (u v : ℕ) (a b : Option Flow) → IsTalker l i a → IsTalker l j b → a ≡ Some (record { plug = p; units = u }) → b ≡ Some (record { plug = p; units = v }) → i ≡ j
    go i j p u v None b f g x y = grind arith
    go i j p u v (Some a) None f g x y = grind arith
    go i j p u v (Some a) (Some b) f g x y = grind arith

reclaimable_within : (b : Bool) (l : Account) → IsSound l → l.reclaiming ≡ b → (ch : ℕ) (f : Flow) → reclaimable_after b l ch ≡ Some f → ch < 64
reclaimable_within true l s e = s.reclaimable_bounded
reclaimable_within false l s e = λ ch f x. go ch f (talker_at l ch) (talker_at_is l ch s) x
  where
    go : (ch : ℕ) (f : Flow) (o : Option Flow) → IsTalker l ch o → o ≡ Some f → ch < 64
    go ch f None t x = grind arith
    go ch f (Some g) t x = let k = s.bounded (l.settings g.plug).channel _ (talker_is_allocated l g.plug s e t.0) in grind (arith)

reclaimable_none : (b : Bool) (l : Account) → IsSound l → l.reclaiming ≡ b → l.latest ≡ None → (ch : ℕ) → reclaimable_after b l ch ≡ None
reclaimable_none true l s e n = absurd (false≢true (sym (s.begins n).no_second ∙ e))
reclaimable_none false l s e n = λ ch. go (talker_at l ch) ch (talker_at_is l ch s)
  where
    go : (o : Option Flow) (ch : ℕ) → IsTalker l ch o → o ≡ None
    go None ch f = refl
    go (Some g) ch f = absurd (no_outputs l.latest g.plug n (s.there g.plug f.0))

reclaimable_withheld : (b : Bool) (l : Account) → IsSound l → l.reclaiming ≡ b → (ch : ℕ) → is_withheld l.withheld ch ≡ true → reclaimable_after b l ch ≡ None
reclaimable_withheld true l s e = s.withheld_unclaimed
reclaimable_withheld false l s e = λ ch w. go ch w (talker_at l ch) (talker_at_is l ch s)
  where
    go : (ch : ℕ) → is_withheld l.withheld ch ≡ true → (o : Option Flow) → IsTalker l ch o → o ≡ None
    go ch w None t = refl
    go ch w (Some g) t = absurd (not_both _ _ (s.withheld_unallocated ch w)
        (subst (λ k. l.allocations k ≡ Some (record { holder = Connected g.plug; units = units_of (l.settings g.plug) })) t.1 (talker_is_allocated l g.plug s e t.0)))

kept_after : (b : Bool) (k d : Settings) → (b ≡ true → FitsRegister k) → FitsRegister d → FitsRegister (if b then k else d)
kept_after true k d f g = f refl
kept_after false k d f g = g

no_reset : (o : Option ResetEntry) → is_some o ≡ false → o ≡ None
no_reset None e = refl
no_reset (Some r) e = absurd (true≢false e)

pub reset_keeps : (r : ResetEntry) (l : Account) → IsNetwork r → IsSound l → IsSound (after_reset r l)
reset_keeps r l fits s = record {
  load = omega (arith, sum_to_zero 64);
  bounded = λ d x e. grind arith;
  allocated = λ q t. grind (arith, no_connection);
  connected = λ d q u e. grind arith;
  one_pending = λ d a b x y. grind arith;
  for_addressed = λ d a q u e. grind arith;
  reclaimable_once = reclaimable_apart l.reclaiming l s refl;
  reclaimable_load = reclaimable_fits l.reclaiming l s refl;
  reclaimable_bounded = reclaimable_within l.reclaiming l s refl;
  reclaimable_ends = λ e. reclaimable_none l.reclaiming l s refl (no_reset l.latest e);
  begins = λ e. cc;
  there = λ q t. grind (arith, no_connection);
  inputs_there = λ q t. grind (arith, no_connection);
  continuing = λ q t. grind (arith, no_connection, reclaimable_has l.reclaiming l q s refl, s.there q);
  reclaimed = λ t d x e. grind arith;
  counts = λ q. grind (arith, sum_to_zero 63);
  controllers = λ q d le. (refl, refl);
  range = fits.range;
  settings_fit = λ q t. kept_after (is_output l.latest q) (l.settings q) (declared r q) (s.settings_fit q) (declared_fits r q fits);
  channels_fit = λ q t. grind (arith, s.channels_fit q);
  withheld_unallocated = λ ch w. refl;
  withheld_unclaimed = reclaimable_withheld l.reclaiming l s refl;
}

-- before the first reset nothing is allocated that could be withheld
pub withholding_keeps : (l : Account) → l.latest ≡ None → IsSound l → IsSound (after_withholding l)
withholding_keeps l first s = let none = s.begins first in record {
  load = s.load;
  bounded = s.bounded;
  allocated = s.allocated;
  connected = s.connected;
  one_pending = s.one_pending;
  for_addressed = s.for_addressed;
  reclaimable_once = s.reclaimable_once;
  reclaimable_load = s.reclaimable_load;
  reclaimable_bounded = s.reclaimable_bounded;
  reclaimable_ends = s.reclaimable_ends;
  withheld_unallocated = λ ch w. none.allocations ch;
  withheld_unclaimed = λ ch w. s.reclaimable_ends none.no_second ch;
  begins = λ e. record {
    no_second = none.no_second;
    allocations = none.allocations;
    outputs = none.outputs;
    inputs = none.inputs;
    continues = none.continues;
    addressed = none.addressed;
    outstanding = none.outstanding;
  };
  there = s.there;
  inputs_there = s.inputs_there;
  continuing = s.continuing;
  reclaimed = s.reclaimed;
  counts = s.counts;
  controllers = s.controllers;
  range = s.range;
  settings_fit = s.settings_fit;
  channels_fit = s.channels_fit;
}

-- after a reset each flow that talked is reclaimable
pub reset_reclaimable : (r : ResetEntry) (l : Account) (p : PlugAt) → IsSound l → talks l p ≡ true
    → (after_reset r l).reclaimable (l.settings p).channel ≡ Some (record { plug = p; units = units_of (l.settings p) })
reset_reclaimable r l p s t = reclaimable_has l.reclaiming l p s refl t
