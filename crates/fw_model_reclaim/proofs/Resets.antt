-- After a bus reset each connection that stood can be restored, and so can each that was to be restored in its own second.
use Rattle.fw_model_reclaim.proofs.Common.{PlugAt, ◌≡◌, true, Some, is_some, sym, ap, subst, ◌∙◌, arith}
use Rattle.fw_model_reclaim.proofs.Common.{cond, ResetEntry, Account, has_connection, account_reset, is_output, is_input, IsSound, Connection}
use Rattle.fw_model_reclaim.proofs.Common.{Flow, output_of, input_of, IsFlow, KeepsFlow, IsRestorable}
use Rattle.std.proofs.Common.{◌||◌}
use Rattle.fw_model_account.specs.Account.{talks}
use Rattle.fw_model_account.specs.Events.{talker_at}
use Rattle.fw_model_account.specs.Network.{declared}
use Rattle.fw_model_reclaim.specs.Worlds.{Grows}

-- what a plug of the bus is set to stays
settings_stay : (l : Account) (r : ResetEntry) (p : PlugAt) → is_output l.latest p ≡ true → (account_reset r l).settings p ≡ l.settings p
settings_stay l r p there = ap (λ b. cond b (l.settings p) (declared r p)) there

channel_stays : (l : Account) (r : ResetEntry) (q : PlugAt) → is_input l.latest q ≡ true → (account_reset r l).input_channel q ≡ l.input_channel q
channel_stays l r q there = ap (λ b. cond b (l.input_channel q) 63) there

flow_stays : (l : Account) (r : ResetEntry) (conn : Connection) (f : Flow) → Grows l r → ((p : PlugAt) → output_of conn ≡ Some p → is_output l.latest p ≡ true)
    → ((q : PlugAt) → input_of conn ≡ Some q → is_input l.latest q ≡ true) → KeepsFlow l conn f → KeepsFlow (account_reset r l) conn f
flow_stays l r conn f g out into k = record {
  output = λ p e. subst (λ x. IsFlow x f) (sym (settings_stay l r p (out p e))) (k.output p e);
  input = λ q e. channel_stays l r q (into q e) ∙ k.input q e;
  manager = λ e. g.manager (k.manager e);
}

-- a connection that stood
pub stood_restorable : (l : Account) (r : ResetEntry) (conn : Connection) (f : Flow) → IsSound l → IsSound (account_reset r l) → is_some l.latest ≡ true → Grows l r
    → ((p : PlugAt) → output_of conn ≡ Some p → has_connection (l.outputs p) ≡ true) → ((q : PlugAt) → input_of conn ≡ Some q → has_connection (l.inputs q) ≡ true) → KeepsFlow l conn f
    → IsRestorable (account_reset r l) conn f
stood_restorable l r conn f s t begun g out into k = record {
  second = begun;
  keeps = flow_stays l r conn f g there inputs_there k;
  listed = λ p e. listed p e;
  output = λ p e. g.outputs p (there p e);
  input = λ q e. g.inputs q (inputs_there q e);
}
  where
    talking : (p : PlugAt) → output_of conn ≡ Some p → talks l p ≡ true
    talking p e = ap (λ b. b || l.continues p) (out p e)

    there : (p : PlugAt) → output_of conn ≡ Some p → is_output l.latest p ≡ true
    there p e = s.there p (talking p e)

    inputs_there : (q : PlugAt) → input_of conn ≡ Some q → is_input l.latest q ≡ true
    inputs_there q e = s.inputs_there q (into q e)

    continues : (p : PlugAt) → output_of conn ≡ Some p → (account_reset r l).continues p ≡ true
    continues p e = grind (arith, talking p e, g.outputs p (there p e))

    listed : (p : PlugAt) → output_of conn ≡ Some p → (account_reset r l).reclaimable f.channel ≡ Some (record { plug = p; units = f.units })
    listed p e =
        let is : IsFlow ((account_reset r l).settings p) f = subst (λ x. IsFlow x f) (sym (settings_stay l r p (there p e))) (k.output p e) in
        let at = (t.continuing p (continues p e)).1 in
        subst (λ ch. (account_reset r l).reclaimable ch ≡ Some (record { plug = p; units = f.units })) is.channel (at ∙ ap (λ u. Some (record { plug = p; units = u })) is.units)

-- one that was to be restored
pub stays_own : (l : Account) (r : ResetEntry) (conn : Connection) (f : Flow) → is_some l.latest ≡ true → Grows l r → IsRestorable l conn f → IsRestorable (account_reset r l) conn f
stays_own l r conn f begun g k = record {
  second = begun;
  keeps = flow_stays l r conn f g k.output k.input k.keeps;
  listed = λ p e. ap (λ b. cond b l.reclaimable (talker_at l) f.channel) k.second ∙ k.listed p e;
  output = λ p e. g.outputs p (k.output p e);
  input = λ q e. g.inputs q (k.input q e);
}
