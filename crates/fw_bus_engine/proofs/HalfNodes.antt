-- What devices keep through a half step of a controller: the node that answers has its word swapped as the account says, and all others stay.
use Rattle.fw_bus_engine.proofs.Common.{◌≡◌, ◌≢◌, inl, inr, ℕ, ◌<◌, Bool, true, false, Option, Some, refl, ap, sym, subst, ◌∙◌, arith, IsTrue}
use Rattle.fw_bus_engine.proofs.Common.{same_Some, at_plug, PlugAt, Request, Account, BandwidthAvailable, ChannelsAvailable, OutputPlug}
use Rattle.fw_bus_engine.proofs.Common.{InputPlug, Target, ControllerState, offset_of, request_at, register_at, stands, kind_at, State}
use Rattle.fw_bus_engine.proofs.Common.{manager_in, is_manager, IsGood, word_of, ◌&&◌, ◌==◌}
use Rattle.fw_terms.specs.Devices.{output_plugs_of, input_plugs_of}
use Rattle.fw_terms.proofs.KindLaws.{plugs_few}
use Rattle.fw_words.specs.declared.swap.Swap.{Swap}
use Rattle.fw_csr.specs.Manager.{words_after}
use Rattle.fw_model_account.specs.Network.{is_output, is_input}
use Rattle.fw_cmp_jobs.specs.declared.request.Target.TheVariants as target
use Rattle.fw_model_run.specs.State.{while_talking}
use Rattle.fw_model_run.specs.Spaces.{manager_words}
use Rattle.fw_bus_engine.proofs.Places.{HasTarget, Addresses, output_stands, input_stands, same_output, same_input, same_bandwidth, same_half, no_manager_id, managed, manager_is}
use Rattle.fw_bus_engine.proofs.Swaps.{IsAnswered, follows, passes}
use Rattle.fw_bus_engine.proofs.AnsweredNodes.{FollowsRequest}
use Rattle.fw_model_controllers.specs.Lingering.{LingerUnchanged}
use Rattle.fw_model_run.specs.Dubs.{dub_between}

-- ---- the node that answers

-- the state with another account, by which plugs talk, and other controllers
abbrev pub state_with : State → Account → (ℕ → ControllerState) → (ℕ → ℕ) → State
state_with s m f asked = record s { account = m; controllers = f; asked_at = asked; streams = while_talking m s.streams; dub = dub_between s.account m s.dub }

goes_on : (a b : Bool) → (a && b) ≡ (b && a)
goes_on true true = refl
goes_on true false = refl
goes_on false true = refl
goes_on false false = refl

-- what devices keep follows the request: the words of the account are those after the answer
pub answer_follows : (s : State) (m : Account) (f : ℕ → ControllerState) (asked : ℕ → ℕ) (d n : ℕ) (t : Target) (w : Option Swap) → IsGood s → Addresses s d n t
    → m.latest ≡ s.account.latest → m.withheld ≡ s.account.withheld → IsAnswered s.account m t w → LingerUnchanged s.account m
    → FollowsRequest s (state_with s m f asked) d n (request_at (offset_of t) w)
answer_follows s m f asked d n t w g a latest withheld x linger = record {
  place = a.number;
  declared = refl;
  decks = refl;
  latest = latest;
  withheld = withheld;
  outputs = λ k lt. let few = (plugs_few (kind_at s.declared.kinds d)).0 in
      follows s.account m t w (OutputPlug (at_plug d k)) x tt (λ e. output k lt (same_output s.account.latest d n k t a.has a.small (omega arith) e));
  inputs = λ k lt. let few = (plugs_few (kind_at s.declared.kinds d)).1 in
      follows s.account m t w (InputPlug (at_plug d k)) x tt (λ e. input k lt (same_input s.account.latest d n k t a.has a.small (omega arith) e));
  manager = words;
  other_outputs = λ c k ne. x.others (OutputPlug (at_plug c k)) tt (other_output c k ne t a.has);
  other_inputs = λ c k ne. x.others (InputPlug (at_plug c k)) tt (other_input c k ne t a.has);
  other_manager = λ k ne own.
      let apart : manager_in s.account.latest ≡ Some n → ⊥ = λ there. ne (same_Some k n (sym (manager_is (manager_in s.account.latest) k own) ∙ there)) in
      let units = x.others BandwidthAvailable tt (other_bandwidth apart t a.has) in
      let high = x.others (ChannelsAvailable 0) (inl refl) (other_channels apart 0 t a.has) in
      let low = x.others (ChannelsAvailable 32) (inr refl) (other_channels apart 32 t a.has) in
      λ i. record { bus_manager_id = s.bus_manager_id; bandwidth_available = units i; channels_available_hi = high i; channels_available_lo = low i; withheld = withheld i };
  linger = linger;
  hear = λ p. goes_on (s.dub.lingers p) (word_of m (InputPlug p) == word_of s.account (InputPlug p));
}
  where
    r : Request
    r = request_at (offset_of t) w

    output : (k : ℕ) → k < output_plugs_of (kind_at s.declared.kinds d) → OutputPlug (at_plug d k) ≡ register_at t
        → (OutputPlug (at_plug d k) ≡ register_at t) × IsTrue (stands s.account.latest t)
    output k lt e = (e, at t e)
      where
        at : (t : Target) → OutputPlug (at_plug d k) ≡ register_at t → stands s.account.latest t ≡ true
        at (target.OutputPlug p) e =
            let same : at_plug d k ≡ p = cc in subst (λ q. is_output s.account.latest q ≡ true) same (output_stands s d n k g a.number lt)
        at (target.InputPlug p) e = let no : ⊥ = cc in absurd no
        at (target.Channels base) e = let no : ⊥ = cc in absurd no
        at target.BandwidthAvailable e = let no : ⊥ = cc in absurd no

    input : (k : ℕ) → k < input_plugs_of (kind_at s.declared.kinds d) → InputPlug (at_plug d k) ≡ register_at t
        → (InputPlug (at_plug d k) ≡ register_at t) × IsTrue (stands s.account.latest t)
    input k lt e = (e, at t e)
      where
        at : (t : Target) → InputPlug (at_plug d k) ≡ register_at t → stands s.account.latest t ≡ true
        at (target.OutputPlug p) e = let no : ⊥ = cc in absurd no
        at (target.InputPlug p) e =
            let same : at_plug d k ≡ p = cc in subst (λ q. is_input s.account.latest q ≡ true) same (input_stands s d n k g a.number lt)
        at (target.Channels base) e = let no : ⊥ = cc in absurd no
        at target.BandwidthAvailable e = let no : ⊥ = cc in absurd no

    -- a register of the manager stands at its node
    bandwidth : (t : Target) → is_manager s.account.latest n ≡ true → BandwidthAvailable ≡ register_at t → stands s.account.latest t ≡ true
    bandwidth (target.OutputPlug p) own e = let no : ⊥ = cc in absurd no
    bandwidth (target.InputPlug p) own e = let no : ⊥ = cc in absurd no
    bandwidth (target.Channels base) own e = let no : ⊥ = cc in absurd no
    bandwidth target.BandwidthAvailable own e = managed s.account.latest n own

    channels : (half : ℕ) (t : Target) → is_manager s.account.latest n ≡ true → ChannelsAvailable half ≡ register_at t → stands s.account.latest t ≡ true
    channels half (target.OutputPlug p) own e = let no : ⊥ = cc in absurd no
    channels half (target.InputPlug p) own e = let no : ⊥ = cc in absurd no
    channels half (target.Channels base) own e = managed s.account.latest n own
    channels half target.BandwidthAvailable own e = let no : ⊥ = cc in absurd no

    words : is_manager s.account.latest n ≡ true → manager_words (state_with s m f asked) ≡ words_after (manager_words s) r
    words own =
        let id = sym (passes t w 0xFFFF_F000_021C s.bus_manager_id (no_manager_id t)) in
        let units = follows s.account m t w BandwidthAvailable x tt (λ e. let same = same_bandwidth t e in (same, bandwidth t own same)) in
        let high = follows s.account m t w (ChannelsAvailable 0) x (inl refl)
        (λ e. let same = same_half 0 t (inl refl) a.register e in (same, channels 0 t own same)) in
        let low = follows s.account m t w (ChannelsAvailable 32) x (inr refl)
        (λ e. let same = same_half 32 t (inr refl) a.register e in (same, channels 32 t own same)) in
        λ i. record { bus_manager_id = id i; bandwidth_available = units i; channels_available_hi = high i; channels_available_lo = low i; withheld = withheld i }

    -- a register of another node is not the target
    other_output : (c k : ℕ) → c ≢ d → (t : Target) → HasTarget s.account.latest d n t → OutputPlug (at_plug c k) ≢ register_at t
    other_output c k ne (target.OutputPlug p) has e = let same : at_plug c k ≡ p = cc in ne (ap (λ (q : PlugAt). q.device) same ∙ has)
    other_output c k ne (target.InputPlug p) has e = let no : ⊥ = cc in no
    other_output c k ne (target.Channels base) has e = let no : ⊥ = cc in no
    other_output c k ne target.BandwidthAvailable has e = let no : ⊥ = cc in no

    other_input : (c k : ℕ) → c ≢ d → (t : Target) → HasTarget s.account.latest d n t → InputPlug (at_plug c k) ≢ register_at t
    other_input c k ne (target.OutputPlug p) has e = let no : ⊥ = cc in no
    other_input c k ne (target.InputPlug p) has e = let same : at_plug c k ≡ p = cc in ne (ap (λ (q : PlugAt). q.device) same ∙ has)
    other_input c k ne (target.Channels base) has e = let no : ⊥ = cc in no
    other_input c k ne target.BandwidthAvailable has e = let no : ⊥ = cc in no

    other_bandwidth : (manager_in s.account.latest ≡ Some n → ⊥) → (t : Target) → HasTarget s.account.latest d n t
        → BandwidthAvailable ≢ register_at t
    other_bandwidth apart (target.OutputPlug p) has same = let no : ⊥ = cc in no
    other_bandwidth apart (target.InputPlug p) has same = let no : ⊥ = cc in no
    other_bandwidth apart (target.Channels base) has same = apart has
    other_bandwidth apart target.BandwidthAvailable has same = apart has

    other_channels : (manager_in s.account.latest ≡ Some n → ⊥) → (half : ℕ) (t : Target) → HasTarget s.account.latest d n t
        → ChannelsAvailable half ≢ register_at t
    other_channels apart half (target.OutputPlug p) has same = let no : ⊥ = cc in no
    other_channels apart half (target.InputPlug p) has same = let no : ⊥ = cc in no
    other_channels apart half (target.Channels base) has same = apart has
    other_channels apart half target.BandwidthAvailable has same = apart has
