-- In its own second a restoring finds the units that it wants, and its own channel at its output plug.
use Rattle.fw_model_controllers.proofs.Common.{◌≡◌, ℕ, ◌+◌, ◌<◌, ◌≤◌, leb, Bool, true, false, Option, Some, None, eqb}
use Rattle.fw_model_controllers.proofs.Common.{cond, refl, ap, subst, sym, arith, ◌∙◌, nat_tests, PlugAt, update, Reply, Settings, Account}
use Rattle.fw_model_controllers.proofs.Common.{Pending, Allocation, allocated, remainder, has_connection, IsSound, word_of, is_output}
use Rattle.fw_model_controllers.proofs.Common.{Job, Target, OutputPlug, BandwidthAvailable, Stage, Begin, ReadOutput}
use Rattle.fw_model_controllers.proofs.Common.{ReadChannels, SwapChannels, ReadBandwidth, SwapBandwidth, ConnectOutput, OverlayOutput}
use Rattle.fw_model_controllers.proofs.Common.{ReadInput, ConnectInput, ReadInputToLeave, LeaveInput, ReadOutputToLeave}
use Rattle.fw_model_controllers.proofs.Common.{LeaveOutput, ReadBandwidthToRelease, RaiseBandwidth, ReadChannelsToRelease, RestoreChannel, Made}
use Rattle.fw_model_controllers.proofs.Common.{Ended, output_of, needs, StageFits, pending_of, channel_of}
use Rattle.fw_model_controllers.proofs.Common.{remainder_of, target_of, hear, refuse, hear_reply, IsAnswer, register_at, stands, Others, IsInStep, allocates, units_at}
use Rattle.fw_terms.proofs.Tables.{sum_to_le}
use Rattle.fw_model_account.specs.Account.{total, flow_units}
use Rattle.fw_model_account.proofs.Allocations.{total_changed}
use Rattle.fw_cmp_jobs.specs.Decisions.{is_other}
use Rattle.fw_model_controllers.specs.Wants.{wants}
use Rattle.fw_model_controllers.proofs.Answers.{mapped, output_plug}
use Rattle.fw_model_controllers.proofs.Makes.{held_is, reclaim_is}
use Rattle.fw_model_controllers.proofs.Moved.{settings_fit, outputs_fit}
use Rattle.fw_model_controllers.proofs.Words.{output_word, output_shows, settings_shown, shows_connected, remainder_shown}
use Rattle.fw_model_controllers.proofs.Wants.{IsKept, Finds, hear_wants, refuse_wants}

-- ---- what the account shows

-- a complete answer is that of a register that there is
word_heard : (l : Account) (t : Target) (r : Reply) → IsAnswer l t r → r.rcode ≡ 0 → (stands l.latest t ≡ true) × (r.value ≡ word_of l (register_at t))
word_heard l t r a e = go (stands l.latest t) refl
  where
    go : (b : Bool) → stands l.latest t ≡ b → (stands l.latest t ≡ true) × (r.value ≡ word_of l (register_at t))
    go true there = (there, (a.complete there).1)
    go false gone = absurd (a.refused gone e)

-- in a second the units of a reclaimable flow are left for the one that has its channel
room : (l : Account) (c ch u : ℕ) (p : PlugAt) → IsSound l → l.reclaiming ≡ true → ch < 64 → l.allocations ch ≡ Some (record { holder = Pending c p; units = 0 })
    → l.reclaimable ch ≡ Some (record { plug = p; units = u }) → total l.allocations + u ≤ 4915
room l c ch u p s runs lt held flow =
    let e = total_changed l.allocations ch (Some (record { holder = Pending c p; units = u })) lt in
    let le = sum_to_le 64 (λ k. allocated (update l.allocations ch (Some (record { holder = Pending c p; units = u })) k)) (λ k. flow_units (l.reclaimable k)) (λ k small. each k (eqb k ch) refl) in
    omega (arith, e, le, s.reclaimable_load, ap allocated held)
  where
    within : (k : ℕ) (o : Option Allocation) → l.allocations k ≡ o → allocated o ≤ flow_units (l.reclaimable k)
    within k None e = omega arith
    within k (Some x) e = let w = s.reclaimed runs k x e in let f = ap flow_units w.1 in grind (arith, w.2)

    each : (k : ℕ) (b : Bool) → eqb k ch ≡ b → allocated (update l.allocations ch (Some (record { holder = Pending c p; units = u })) k) ≤ flow_units (l.reclaimable k)
    each k true e = let same : k ≡ ch = grind (arith, nat_tests) in let f = ap flow_units flow in grind (arith, nat_tests)
    each k false e = let w = within k (l.allocations k) refl in grind (arith, nat_tests)

finds_units : (l : Account) (c : ℕ) (j : Job) (s : Stage) (others : Others) (ch w : ℕ) (p : PlugAt) (r : Reply) → IsSound l → IsInStep l c j s true others → l.reclaiming ≡ true
    → output_of j.connection ≡ Some p → allocates s ≡ true → pending_of s ≡ Some (record { channel = ch; units = 0 }) → is_other j.asked ch ≡ false
    → needs j w ≡ units_at (l.settings p).rate j.overhead → IsAnswer l BandwidthAvailable r → r.rcode ≡ 0 → leb (needs j w) (remainder_of r.value) ≡ true
finds_units l c j s others ch w p r sound x runs e may held own need a code =
    let h = held_is l c j s true others p (record { channel = ch; units = 0 }) x e held in
    let flow = reclaim_is l p j ch (x.reclaims p e runs may) own in
    let left = room l c ch (units_at (l.settings p).rate j.overhead) p sound runs h.0 h.1 flow in
    let shown : r.value ≡ remainder l = (word_heard l BandwidthAvailable r a code).1 in
    let small = remainder_shown (remainder l) (omega arith) in
    rw shown (rw (small, need) (grind (arith, nat_tests)))

finds_kept : (l : Account) (c : ℕ) (j : Job) (s : Stage) (others : Others) (p : PlugAt) (r : Reply) → IsSound l → IsInStep l c j s true others → l.reclaiming ≡ true → output_of j.connection ≡ Some p
    → allocates s ≡ true → IsAnswer l (OutputPlug p) r → r.rcode ≡ 0 → IsKept j r.value
finds_kept l c j s others p r sound x runs e may a code = let w = word_heard l (OutputPlug p) r a code in subst (IsKept j) (sym w.1) (kept w.0)
  where
    kept : is_output l.latest p ≡ true → IsKept j (output_word (l.outputs p) (l.settings p))
    kept there connected =
        let fits = settings_fit l p sound there in
        let most = outputs_fit l p sound in
        let has : has_connection (l.outputs p) ≡ true = sym (shows_connected _ _ (output_shows (l.outputs p) (l.settings p) most fits)) ∙ connected in
        let flow = sound.reclaimed runs (l.settings p).channel _ (sound.allocated p has) in
        let mine = x.reclaims p e runs may in
        let same : mine.0 ≡ (l.settings p).channel = sound.reclaimable_once mine.0 (l.settings p).channel p _ _ mine.2 flow.1 in
        let shown : channel_of (output_word (l.outputs p) (l.settings p)) ≡ (l.settings p).channel = ap (λ (y : Settings). y.channel) (settings_shown (l.outputs p) (l.settings p) most fits) in
        rw (mine.1, shown, same) (grind (arith, nat_tests))

-- ---- a half step

finds : (l : Account) (c : ℕ) (j : Job) (s : Stage) (others : Others) (t : Target) (r : Reply) → IsSound l → StageFits j s → IsInStep l c j s true others
    → ((p : PlugAt) → output_of j.connection ≡ Some p → l.reclaiming ≡ true) → target_of j s ≡ Some t → IsAnswer l t r → r.rcode ≡ 0 → Finds j r.value s
finds l c j ReadOutput others t r sound fits x runs e a code = let w = mapped OutputPlug (output_of j.connection) t e in
    finds_kept l c j ReadOutput others w.0 r sound x (runs w.0 w.1) w.1 refl (subst (λ y. IsAnswer l y r) (sym w.2) a) code
finds l c j (ConnectOutput ch u arg) others t r sound fits x runs e a code = let w = mapped OutputPlug (output_of j.connection) t e in
    finds_kept l c j (ConnectOutput ch u arg) others w.0 r sound x (runs w.0 w.1) w.1 refl (subst (λ y. IsAnswer l y r) (sym w.2) a) code
finds l c j (OverlayOutput arg) others t r sound fits x runs e a code = let w = mapped OutputPlug (output_of j.connection) t e in
    finds_kept l c j (OverlayOutput arg) others w.0 r sound x (runs w.0 w.1) w.1 refl (subst (λ y. IsAnswer l y r) (sym w.2) a) code
finds l c j (ReadBandwidth ch w) others t r sound fits x runs e a code = let p = output_plug j.connection fits.0 in let same : BandwidthAvailable ≡ t = cc in
    finds_units l c j (ReadBandwidth ch w) others ch w p.0 r sound x (runs p.0 p.1) p.1 refl refl (x.knows p.0 p.1).0 (x.knows p.0 p.1).1 (subst (λ y. IsAnswer l y r) (sym same) a) code
finds l c j (SwapBandwidth ch u arg w) others t r sound fits x runs e a code = let p = output_plug j.connection fits.0 in let same : BandwidthAvailable ≡ t = cc in
    finds_units l c j (SwapBandwidth ch u arg w) others ch w p.0 r sound x (runs p.0 p.1) p.1 refl refl (x.knows p.0 p.1).0 (x.knows p.0 p.1).1 (subst (λ y. IsAnswer l y r) (sym same) a) code
finds l c j Begin others t r sound fits x runs e a code = tt
finds l c j (ReadChannels base w) others t r sound fits x runs e a code = tt
finds l c j (SwapChannels ch arg w) others t r sound fits x runs e a code = tt
finds l c j (ReadInput g) others t r sound fits x runs e a code = tt
finds l c j (ConnectInput g arg) others t r sound fits x runs e a code = tt
finds l c j (ReadInputToLeave ch u) others t r sound fits x runs e a code = tt
finds l c j (LeaveInput ch u arg) others t r sound fits x runs e a code = tt
finds l c j (ReadOutputToLeave end ch u) others t r sound fits x runs e a code = tt
finds l c j (LeaveOutput end ch u arg) others t r sound fits x runs e a code = tt
finds l c j (ReadBandwidthToRelease next ch u) others t r sound fits x runs e a code = tt
finds l c j (RaiseBandwidth next ch u arg) others t r sound fits x runs e a code = tt
finds l c j (ReadChannelsToRelease next ch) others t r sound fits x runs e a code = tt
finds l c j (RestoreChannel next ch arg) others t r sound fits x runs e a code = tt
finds l c j (Made g) others t r sound fits x runs e a code = tt
finds l c j (Ended end) others t r sound fits x runs e a code = tt

pub never_wants : (l : Account) (c : ℕ) (j : Job) (s : Stage) (others : Others) (t : Target) (r : Reply) → IsSound l → StageFits j s → IsInStep l c j s true others
    → ((p : PlugAt) → output_of j.connection ≡ Some p → l.reclaiming ≡ true) → target_of j s ≡ Some t → IsAnswer l t r → wants s ≡ false → wants (hear_reply j s r) ≡ false
never_wants l c j s others t r sound fits x runs e a q = go (eqb r.rcode 0) refl
  where
    go : (b : Bool) → eqb r.rcode 0 ≡ b → wants (cond b (hear j s r.value) (refuse j s r.rcode)) ≡ false
    go true f = hear_wants j s r.value q (finds l c j s others t r sound fits x runs e a (grind (arith, nat_tests)))
    go false f = refuse_wants j s r.rcode
