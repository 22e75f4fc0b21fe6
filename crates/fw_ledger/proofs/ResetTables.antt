-- The tables after a bus reset stand for the account after it.
use Rattle.fw_ledger.proofs.Common.{PlugAt, ResetEntry, ◌≡◌, ◌≢◌, ◌<◌, ◌-◌, ◌==◌, ◌&&◌, ◌||◌, not, nat_lt, ℕ, Bool, true, false, Option, Some, None, is_some, List, cond, slice_index, refl}
use Rattle.fw_ledger.proofs.Common.{sym, ◌∙◌, ap, subst, arith, nat_tests, out_word, in_word, is_connected, Account, Allocation, Connections, has_connection, counter, is_there, is_output, is_input}
use Rattle.fw_ledger.proofs.Common.{AreRates, IsSound, StandsFor, ShowsReset, no_seats, SeatsFor, allocation_of, charge_at, word_at, seats_at, place, Tables, Charge, Free, Pending, Connected, Seats}
use Rattle.fw_ledger.proofs.Common.{NodeRow, output_in_range, false≢true}
use Rattle.fw_terms.proofs.Tables.{sum_to_zero, sum_to_at}
use Rattle.fw_plug.specs.Words.{units_of}
use Rattle.fw_log_entry.specs.Network.{IsNetwork}
use Rattle.fw_model_account.specs.Account.{Owner, Flow, Connected as ConnectedHolder}
use Rattle.fw_model_account.specs.Account.{Pending as PendingHolder, Orphaned as OrphanedHolder, talks}
use Rattle.fw_model_account.specs.Network.{declared}
use Rattle.fw_model_account.specs.Events.{after_reset, talker_at, no_connections}
use Rattle.fw_model_account.specs.Words.{fields_at, input_fields_at}
use Rattle.fw_account_tables.specs.Stands.{first_high}
use Rattle.fw_ledger.specs.Resets.{first_output, first_input, talker}
use Rattle.fw_plug.specs.Plugs.{disconnected}
use Rattle.fw_ledger.specs.Renewed.{HasNewPlugs, IsRenewed}
use Rattle.fw_account_tables.specs.Stands.{OutputsFor, InputsFor, SecondFor}
use Rattle.fw_account_tables.specs.Stands.{flow_of, reclaimable_at, continues_at}
use Rattle.fw_account_tables.specs.declared.tables.Charge.TheVariants.{Orphaned}
use Rattle.fw_model_account.proofs.Events.{IsTalker, talker_at_is, talker_is_allocated, reset_reclaimable, reset_keeps}
use Rattle.fw_account_tables.proofs.Plugs.{input_in_range, place_low}
use Rattle.fw_account_tables.proofs.Starts.{copy_at}
use Rattle.fw_model_account.proofs.Open.{low_starts}
use Rattle.fw_account_tables.proofs.Plugs.{place_device, place_plug}
use Rattle.fw_ledger.proofs.ResetWords.{output_disconnected, input_disconnected, output_connected, input_connected}

-- ---- the flows that may be allocated again

-- no flow talks on a channel that no plug has connected
none_talks : (l : Account) (ch : ℕ) → l.reclaiming ≡ false → IsSound l
    → ((p : PlugAt) (u : ℕ) → l.allocations ch ≢ Some (record { holder = ConnectedHolder p; units = u })) → talker_at l ch ≡ None
none_talks l ch none s free = go (talker_at l ch) (talker_at_is l ch s)
  where
    go : (o : Option Flow) → IsTalker l ch o → o ≡ None
    go None h = refl
    go (Some f) h = absurd (free f.plug (units_of (l.settings f.plug))
        (subst (λ k. l.allocations k ≡ Some (record { holder = ConnectedHolder f.plug; units = units_of (l.settings f.plug) })) h.1
        (talker_is_allocated l f.plug s none h.0)))

-- an allocation has one holder
same_holder : (a b : Allocation) → Some a ≡ Some b → a.holder ≡ b.holder
same_holder a b e = let same : a ≡ b = cc in ap (λ (x : Allocation). x.holder) same

-- the flow of a charge is the one that talks
pub flow_talks : (r : ResetEntry) (l : Account) (ch : ℕ) (x : Charge) → l.reclaiming ≡ false → IsSound l → allocation_of x ≡ l.allocations ch
    → flow_of (talker x) ≡ talker_at l ch
flow_talks r l ch Free none s e = sym (none_talks l ch none s (λ p u f. let g = e ∙ f in cc))
flow_talks r l ch (Pending c q v) none s e = sym (none_talks l ch none s
    (λ p u f. let g = same_holder (record { holder = PendingHolder c q; units = v }) (record { holder = ConnectedHolder p; units = u }) (e ∙ f) in cc))
flow_talks r l ch (Orphaned q v) none s e = sym (none_talks l ch none s
    (λ p u f. let g = same_holder (record { holder = OrphanedHolder q; units = v }) (record { holder = ConnectedHolder p; units = u }) (e ∙ f) in cc))
flow_talks r l ch (Connected p u) none s e =
    let w = s.connected ch p u (sym e) in
    let talks_on : talks l p ≡ true = grind (arith, w.0) in
    let same : u ≡ units_of (l.settings p) = let f = s.allocated p w.0 in grind
    (arith, subst (λ k. l.allocations k ≡ Some (record { holder = ConnectedHolder p; units = u })) w.1 (sym e)) in
    let listed = reset_reclaimable r l p s talks_on in
    rw (same, w.1) (sym (subst (λ b. (cond b l.reclaimable (talker_at l)) (l.settings p).channel ≡ Some
    (record { plug = p; units = units_of (l.settings p) })) none listed))

-- a reset entry came before exactly if one is kept
started_is : (started : Bool) (manager : Option ℕ) (nodes : List NodeRow) (latest : Option ResetEntry) → ShowsReset started manager nodes latest
    → started ≡ is_some latest
started_is started manager nodes None h = h.0
started_is started manager nodes (Some r) h = h.0

-- ---- the tables

-- no connections
none_seated : SeatsFor no_seats no_connections
none_seated = record { size = refl; counts = λ c clt. let none : ℕ = 0 in copy_at {A = ℕ} 63 c none; broadcast = refl }

-- nobody has the broadcast connection if there is none
no_owner : (o : Option Owner) → is_there o ≡ false → o ≡ None
no_owner None h = refl
no_owner (Some x) h = absurd (false≢true (sym h))

-- no connection is counted if there is none
none_of : (n : ℕ) (b : Bool) → (nat_lt 0 n || b) ≡ false → (n ≡ 0) × (b ≡ false)
none_of n b h = (grind (arith, nat_tests), grind (arith, nat_tests))

-- the seats of a plug that has no connection are those of one without
left_seated : (t : Seats) (s : Connections) → SeatsFor t s → has_connection s ≡ false → SeatsFor t no_connections
left_seated t s h none = let w = none_of (counter s) (is_there s.broadcast) none in record {
  size = h.size;
  counts = λ c lt. h.counts c lt ∙ (let most = sum_to_at 63 c s.counts lt in let all = w.0 in omega arith);
  broadcast = h.broadcast ∙ no_owner s.broadcast w.1;
}

-- whether a word shows a connection, in the words of the account
counted : (b : Bool) (n : ℕ) → (b || not (n == 0)) ≡ (nat_lt 0 n || b)
counted b n = grind (arith, nat_tests)

-- the seats of a plug after the reset: those of one that was there and had no connection are as they were
seated : (there connected : Bool) (t : Seats) (s : Connections) → (there ≡ true → SeatsFor t s × (connected ≡ has_connection s))
    → SeatsFor (cond (there && not connected) t no_seats) no_connections
seated false connected t s h = none_seated
seated true true t s h = none_seated
seated true false t s h = let w = h refl in left_seated t s w.0 (sym w.1)

-- no connections are counted
none_counted : counter no_connections ≡ 0
none_counted = omega (arith, sum_to_zero 63)

flows_renewed : (t : Tables) (l : Account) (r : ResetEntry) (ch : ℕ) (b : Bool) → StandsFor t l → ch < 64 → t.reclaiming ≡ b → l.reclaiming ≡ b
    → flow_of (cond b (reclaimable_at t.reclaimable.items ch) (talker (charge_at t.charges.items ch))) ≡ (cond b l.reclaimable (talker_at l)) ch
flows_renewed t l r ch true h lt a b = h.second.reclaimable a ch lt
flows_renewed t l r ch false h lt a b = flow_talks r l ch (charge_at t.charges.items ch) b h.sound (h.resources.charges ch lt)

-- an output plug goes on if it talks, before it had the latest entry
on_renewed : (t : Tables) (l : Account) (p : PlugAt) (there runs : Bool) → StandsFor t l → is_output l.latest p ≡ there → t.reclaiming ≡ runs
    → (there && (is_connected (word_at t.outputs.items p) || (runs && continues_at t.continues.items p))) ≡ talks l p
on_renewed t l p false runs h is run = grind (arith, h.sound.there p)
on_renewed t l p true runs h is run =
    let w = h.outputs.words p is in
    let connected = output_connected (fields_at l p) (let m = h.sound.counts p in omega arith) (h.sound.settings_fit p is) in
    let same : is_connected (word_at t.outputs.items p) ≡ has_connection (l.outputs p) = ap is_connected w ∙ connected ∙ counted
    (is_there (l.outputs p).broadcast) (counter (l.outputs p)) in
    rw same (ap (λ b. has_connection (l.outputs p) || b) (goes runs run))
  where
    goes : (b : Bool) → t.reclaiming ≡ b → (b && continues_at t.continues.items p) ≡ l.continues p
    goes true e = h.second.continues e p is
    goes false e = grind (arith, h.sound.continuing p, h.sound.reclaimable_ends (sym h.second.runs ∙ e) (l.settings p).channel)

-- an output plug that was there shows whether it has a connection
output_shown : (t : Tables) (l : Account) (p : PlugAt) → StandsFor t l → is_output l.latest p ≡ true → is_connected (word_at t.outputs.items p) ≡ has_connection (l.outputs p)
output_shown t l p h is =
    let connected = output_connected (fields_at l p) (let m = h.sound.counts p in omega arith) (h.sound.settings_fit p is) in
    ap is_connected (h.outputs.words p is) ∙ connected ∙ counted (is_there (l.outputs p).broadcast) (counter (l.outputs p))

-- and so does an input plug
input_shown : (t : Tables) (l : Account) (p : PlugAt) → StandsFor t l → is_input l.latest p ≡ true → is_connected (word_at t.inputs.items p) ≡ has_connection (l.inputs p)
input_shown t l p h is =
    let connected = input_connected (input_fields_at l p) (let m = h.sound.counts p in omega arith) (h.sound.channels_fit p is) in
    ap is_connected (h.inputs.words p is) ∙ connected ∙ counted (is_there (l.inputs p).broadcast) (counter (l.inputs p))

-- the word of an output plug after the reset
word_renewed : (t : Tables) (l : Account) (r : ResetEntry) (rates new : List ℕ) (p : PlugAt) (there : Bool) → StandsFor t l → is_output l.latest p ≡ there
    → AreRates t.outs new r.nodes r.ids rates → nat_lt p.plug (slice_index t.outs p.device) ≡ there → nat_lt p.plug (slice_index new p.device) ≡ true
    → cond (nat_lt p.plug (slice_index new p.device)) (cond there (disconnected (word_at t.outputs.items p)) (first_output (slice_index rates p.device))) (word_at t.outputs.items p)
    ≡ out_word (record { broadcast = false; counter = 0; settings = cond there (l.settings p) (declared r p) })
word_renewed t l r rates new p true h is are was now = rw (now, h.outputs.words p is) (output_disconnected (fields_at l p) (let m = h.sound.counts p in omega arith) (h.sound.settings_fit p is))
word_renewed t l r rates new p false h is are was now = rw (now, are p.device p.plug now was) refl

input_renewed : (t : Tables) (l : Account) (p : PlugAt) (there : Bool) → StandsFor t l → is_input l.latest p ≡ there
    → cond there (disconnected (word_at t.inputs.items p)) first_input ≡ in_word
    (record { broadcast = false; counter = 0; channel = cond there (l.input_channel p) 63 })
input_renewed t l p true h is = rw (h.inputs.words p is) (input_disconnected (input_fields_at l p) (let m = h.sound.counts p in omega arith) (h.sound.channels_fit p is))
input_renewed t l p false h is = refl

outputs_reset : (t : Tables) (l : Account) (r : ResetEntry) (rates : List ℕ) (new : Tables) → StandsFor t l → IsNetwork r → AreRates t.outs new.outs r.nodes r.ids rates
    → HasNewPlugs t r.nodes rates new → OutputsFor new.outputs.items new.output_seats.items (Some r) (λ p. no_connections) (after_reset r l).settings
outputs_reset t l r rates new h net are x = record {
  words = λ p is. word p is (output_in_range (Some r) p net.range is);
  seats = λ p is. seat p is (output_in_range (Some r) p net.range is);
}
  where
    word : (p : PlugAt) → is_output (Some r) p ≡ true → (p.device < 63) × (p.plug < 31)
        → word_at new.outputs.items p ≡ out_word (record
        { broadcast = false; counter = counter no_connections; settings = cond (is_output l.latest p) (l.settings p) (declared r p) })
    word p is low = rw (none_counted, x.outputs (place p) (place_low p low), place_device p low.1, place_plug p low.1)
        (rw (← h.plugs.outs p) (word_renewed t l r rates new.outs p (is_output l.latest p) h refl are (sym (h.plugs.outs p)) (sym (x.outs p) ∙ is)))

    seat : (p : PlugAt) → is_output (Some r) p ≡ true → (p.device < 63) × (p.plug < 31) → SeatsFor (seats_at new.output_seats.items p) no_connections
    seat p is low = rw (x.output_seats (place p) (place_low p low), place_device p low.1, place_plug p low.1, sym (x.outs p) ∙ is)
        (seated (nat_lt p.plug (slice_index t.outs p.device)) (is_connected (word_at t.outputs.items p)) (seats_at t.output_seats.items p) (l.outputs p)
        (λ was. let there = h.plugs.outs p ∙ was in (h.outputs.seats p there, output_shown t l p h there)))

inputs_reset : (t : Tables) (l : Account) (r : ResetEntry) (rates : List ℕ) (new : Tables) → StandsFor t l → IsNetwork r → HasNewPlugs t r.nodes rates new
    → InputsFor new.inputs.items new.input_seats.items (Some r) (λ p. no_connections) (after_reset r l).input_channel
inputs_reset t l r rates new h net x = record {
  words = λ p is. word p is (input_in_range (Some r) p net.range is);
  seats = λ p is. seat p is (input_in_range (Some r) p net.range is);
}
  where
    word : (p : PlugAt) → is_input (Some r) p ≡ true → (p.device < 63) × (p.plug < 31)
        → word_at new.inputs.items p ≡ in_word (record
        { broadcast = false; counter = counter no_connections; channel = cond (is_input l.latest p) (l.input_channel p) 63 })
    word p is low = rw (none_counted, x.inputs (place p) (place_low p low), place_device p low.1, place_plug p low.1)
        (rw (sym (x.ins p) ∙ is, ← h.plugs.ins p) (input_renewed t l p (is_input l.latest p) h refl))

    seat : (p : PlugAt) → is_input (Some r) p ≡ true → (p.device < 63) × (p.plug < 31) → SeatsFor (seats_at new.input_seats.items p) no_connections
    seat p is low = rw (x.input_seats (place p) (place_low p low), place_device p low.1, place_plug p low.1, sym (x.ins p) ∙ is)
        (seated (nat_lt p.plug (slice_index t.ins p.device)) (is_connected (word_at t.inputs.items p)) (seats_at t.input_seats.items p) (l.inputs p)
        (λ was. let there = h.plugs.ins p ∙ was in (h.inputs.seats p there, input_shown t l p h there)))

-- a test stays with one more that holds
true_more : (b : Bool) → b ≡ (b && true)
true_more true = refl
true_more false = refl

second_reset : (t : Tables) (l : Account) (r : ResetEntry) (rates : List ℕ) (new : Tables) → StandsFor t l → IsNetwork r → IsRenewed t r.manager r.nodes rates new
    → SecondFor new.reclaiming new.reclaimable.items new.continues.items (after_reset r l)
second_reset t l r rates new h net x = record {
  runs = x.reclaiming ∙ started_is t.started t.manager t.nodes l.latest h.latest;
  reclaimable = λ runs ch lt. rw (x.flows ch lt) (subst
      (λ b. flow_of (cond t.reclaiming (reclaimable_at t.reclaimable.items ch) (talker (charge_at t.charges.items ch))) ≡
      (cond b l.reclaimable (talker_at l)) ch) h.second.runs (flows_renewed t l r ch t.reclaiming h lt refl (sym h.second.runs)));
  continues = λ runs p is. on p is (output_in_range (Some r) p net.range is);
}
  where
    on : (p : PlugAt) → is_output (Some r) p ≡ true → (p.device < 63) × (p.plug < 31)
        → continues_at new.continues.items p ≡ (talks l p && is_output (Some r) p)
    on p is low =
        rw (x.plugs.continues (place p) (place_low p low), place_device p low.1, place_plug p low.1, sym (x.plugs.outs p) ∙ is, ← h.plugs.outs p, is)
        (on_renewed t l p (is_output l.latest p) t.reclaiming h refl refl ∙ true_more (talks l p))

-- the tables after a bus reset
pub reset_stands : (t : Tables) (l : Account) (r : ResetEntry) (rates : List ℕ) (new : Tables) → StandsFor t l → IsNetwork r → AreRates t.outs new.outs r.nodes r.ids rates
    → IsRenewed t r.manager r.nodes rates new → StandsFor new (after_reset r l)
reset_stands t l r rates new h net are x = record {
  sizes = record {
    charges = x.charge_size;
    reclaimable = x.flow_size;
    addressed = rw x.addressed h.sizes.addressed;
    asked = x.asked_size;
    outputs = x.plugs.output_size;
    inputs = x.plugs.input_size;
    output_seats = x.plugs.output_seat_size;
    input_seats = x.plugs.input_seat_size;
    continues = x.plugs.continue_size;
  };
  latest = x.latest;
  plugs = record { outs = x.plugs.outs; ins = x.plugs.ins };
  withheld = x.withheld ∙ h.withheld;
  resources = record {
    left = x.words.0 ∙ sym (ap (λ m. 4915 - m) (sum_to_zero 64));
    high = x.words.1 ∙ ap first_high h.withheld;
    low = x.words.2 ∙ sym (low_starts l.withheld);
    charges = λ ch lt. rw (x.charges ch lt) refl;
  };
  second = second_reset t l r rates new h net x;
  outputs = outputs_reset t l r rates new h net are x.plugs;
  inputs = inputs_reset t l r rates new h net x.plugs;
  controllers = record { addressed = rw x.addressed h.controllers.addressed; asked = λ c lt. rw (x.asked c lt) refl };
  sound = reset_keeps r l net h.sound;
}
