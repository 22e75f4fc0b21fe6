use Rattle.fw_account_tables.proofs.Common.{◌≡◌, ◌<◌, ℕ, true, false, sym, ◌∙◌, ap, subst, rules, true≢false}
use Rattle.fw_account_tables.proofs.Common.{arith, with_item, SeatsFor, place, word_at, seats_at, allocation_of, charge_at, Tables, out_word}
use Rattle.fw_account_tables.proofs.Common.{out_fields, units, Connected}
use Rattle.std.specs.Vec.{vec_len}
use Rattle.fw_model_account.specs.Decode.{is_held}
use Rattle.fw_account_tables.specs.Swaps.{connected_once}
use Rattle.fw_account_tables.proofs.Plugs.{output_place}
use Rattle.fw_account_tables.proofs.PlugSwaps.{seat_room}
use Rattle.fw_account_tables.proofs.OutputSwaps.{is_there_output}
use Rattle.fw_account_tables.proofs.OutputConnects.{first_follows, first_refused}
use Rattle.fw_account_tables.proofs.tables.Tables.connect_first.Goals.{then-new-first_word-via-then-new-first_word, then-new-first_word-via-else-new-first_word+then-not-is_held}
use Rattle.fw_account_tables.proofs.tables.Tables.connect_first.Goals as goal

pub returns-then-new-first_word : goal.returns-then-new-first_word
returns-then-new-first_word c = λ l h.
    let t = c.args.self.now in
    let p = c.args.p in
    let kind = c.args.kind in
    let rate = c.rate-rate.ensures ∙ ap (λ w. (out_fields w).settings.rate) (c.word_at.ensures ∙ ap (λ ws. word_at ws p) c.deref.ensures.value) in
    let word = c.first_word.ensures ∙ ap (λ n. out_word
    (connected_once kind (record { channel = n; rate = c.rate-rate.result; overhead = c.overhead.result }))) c.channel-2.ensures
    ∙ ap (λ n. out_word (connected_once kind (record { channel = (out_fields c.args.new).settings.channel; rate = n; overhead = c.overhead.result }))) rate
    ∙ ap (λ n. out_word (connected_once kind (record
    { channel = (out_fields c.args.new).settings.channel; rate = (out_fields (word_at t.outputs.items p)).settings.rate; overhead = n })))
    c.overhead.ensures in
    first_refused t l c.args.c p kind c.args.new h c.requires.controller (is_there_output t l p h c.requires.there)
    (λ same holds. elim c.then-new-first_word.branch [
      | then-new-first_word-via-then-new-first_word w ↦ (w.if-new-first_word.true (same ∙ sym word))
      | then-new-first_word-via-else-new-first_word+then-not-is_held w ↦ (
          let never : w.is_held.result ≡ false = search rules in
          let charge = w.charge_at.ensures ∙ ap (λ xs. charge_at xs c.from-channel.result) w.deref-else-new-first_word.ensures.value ∙ ap
          (charge_at t.charges.items) (c.from-channel.ensures ∙ c.channel.ensures) in
          let held = w.is_held.ensures ∙ ap (λ x. is_held c.args.c p c.units-units.result (allocation_of x)) charge ∙ ap
          (λ u. is_held c.args.c p u (allocation_of (charge_at t.charges.items (out_fields c.args.new).settings.channel))) c.units-units.ensures in
          true≢false (sym (held ∙ holds) ∙ never))
    ])

pub added-seats-requires-clause-room : goal.added-seats-requires-clause-room
added-seats-requires-clause-room c =
    let t = c.args.self.now in
    let l = c.requires.stands.0 in
    let h = c.requires.stands.1 in
    let p = c.args.p in
    let seats = c.seats_at.ensures ∙ ap (λ xs. seats_at xs p) c.deref-2.ensures.value in
    seat_room c.args.c c.seats_at.result (l.outputs p) c.requires.controller
    (subst (λ x. SeatsFor x (l.outputs p)) (sym seats) (h.outputs.seats p (is_there_output t l p h c.requires.there))) (h.sound.counts p).0

pub index_mut-requires-2 : goal.index_mut-requires-2
index_mut-requires-2 c =
    let t = c.args.self.now in
    let h = c.requires.stands.1 in
    let low = output_place t c.requires.stands.0 c.args.p h c.requires.there in
    let same : vec_len c.set_output.new.self.continues ≡ vec_len t.continues = ap (λ (m : Tables). vec_len m.continues) c.set_output.ensures in
    let within : c.place.result < vec_len c.set_output.new.self.continues = omega (arith, c.place.ensures, h.sizes.continues, t.continues.ok.0) in
    within

pub returns : goal.returns
returns c = λ l h.
    let t = c.args.self.now in
    let p = c.args.p in
    let kind = c.args.kind in
    let x = c.added-seats.result in
    let ch : ℕ = (out_fields c.args.new).settings.channel in
    let at = c.from-channel.ensures ∙ c.channel.ensures in
    let rate = c.rate-rate.ensures ∙ ap (λ w. (out_fields w).settings.rate) (c.word_at.ensures ∙ ap (λ ws. word_at ws p) c.deref.ensures.value) in
    let word = c.first_word.ensures ∙ ap (λ n. out_word
    (connected_once kind (record { channel = n; rate = c.rate-rate.result; overhead = c.overhead.result }))) c.channel-2.ensures
    ∙ ap (λ n. out_word (connected_once kind (record { channel = ch; rate = n; overhead = c.overhead.result }))) rate
    ∙ ap (λ n. out_word (connected_once kind (record { channel = ch; rate = (out_fields (word_at t.outputs.items p)).settings.rate; overhead = n })))
    c.overhead.ensures in
    let same : c.args.new ≡ c.first_word.result = search rules in
    let charge = c.charge_at.ensures ∙ ap (λ xs. charge_at xs c.from-channel.result) c.deref-else-new-first_word.ensures.value ∙ ap
    (charge_at t.charges.items) at in
    let held = c.is_held.ensures ∙ ap (λ y. is_held c.args.c p c.units-units.result (allocation_of y)) charge ∙ ap
    (λ u. is_held c.args.c p u (allocation_of (charge_at t.charges.items ch))) c.units-units.ensures in
    let has : c.is_held.result ≡ true = search rules in
    let is = is_there_output t l p h c.requires.there in
    let seats = c.seats_at.ensures ∙ ap (λ xs. seats_at xs p) c.deref-2.ensures.value in
    first_follows t l c.args.c p kind c.args.new x h c.requires.controller is c.requires.empty (same ∙ word) (sym held ∙ has)
    (c.added-seats.ensures (l.outputs p) (subst (λ y. SeatsFor y (l.outputs p)) (sym seats) (h.outputs.seats p is))) _
    (ap (λ (m : Tables). record m {
      charges = with_item m.charges c.from-channel.result (Connected p c.units-units.result);
      continues = with_item m.continues
          c.place.result false;
    }) c.set_output.ensures
    ∙ ap (λ n. record t {
      charges = with_item t.charges n (Connected p c.units-units.result);
      outputs = with_item t.outputs (place p) c.args.new;
      output_seats = with_item t.output_seats (place p) x;
      continues = with_item t.continues c.place.result false;
    }) at
    ∙ ap (λ u. record t {
      charges = with_item t.charges ch (Connected p u);
      outputs = with_item t.outputs (place p) c.args.new;
      output_seats = with_item
          t.output_seats (place p) x;
      continues = with_item t.continues c.place.result false;
    }) c.units-units.ensures
    ∙ ap (λ k. record t {
      charges = with_item t.charges ch (Connected p (units c.args.new));
      outputs = with_item t.outputs (place p) c.args.new;
      output_seats
          = with_item t.output_seats (place p) x;
      continues = with_item t.continues k false;
    }) c.place.ensures)
