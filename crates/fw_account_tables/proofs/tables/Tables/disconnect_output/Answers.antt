use Rattle.fw_account_tables.proofs.Common.{◌≡◌, ◌+◌, true, false, sym, ◌∙◌, ap, subst, rules, true≢false, with_item, SeatsFor, place, word_at, seats_at, Tables, out_fields, units, Pending}
use Rattle.fw_account_tables.proofs.Swapping.{compared, differ}
use Rattle.fw_account_tables.proofs.OutputSwaps.{is_there_output}
use Rattle.fw_account_tables.proofs.OutputDisconnects.{dropped_follows, dropped_refused, last_follows, last_refused}
use Rattle.fw_account_tables.proofs.tables.Tables.disconnect_output.Goals.{then-not-has_connection_of-via-then-not-has_connection_of}
use Rattle.fw_account_tables.proofs.tables.Tables.disconnect_output.Goals.{then-not-has_connection_of-via-else-not-has_connection_of+then-not-exceeds}
use Rattle.fw_account_tables.proofs.tables.Tables.disconnect_output.Goals as goal

pub returns-then-not-has_connection_of : goal.returns-then-not-has_connection_of
returns-then-not-has_connection_of c = λ l h.
    let t = c.args.self.now in
    let p = c.args.p in
    let word = c.word_at-word.ensures ∙ ap (λ ws. word_at ws p) c.deref.ensures.value in
    let seats = c.seats_at-seats.ensures ∙ ap (λ xs. seats_at xs p) c.deref-2.ensures.value in
    let is = is_there_output t l p h c.requires.there in
    let had = c.has_connection_of.ensures (l.outputs p) (subst (λ x. SeatsFor x (l.outputs p)) (sym seats) (h.outputs.seats p is)) in
    dropped_refused t l c.args.c p c.args.kind c.args.new h c.requires.controller is
    (λ has less. elim c.then-not-has_connection_of.branch [
      | then-not-has_connection_of-via-then-not-has_connection_of w ↦
          (let never : c.has_connection_of.result ≡ false = search rules in true≢false (sym (had ∙ has) ∙ never))
      | then-not-has_connection_of-via-else-not-has_connection_of+then-not-exceeds w ↦
          (let never : w.exceeds.result ≡ false = search rules in differ w.exceeds.result _ _ w.exceeds.ensures never
          (word ∙ less ∙ ap (λ v. c.args.new + v) (sym w.connection_value.ensures.value)))
    ])

pub returns-then-is_connected : goal.returns-then-is_connected
returns-then-is_connected c = λ l h.
    let t = c.args.self.now in
    let p = c.args.p in
    let word = c.word_at-word.ensures ∙ ap (λ ws. word_at ws p) c.deref.ensures.value in
    let seats = c.seats_at-seats.ensures ∙ ap (λ xs. seats_at xs p) c.deref-2.ensures.value in
    let is = is_there_output t l p h c.requires.there in
    let own = subst (λ x. SeatsFor x (l.outputs p)) (sym seats) (h.outputs.seats p is) in
    let has : c.has_connection_of.result ≡ true = search rules in
    let done : c.exceeds.result ≡ true = search rules in
    let connected : c.is_connected.result ≡ true = search rules in
    dropped_follows t l c.args.c p c.args.kind c.args.new c.dropped.result h c.requires.controller is
    (sym (c.has_connection_of.ensures (l.outputs p) own) ∙ has)
    (sym word ∙ compared c.exceeds.result _ _ c.exceeds.ensures done ∙ ap (λ v. c.args.new + v) c.connection_value.ensures.value)
    (sym c.is_connected.ensures ∙ connected) (c.dropped.ensures (l.outputs p) own) c.set_output.new.self c.set_output.ensures

pub returns-then-not-may_hold : goal.returns-then-not-may_hold
returns-then-not-may_hold c = λ l h.
    let t = c.args.self.now in
    let p = c.args.p in
    let word = c.word_at-word.ensures ∙ ap (λ ws. word_at ws p) c.deref.ensures.value in
    let seats = c.seats_at-seats.ensures ∙ ap (λ xs. seats_at xs p) c.deref-2.ensures.value in
    let is = is_there_output t l p h c.requires.there in
    let own = subst (λ x. SeatsFor x (l.outputs p)) (sym seats) (h.outputs.seats p is) in
    let has : c.has_connection_of.result ≡ true = search rules in
    let done : c.exceeds.result ≡ true = search rules in
    let none : c.is_connected.result ≡ false = search rules in
    let never : c.may_hold.result ≡ false = search rules in
    last_refused t l c.args.c p c.args.kind c.args.new h c.requires.controller is (sym (c.has_connection_of.ensures (l.outputs p) own) ∙ has)
    (sym word ∙ compared c.exceeds.result _ _ c.exceeds.ensures done ∙ ap (λ v. c.args.new + v) c.connection_value.ensures.value)
    (sym c.is_connected.ensures ∙ none) (sym (c.may_hold.ensures l h) ∙ never)

pub returns : goal.returns
returns c = λ l h.
    let t = c.args.self.now in
    let p = c.args.p in
    let x = c.dropped-2.result in
    let word = c.word_at-word.ensures ∙ ap (λ ws. word_at ws p) c.deref.ensures.value in
    let seats = c.seats_at-seats.ensures ∙ ap (λ xs. seats_at xs p) c.deref-2.ensures.value in
    let is = is_there_output t l p h c.requires.there in
    let own = subst (λ y. SeatsFor y (l.outputs p)) (sym seats) (h.outputs.seats p is) in
    let has : c.has_connection_of.result ≡ true = search rules in
    let done : c.exceeds.result ≡ true = search rules in
    let none : c.is_connected.result ≡ false = search rules in
    let may : c.may_hold.result ≡ true = search rules in
    let at = c.from.ensures ∙ c.channel.ensures ∙ ap (λ w. (out_fields w).settings.channel) word in
    let cost = c.units.ensures ∙ ap units word in
    last_follows t l c.args.c p c.args.kind c.args.new x h c.requires.controller is (sym (c.has_connection_of.ensures (l.outputs p) own) ∙ has)
    (sym word ∙ compared c.exceeds.result _ _ c.exceeds.ensures done ∙ ap (λ v. c.args.new + v) c.connection_value.ensures.value)
    (sym c.is_connected.ensures ∙ none) (sym (c.may_hold.ensures l h) ∙ may) (c.dropped-2.ensures (l.outputs p) own) _
    (ap (λ (m : Tables). record m { charges = with_item m.charges c.from.result (Pending c.args.c p c.units.result) }) c.set_output-2.ensures
    ∙ ap (λ n. record t {
      charges = with_item t.charges n (Pending c.args.c p c.units.result);
      outputs = with_item t.outputs (place p) c.args.new;
      output_seats = with_item t.output_seats (place p) x;
    }) at
    ∙ ap (λ u. record t {
      charges = with_item t.charges (out_fields (word_at t.outputs.items p)).settings.channel (Pending c.args.c p u);
      outputs = with_item
          t.outputs (place p) c.args.new;
      output_seats = with_item t.output_seats (place p) x;
    }) cost)
