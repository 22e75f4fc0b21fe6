use Rattle.fw_account_tables.proofs.Common.{◌≡◌, ◌+◌, true, false, sym, ◌∙◌, ap, subst, rules, true≢false, SeatsFor, word_at, seats_at}
use Rattle.fw_account_tables.proofs.Swapping.{compared, differ}
use Rattle.fw_account_tables.proofs.InputSwaps.{is_there_input, left_follows, left_refused}
use Rattle.fw_account_tables.proofs.tables.Tables.disconnect_input.Goals.{then-not-has_connection_of-via-then-not-has_connection_of}
use Rattle.fw_account_tables.proofs.tables.Tables.disconnect_input.Goals.{then-not-has_connection_of-via-else-not-has_connection_of+then-not-exceeds}
use Rattle.fw_account_tables.proofs.tables.Tables.disconnect_input.Goals as goal

pub returns-then-not-has_connection_of : goal.returns-then-not-has_connection_of
returns-then-not-has_connection_of c = λ l h.
    let t = c.args.self.now in
    let p = c.args.p in
    let word = c.word_at-word.ensures ∙ ap (λ ws. word_at ws p) c.deref.ensures.value in
    let seats = c.seats_at-seats.ensures ∙ ap (λ xs. seats_at xs p) c.deref-2.ensures.value in
    let is = is_there_input t l p h c.requires.there in
    let had = c.has_connection_of.ensures (l.inputs p) (subst (λ x. SeatsFor x (l.inputs p)) (sym seats) (h.inputs.seats p is)) in
    left_refused t l c.args.c p c.args.kind c.args.new h c.requires.controller is
    (λ has less. elim c.then-not-has_connection_of.branch [
      | then-not-has_connection_of-via-then-not-has_connection_of w ↦
          (let never : c.has_connection_of.result ≡ false = search rules in true≢false (sym (had ∙ has) ∙ never))
      | then-not-has_connection_of-via-else-not-has_connection_of+then-not-exceeds w ↦
          (let never : w.exceeds.result ≡ false = search rules in differ w.exceeds.result _ _ w.exceeds.ensures never
          (word ∙ less ∙ ap (λ v. c.args.new + v) (sym w.connection_value.ensures.value)))
    ])

pub returns : goal.returns
returns c = λ l h.
    let t = c.args.self.now in
    let p = c.args.p in
    let word = c.word_at-word.ensures ∙ ap (λ ws. word_at ws p) c.deref.ensures.value in
    let seats = c.seats_at-seats.ensures ∙ ap (λ xs. seats_at xs p) c.deref-2.ensures.value in
    let is = is_there_input t l p h c.requires.there in
    let own = subst (λ x. SeatsFor x (l.inputs p)) (sym seats) (h.inputs.seats p is) in
    let has : c.has_connection_of.result ≡ true = search rules in
    let done : c.exceeds.result ≡ true = search rules in
    left_follows t l c.args.c p c.args.kind c.args.new c.dropped.result h c.requires.controller is (sym (c.has_connection_of.ensures (l.inputs p) own) ∙ has)
    (sym word ∙ compared c.exceeds.result _ _ c.exceeds.ensures done ∙ ap (λ v. c.args.new + v) c.connection_value.ensures.value)
    (c.dropped.ensures (l.inputs p) own) c.set_input.new.self c.set_input.ensures
