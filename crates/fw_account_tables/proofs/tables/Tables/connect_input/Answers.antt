use Rattle.fw_account_tables.proofs.Common.{◌≡◌, ◌+◌, true, false, sym, ◌∙◌, ap, subst, rules, true≢false, SeatsFor, word_at, seats_at, shows_room, connection_value}
use Rattle.fw_plug.specs.Words.{in_fields}
use Rattle.fw_account_tables.specs.Swaps.{keeps_channel, with_channel}
use Rattle.fw_account_tables.proofs.Swapping.{compared, differ}
use Rattle.fw_account_tables.proofs.PlugSwaps.{seat_room}
use Rattle.fw_account_tables.proofs.InputSwaps.{is_there_input, input_follows, input_refused}
use Rattle.fw_account_tables.proofs.tables.Tables.connect_input.Goals.{then-not-shows_room-via-then-not-shows_room, then-not-shows_room-via-else-not-shows_room+then-not-keeps_channel}
use Rattle.fw_account_tables.proofs.tables.Tables.connect_input.Goals as goal

pub returns-then-not-shows_room : goal.returns-then-not-shows_room
returns-then-not-shows_room c = λ l h.
    let t = c.args.self.now in
    let p = c.args.p in
    let word = c.word_at-word.ensures ∙ ap (λ ws. word_at ws p) c.deref.ensures.value in
    input_refused t l c.args.c p c.args.kind c.args.new h c.requires.controller (is_there_input t l p h c.requires.there)
    (λ room keeps more. elim c.then-not-shows_room.branch [
      | then-not-shows_room-via-then-not-shows_room w ↦
          (let never : c.shows_room.result ≡ false = search rules in true≢false
          (sym (c.shows_room.ensures ∙ ap (shows_room c.args.kind) word ∙ room) ∙ never))
      | then-not-shows_room-via-else-not-shows_room+then-not-keeps_channel w ↦ (
          let never : w.keeps_channel.result ≡ false = search rules in
          true≢false (sym (w.keeps_channel.ensures ∙ ap (λ k. keeps_channel k c.channel-channel.result) word ∙ ap (keeps_channel (word_at t.inputs.items p))
          c.channel-channel.ensures ∙ keeps) ∙ never))
    ])

pub returns-then-not-exceeds : goal.returns-then-not-exceeds
returns-then-not-exceeds c = λ l h.
    let t = c.args.self.now in
    let p = c.args.p in
    let word = c.word_at-word.ensures ∙ ap (λ ws. word_at ws p) c.deref.ensures.value in
    let moved = c.with_channel.ensures ∙ ap (λ k. with_channel k c.channel-channel.result) word ∙ ap (with_channel (word_at t.inputs.items p))
    c.channel-channel.ensures in
    let never : c.exceeds.result ≡ false = search rules in
    input_refused t l c.args.c p c.args.kind c.args.new h c.requires.controller (is_there_input t l p h c.requires.there)
    (λ room keeps more. differ c.exceeds.result _ _ c.exceeds.ensures never
    (more ∙ ap (λ k. k + connection_value c.args.kind) (sym moved) ∙ ap (λ v. c.with_channel.result + v) (sym c.connection_value.ensures.value)))

pub added-seats-requires-clause-room : goal.added-seats-requires-clause-room
added-seats-requires-clause-room c =
    let t = c.args.self.now in
    let l = c.requires.stands.0 in
    let h = c.requires.stands.1 in
    let p = c.args.p in
    let seats = c.seats_at.ensures ∙ ap (λ xs. seats_at xs p) c.deref-2.ensures.value in
    seat_room c.args.c c.seats_at.result (l.inputs p) c.requires.controller
    (subst (λ x. SeatsFor x (l.inputs p)) (sym seats) (h.inputs.seats p (is_there_input t l p h c.requires.there))) (h.sound.counts p).1

pub returns : goal.returns
returns c = λ l h.
    let t = c.args.self.now in
    let p = c.args.p in
    let word = c.word_at-word.ensures ∙ ap (λ ws. word_at ws p) c.deref.ensures.value in
    let seats = c.seats_at.ensures ∙ ap (λ xs. seats_at xs p) c.deref-2.ensures.value in
    let moved = c.with_channel.ensures ∙ ap (λ k. with_channel k c.channel-channel.result) word ∙ ap (with_channel (word_at t.inputs.items p))
    c.channel-channel.ensures in
    let is = is_there_input t l p h c.requires.there in
    let room : c.shows_room.result ≡ true = search rules in
    let kept : c.keeps_channel.result ≡ true = search rules in
    let done : c.exceeds.result ≡ true = search rules in
    input_follows t l c.args.c p c.args.kind c.args.new c.added-seats.result h c.requires.controller is
    (sym (c.shows_room.ensures ∙ ap (shows_room c.args.kind) word) ∙ room)
    (sym (c.keeps_channel.ensures ∙ ap (λ k. keeps_channel k c.channel-channel.result) word ∙ ap (keeps_channel (word_at t.inputs.items p))
    c.channel-channel.ensures) ∙ kept)
    (compared c.exceeds.result _ _ c.exceeds.ensures done ∙ ap (λ k. k + c.connection_value.result) moved ∙ ap
    (λ v. with_channel (word_at t.inputs.items p) (in_fields c.args.new).channel + v) c.connection_value.ensures.value)
    (c.added-seats.ensures (l.inputs p) (subst (λ x. SeatsFor x (l.inputs p)) (sym seats) (h.inputs.seats p is))) c.set_input.new.self c.set_input.ensures
