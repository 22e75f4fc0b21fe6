use Rattle.fw_account_tables.proofs.Common.{◌≡◌, ◌+◌, true, false, sym, ◌∙◌, ap, subst, rules, true≢false, SeatsFor, word_at, seats_at, shows_room, connection_value}
use Rattle.fw_account_tables.proofs.Swapping.{compared, differ}
use Rattle.fw_account_tables.proofs.PlugSwaps.{seat_room}
use Rattle.fw_account_tables.proofs.OutputSwaps.{is_there_output}
use Rattle.fw_account_tables.proofs.OutputConnects.{overlaid_follows, overlaid_refused}
use Rattle.fw_account_tables.proofs.tables.Tables.connect_overlaid.Goals.{then-not-shows_room-via-then-not-shows_room, then-not-shows_room-via-else-not-shows_room+then-not-exceeds}
use Rattle.fw_account_tables.proofs.tables.Tables.connect_overlaid.Goals as goal

pub returns-then-not-shows_room : goal.returns-then-not-shows_room
returns-then-not-shows_room c = λ l h.
    let t = c.args.self.now in
    let p = c.args.p in
    let word = c.word_at-word.ensures ∙ ap (λ ws. word_at ws p) c.deref.ensures.value in
    overlaid_refused t l c.args.c p c.args.kind c.args.new h c.requires.controller (is_there_output t l p h c.requires.there)
    (λ room more. elim c.then-not-shows_room.branch [
      | then-not-shows_room-via-then-not-shows_room w ↦
          (let never : c.shows_room.result ≡ false = search rules in true≢false
          (sym (c.shows_room.ensures ∙ ap (shows_room c.args.kind) word ∙ room) ∙ never))
      | then-not-shows_room-via-else-not-shows_room+then-not-exceeds w ↦
          (let never : w.exceeds.result ≡ false = search rules in differ w.exceeds.result _ _ w.exceeds.ensures never
          (more ∙ ap (λ k. k + connection_value c.args.kind) (sym word) ∙ ap (λ v. c.word_at-word.result + v) (sym w.connection_value.ensures.value)))
    ])

pub added-seats-requires-clause-room : goal.added-seats-requires-clause-room
added-seats-requires-clause-room c =
    let t = c.args.self.now in
    let l = c.requires.stands.0 in
    let h = c.requires.stands.1 in
    let p = c.args.p in
    let seats = c.seats_at.ensures ∙ ap (λ xs. seats_at xs p) c.deref-2.ensures.value in
    seat_room c.args.c c.seats_at.result (l.outputs p) c.requires.controller
    (subst (λ x. SeatsFor x (l.outputs p)) (sym seats) (h.outputs.seats p (is_there_output t l p h c.requires.there))) (h.sound.counts p).0

pub returns : goal.returns
returns c = λ l h.
    let t = c.args.self.now in
    let p = c.args.p in
    let word = c.word_at-word.ensures ∙ ap (λ ws. word_at ws p) c.deref.ensures.value in
    let seats = c.seats_at.ensures ∙ ap (λ xs. seats_at xs p) c.deref-2.ensures.value in
    let is = is_there_output t l p h c.requires.there in
    let room : c.shows_room.result ≡ true = search rules in
    let done : c.exceeds.result ≡ true = search rules in
    let more = compared c.exceeds.result _ _ c.exceeds.ensures done ∙ ap (λ k. k + c.connection_value.result) word ∙ ap (λ v. word_at t.outputs.items p + v)
    c.connection_value.ensures.value in
    overlaid_follows t l c.args.c p c.args.kind c.args.new c.added-seats.result h c.requires.controller is c.requires.connected
    (sym (c.shows_room.ensures ∙ ap (shows_room c.args.kind) word) ∙ room) more
    (c.added-seats.ensures (l.outputs p) (subst (λ x. SeatsFor x (l.outputs p)) (sym seats) (h.outputs.seats p is))) c.set_output.new.self
    c.set_output.ensures
