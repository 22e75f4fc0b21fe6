use Rattle.fw_holders.proofs.Common.{◌≡◌, ◌++◌, OnOk, List, ℕ, true, false, nat_lt, slice_index, sym, ap, ◌∙◌, subst, append-nil, field, NodeRow, has_connection, counter, is_input, SeatsFor, Seats}
use Rattle.fw_holders.proofs.Common.{nodes_of}
use Rattle.fw_plug.specs.Words.{is_connected}
use Rattle.fw_account_tables.specs.Stands.{word_at, seats_at}
use Rattle.fw_account_tables.proofs.PlugSwaps.{connected_is}
use Rattle.fw_account_tables.proofs.InputSwaps.{input_word_shows}
use Rattle.fw_holders_text.specs.declared.names.Side.TheVariants.{Input}
use Rattle.fw_holders.specs.Table.{plug_line}
use Rattle.fw_holders.proofs.HoldingLaws.{nodes_shown}
use Rattle.fw_holders.proofs.PlugLaws.{no_plug_line, silent_input, input_keeps}
use Rattle.fw_holders.proofs.plugs.put_input.Goals as goal

pub returns-then-not-has_plug : goal.returns-then-not-has_plug
returns-then-not-has_plug c = λ l h.
    let t = c.args.tables.now in
    let p = c.args.p in
    let none : nat_lt p.plug (slice_index t.ins p.device) ≡ false = cc in
    rw (sym (no_plug_line (nodes_of l.latest) Input p (l.input_channel p) (l.inputs p) (silent_input t l p h none))) (sym (append-nil c.args.text.now.items))

pub returns-then-not-is_connected : goal.returns-then-not-is_connected
returns-then-not-is_connected c = λ l h.
    let t = c.args.tables.now in
    let p = c.args.p in
    let there : nat_lt p.plug (slice_index t.ins p.device) ≡ true = cc in
    let word : c.word_at.result ≡ word_at t.inputs.items p = c.word_at.ensures ∙ ap (λ ws. word_at ws p) c.deref.ensures.value in
    let shows = input_word_shows t l p h (h.plugs.ins p ∙ there) in
    let none : has_connection (l.inputs p) ≡ false = sym (connected_is (word_at t.inputs.items p) (l.inputs p) shows) ∙ ap is_connected (sym word) ∙ cc in
    rw (sym (no_plug_line (nodes_of l.latest) Input p (l.input_channel p) (l.inputs p) none)) (sym (append-nil c.args.text.now.items))

pub returns : goal.returns
returns c = λ l h.
    let t = c.args.tables.now in
    let p = c.args.p in
    let there : nat_lt p.plug (slice_index t.ins p.device) ≡ true = cc in
    let is : is_input l.latest p ≡ true = h.plugs.ins p ∙ there in
    let word : c.word_at.result ≡ word_at t.inputs.items p = c.word_at.ensures ∙ ap (λ ws. word_at ws p) c.deref.ensures.value in
    let shows = input_word_shows t l p h is in
    let some : has_connection (l.inputs p) ≡ true = sym (connected_is (word_at t.inputs.items p) (l.inputs p) shows) ∙ ap is_connected (sym word) ∙ cc in
    let channel : c.channel.result ≡ l.input_channel p = c.channel.ensures ∙ ap (λ w. field w 10 15) word ∙ input_keeps t l p h is in
    let count : c.counter.result ≡ counter (l.inputs p) = c.counter.ensures ∙ ap (λ w. field w 2 7) word ∙ shows.counter in
    let seats : c.seats_at.result ≡ seats_at t.input_seats.items p = c.seats_at.ensures ∙ ap (λ (xs : List Seats). seats_at xs p) c.deref-2.ensures.value in
    let nodes : c.as_slice.result.now ≡ nodes_of l.latest = c.as_slice.ensures.value ∙ nodes_shown t l h in
    let line = c.put_line.ensures (l.inputs p) (subst (λ x. SeatsFor x (l.inputs p)) (sym seats) (h.inputs.seats p is)) count some in
    subst (λ (n : ℕ). OnOk c.put_line.result (c.put_line.new.text.items ≡ c.args.text.now.items ++ plug_line (nodes_of l.latest) Input p n (l.inputs p))) channel
    (subst (λ (ns : List NodeRow). OnOk c.put_line.result (c.put_line.new.text.items ≡ c.args.text.now.items ++ plug_line ns Input p c.channel.result (l.inputs p))) nodes line)
