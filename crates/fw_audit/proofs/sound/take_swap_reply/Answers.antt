use Rattle.std.proofs.Common.{IfSome, ◌∙◌, ap, sym, subst, arith}
use Rattle.std.specs.Int.{to_be_bytes, w32}
use Rattle.std.specs.Option.{option_map}
use Rattle.fw_model_account.specs.Words.{word_of}
use Rattle.fw_account_tables.specs.Stands.{StandsFor, AskedFor}
use Rattle.fw_account_tables.specs.Swaps.{IsThere}
use Rattle.fw_account_tables.specs.declared.tables.Asked.{Asked}
use Rattle.fw_account_tables.specs.declared.tables.Tables.{Tables}
use Rattle.fw_audit.proofs.SoundLaws.{old_back, old_long, swap_clear, swap_shown}
use Rattle.fw_audit.proofs.sound.take_swap_reply.Goals as goal

pub make_swap-requires-clause-stands : goal.make_swap-requires-clause-stands
make_swap-requires-clause-stands c =
    let s = c.tables-tables.ensures.stands in
    (s.0, subst (λ (t : Tables). StandsFor t s.0) c.tables-tables.ensures.same s.1)

pub make_swap-requires-clause-there : goal.make_swap-requires-clause-there
make_swap-requires-clause-there c =
    let P : Tables → Type 0 = λ t. IfSome c.register_at-register.result (λ r. IsThere r t) in
    subst P c.tables-tables.ensures.same c.register_at-register.ensures.there

pub returns-clause-taken : goal.returns-clause-taken
returns-clause-taken c = λ l h.
    let shown = subst (λ (t : Tables). StandsFor t l) (sym c.tables-tables.ensures.same) h in
    let dev = sym (c.device.ensures.device l shown) ∙ c.in-Some.is in
    let asked = subst (λ (x : Asked). AskedFor x (l.outstanding c.in-Some.device)) c.in-Swap.is (c.outstanding.ensures l shown) in
    let place = c.register_at-register.ensures.register l shown in
    let due = c.word_in-due.ensures l shown ∙ ap (option_map (word_of l)) place in
    let done = c.swap_made.ensures
    ∙ swap_shown c.in-Swap.target c.in-Swap.address c.args.rcode c.args.old c.in-Swap.swap (to_be_bytes w32 c.args.old) (old_long c.args.old) (old_back c.args.old (omega arith)) in
    swap_clear l c.args.head.now c.args.rcode c.in-Some.device c.in-Swap.target c.in-Swap.address c.args.old c.in-Swap.swap (to_be_bytes w32 c.args.old) c.word_in-due.result _ c.swap_made.result
    c.make_swap.new.ledger _ h.sound (sym c.marks.ensures ∙ c.if-not-marks.false) dev asked c.if-target-head.false (old_long c.args.old) (old_back c.args.old (omega arith)) place due
    (c.reads_due.ensures c.if-not-reads_due.false c.args.head.now.destination) done (c.make_swap.ensures.made c.if-not-make_swap.false l h) c.end.ensures
