use Rattle.fw_ledger.proofs.Common.{◌∙◌, ap, map, length-set, orphaned_charge, orphaned_seats}
use Rattle.fw_ledger.proofs.Orphans.{death_stands, mapped_items, asked_dropped, asked_beyond}
use Rattle.fw_ledger.proofs.event.take_death.Goals as goal

pub returns-then-device-lt63 : goal.returns-then-device-lt63
returns-then-device-lt63 c = λ l h.
    let t = c.args.tables.now in
    death_stands t l c.args.device _ _ _ _ h
    (mapped_items t.charges c.orphan_charges.new.charges (orphaned_charge c.args.device) (c.orphan_charges.ensures ∙ ap (map (orphaned_charge c.args.device)) c.deref_mut.ensures.value))
    (mapped_items t.output_seats c.orphan_plugs.new.plugs (orphaned_seats c.args.device) (c.orphan_plugs.ensures ∙ ap (map (orphaned_seats c.args.device)) c.deref_mut-2.ensures.value))
    (mapped_items t.input_seats c.orphan_plugs-2.new.plugs (orphaned_seats c.args.device) (c.orphan_plugs-2.ensures ∙ ap (map (orphaned_seats c.args.device)) c.deref_mut-3.ensures.value))
    (length-set t.asked.items c.from.result _ ∙ h.sizes.asked)
    (rw c.from.ensures (asked_dropped t l c.args.device h))

pub returns-else-device-lt63 : goal.returns-else-device-lt63
returns-else-device-lt63 c = λ l h.
    let t = c.args.tables.now in
    death_stands t l c.args.device _ _ _ _ h
    (mapped_items t.charges c.orphan_charges.new.charges (orphaned_charge c.args.device) (c.orphan_charges.ensures ∙ ap (map (orphaned_charge c.args.device)) c.deref_mut.ensures.value))
    (mapped_items t.output_seats c.orphan_plugs.new.plugs (orphaned_seats c.args.device) (c.orphan_plugs.ensures ∙ ap (map (orphaned_seats c.args.device)) c.deref_mut-2.ensures.value))
    (mapped_items t.input_seats c.orphan_plugs-2.new.plugs (orphaned_seats c.args.device) (c.orphan_plugs-2.ensures ∙ ap (map (orphaned_seats c.args.device)) c.deref_mut-3.ensures.value))
    h.sizes.asked
    (asked_beyond t l c.args.device h c.if-device-lt63.false)
