use Rattle.fw_map.proofs.Common.{slice_index, ◌≡◌, ◌==◌, ℕ, ◌+◌, Bool, true, false, Option, sym, ap, subst, ◌∙◌, arith, eq-eqb, ne_eqb, field_of, IsLast, counted_none, counted_yes, counted_else}
use Rattle.fw_tree.proofs.CountLaws.{counted_most}
use Rattle.fw_map.proofs.FieldLaws.{last_none, last_yes, last_else}
use Rattle.fw_map.proofs.fields.parent_ports.Goals as goal
use Rattle.fw_map.proofs.fields.parent_ports.Goals.{then-fields-from-eq-PARENT, else-fields-from-eq-PARENT}

pub loop-port-init : goal.loop-port-init
loop-port-init c = record { count = sym (counted_none (λ p. field_of c.args.ids.now c.args.node p == 2)); last = last_none (λ p. field_of c.args.ids.now c.args.node p == 2) }

pub overflow_add-count : goal.overflow_add-count
overflow_add-count c = let m = counted_most (λ p. field_of c.args.ids.now c.args.node p == 2) c.loop-port.port in let e = c.loop-port.invariant.count in omega arith

pub loop-port-preserved : goal.loop-port-preserved
loop-port-preserved c =
    let f : ℕ → Bool = λ p. field_of c.args.ids.now c.args.node p == 2 in
    let P : Option ℕ → Type 0 = IsLast f (c.loop-port.port + 1) in
    let e : slice_index c.fields_of-fields.result c.from.result ≡ field_of c.args.ids.now c.args.node c.loop-port.port =
    ap (slice_index c.fields_of-fields.result) c.from.ensures ∙ c.fields_of-fields.ensures c.loop-port.port c.loop-port-test.true in
    elim c.if-fields-from-eq-PARENT.branch [
      | then-fields-from-eq-PARENT w ↦
          let on : f c.loop-port.port ≡ true = eq-eqb (field_of c.args.ids.now c.args.node c.loop-port.port) 2 (sym e ∙ w.if-fields-from-eq-PARENT.true) in
          record { count = w.count-is ∙ (ap (λ n. n + 1) c.loop-port.invariant.count ∙ sym (counted_yes f c.loop-port.port on)); last = subst P (sym w.last-is) (last_yes f c.loop-port.port on) }
      | else-fields-from-eq-PARENT w ↦
          let off : f c.loop-port.port ≡ false = ne_eqb (field_of c.args.ids.now c.args.node c.loop-port.port) 2 (λ h. w.if-fields-from-eq-PARENT.false (e ∙ h)) in
          record {
            count = w.count-is ∙ (c.loop-port.invariant.count ∙ sym (counted_else f c.loop-port.port off));
            last = subst P (sym w.last-is) (last_else f c.loop-port.port c.loop-port.last off c.loop-port.invariant.last);
          }
    ]
