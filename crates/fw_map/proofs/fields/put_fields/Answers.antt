use Rattle.fw_map.proofs.Common.{◌≡◌, ◌+◌, ◌<◌, ◌≤◌, ℕ, List, Option, slice_index, slice_set, unwrap_or, sym, ap, subst, ◌∙◌, arith, field_in}
use Rattle.fw_map.proofs.RowLaws.{put_some, put_rest, put_none, none_of}
use Rattle.fw_map.proofs.fields.put_fields.Goals as goal
use Rattle.fw_map.proofs.fields.put_fields.Goals.{in-Some, in_default}

pub loop-port-preserved : goal.loop-port-preserved
loop-port-preserved c =
    let f : ℕ → Option ℕ = field_in c.args.packet.now c.args.node in
    let i = c.loop-port.invariant in
    let n = c.loop-port.port in
    let old = c.args.fields.now in
    let P : List ℕ → Type 0 = λ xs. (p : ℕ) → p < n + 1 → slice_index xs p ≡ unwrap_or (f p) (slice_index old p) in
    let Q : List ℕ → Type 0 = λ xs. (p : ℕ) → n + 1 ≤ p → slice_index xs p ≡ slice_index old p in
    elim c.match-field_in.branch [
      | in-Some w ↦
          let is : c.match-field_in.fields ≡ slice_set c.loop-port.fields n w.in-Some.field = w.fields-is ∙ ap (λ k. slice_set c.loop-port.fields k w.in-Some.field) w.from.ensures in
          record {
            size = c.match-field_in.array_long;
            done = subst P (sym is) (put_some c.loop-port.fields old f n w.in-Some.field (omega (arith, i.size, c.loop-port-test.true)) (sym c.field_in.ensures ∙ w.in-Some.is) i.done);
            rest = subst Q (sym is) (put_rest c.loop-port.fields old n w.in-Some.field i.rest);
          }
      | in_default w ↦ record {
        size = c.match-field_in.array_long;
        done = subst P (sym w.fields-is) (put_none c.loop-port.fields old f n (sym c.field_in.ensures ∙ none_of c.field_in.result w.in_default.not-Some) i.done i.rest);
        rest = subst Q (sym w.fields-is) (λ p l. i.rest p (omega arith));
      }
    ]
