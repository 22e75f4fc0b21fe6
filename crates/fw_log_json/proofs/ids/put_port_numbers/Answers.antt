use Rattle.fw_log_json.proofs.Common.{◌≡◌, ◌<◌, ◌++◌, ◌∙◌, ℕ, List, [], ap, sym, arith, length, map, drop, decimal, on_ok_weaker, drop_of_length-le, moved}
use Rattle.fw_log_json.proofs.Rows.{row, row_next, closed}
use Rattle.fw_log_json.proofs.ids.put_port_numbers.Goals as goal

pub returns : goal.returns
returns c =
    let ended : drop c.loop-place.place c.args.ports.now ≡ [] =
    drop_of_length-le c.args.ports.now (omega (arith, c.loop-place-test.false, c.loop-place.auto.place-end)) in
    let rows = ap (λ (xs : List ℕ). c.loop-place.text.items ++ row c.loop-place.place (map decimal xs)) (sym ended) ∙ c.loop-place.invariant in
    on_ok_weaker c.put_word-2.result (λ piece. closed _ _ _ _ (map decimal c.args.ports.now) c.in_ok-put_word.ensures rows piece) c.put_word-2.ensures

pub loop-place-preserved : goal.loop-place-preserved
loop-place-preserved c =
    let within : c.loop-place.place < length c.args.ports.now = omega (arith, c.loop-place-test.true, c.loop-place.auto.place-end) in
    row_next decimal c.args.ports.now c.loop-place.place _ _ _ _ within c.in_ok-put_comma.ensures (moved decimal _ _ _ _ c.from.ensures c.in_ok-put_number.ensures) ∙ c.loop-place.invariant
