use Rattle.fw_log_json.proofs.Common.{◌≡◌, ◌<◌, ◌++◌, ◌∙◌, List, [], ap, sym, arith, length, map, drop, on_ok_weaker, drop_of_length-le, id_object, PhyPacket}
use Rattle.fw_log_json.proofs.Rows.{row, row_next, closed}
use Rattle.fw_log_json.proofs.ids.put_ids.Goals as goal

pub returns : goal.returns
returns c =
    let ended : drop c.loop-place.place c.args.ids.now ≡ [] =
    drop_of_length-le c.args.ids.now (omega (arith, c.loop-place-test.false, c.loop-place.auto.place-end)) in
    let rows = ap (λ (xs : List PhyPacket). c.loop-place.text.items ++ row c.loop-place.place (map id_object xs)) (sym ended) ∙ c.loop-place.invariant in
    on_ok_weaker c.put_word-2.result (λ piece. closed _ _ _ _ (map id_object c.args.ids.now) c.in_ok-put_word.ensures rows piece) c.put_word-2.ensures

pub loop-place-preserved : goal.loop-place-preserved
loop-place-preserved c =
    let within : c.loop-place.place < length c.args.ids.now = omega (arith, c.loop-place-test.true, c.loop-place.auto.place-end) in
    row_next id_object c.args.ids.now c.loop-place.place _ _ _ _ within c.in_ok-put_comma.ensures c.in_ok-put_id.ensures ∙ c.loop-place.invariant
