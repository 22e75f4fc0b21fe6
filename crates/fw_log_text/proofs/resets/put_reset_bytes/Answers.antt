use Rattle.std.proofs.Common.{◌≡◌, ◌≤◌, ◌+◌, ◌*◌, ◌-◌, ◌++◌, ◌∙◌, List, ℕ, length, take, drop, flat_map, arith, ap, append_assoc}
use Rattle.std.proofs.lemmas.List.{take_all, length-drop}
use Rattle.std.proofs.lemmas.Result.{on_ok_weaker}
use Rattle.fw_log_text.specs.Line.{id_text}
use Rattle.fw_log_text.specs.Resets.{head_text}
use Rattle.fw_log_text.proofs.ResetLaws.{long, ids_after, head_is}
use Rattle.fw_log_text.proofs.resets.put_reset_bytes.Goals as goal

pub slice_bounds-put_ids-count : goal.slice_bounds-put_ids-count
slice_bounds-put_ids-count c =
    let head = c.head_of-head.ensures c.requires.reset c.requires.fits c.requires.same in
    omega (arith, head.count, long c.requires.reset c.args.bytes.now c.requires.same)

pub slice_bounds-put_ids-start : goal.slice_bounds-put_ids-start
slice_bounds-put_ids-start c =
    let head = c.head_of-head.ensures c.requires.reset c.requires.fits c.requires.same in
    let fits : 8 + 4 * c.head_of-head.result.count ≤ length c.args.bytes.now = omega (arith, head.count, long c.requires.reset c.args.bytes.now c.requires.same) in
    omega arith

pub returns : goal.returns
returns c r f s =
    let head = c.head_of-head.ensures r f s in
    let n : ℕ = 8 + 4 * c.head_of-head.result.count in
    let ids : List ℕ = flat_map id_text r.ids in
    let all : take (length c.args.bytes.now - n) (drop n c.args.bytes.now) ≡ drop n c.args.bytes.now =
    take_all (length c.args.bytes.now - n) (drop n c.args.bytes.now) (omega (arith, length-drop n c.args.bytes.now)) in
    on_ok_weaker c.put_ids.result
    (λ e. e ∙ ap (λ (t : List ℕ). t ++ ids) c.in_ok-put_head.ensures ∙ append_assoc c.args.text.now (head_text c.head_of-head.result) ids
    ∙ ap (λ (x : List ℕ). c.args.text.now ++ x) (head_is r c.head_of-head.result head))
    (c.put_ids.ensures r.ids (all ∙ ids_after r c.args.bytes.now c.head_of-head.result.count s head.count))
