use Rattle.std.proofs.Common.{◌≤◌, ◌+◌, ◌*◌, ◌-◌, ◌∙◌, ◌++◌, List, ℕ, length, drop, flat_map, arith, ap, length-append}
use Rattle.std.proofs.lemmas.List.{take_all, length-drop}
use Rattle.fw_phy.specs.Phy.{spelling}
use Rattle.fw_log_entry.specs.Log.{quads, reset_quads}
use Rattle.fw_log_text.proofs.BodyLaws.{ids_from, length-nodes}
use Rattle.fw_log_text.proofs.resets.ids_part.Goals as goal

pub slice_bounds-result-count : goal.slice_bounds-result-count
slice_bounds-result-count c = omega (
  arith,
  ap length c.as_slice.ensures.value,
  ap length c.requires,
  length-nodes c.args.r.now,
  length-append (quads (reset_quads c.args.r.now)) (flat_map spelling c.args.r.now.ids),
)

pub slice_bounds-result-start : goal.slice_bounds-result-start
slice_bounds-result-start c =
    let fits : 8 + 4 * length c.as_slice.result.now ≤ length c.args.bytes.now =
    omega (arith, ap length c.as_slice.ensures.value, ap length c.requires, length-nodes c.args.r.now, length-append (quads (reset_quads c.args.r.now)) (flat_map spelling c.args.r.now.ids)) in
    omega arith

pub returns : goal.returns
returns c =
    let n : ℕ = 8 + 4 * length c.as_slice.result.now in
    let all = take_all (length c.args.bytes.now - n) (drop n c.args.bytes.now) (omega (arith, length-drop n c.args.bytes.now)) in
    all ∙ ap (λ (x : List ℕ). drop n x) c.requires ∙ ap (λ (k : ℕ). drop k (quads (reset_quads c.args.r.now) ++ flat_map spelling c.args.r.now.ids)) (omega (arith, ap length c.as_slice.ensures.value))
    ∙ ids_from c.args.r.now
