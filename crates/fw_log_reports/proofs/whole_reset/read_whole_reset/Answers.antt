use Rattle.std.proofs.Common.{◌∙◌, List, length, drop, arith, ap, sym, subst}
use Rattle.fw_phy.specs.declared.packet.PhyPacket.{PhyPacket}
use Rattle.fw_log.specs.Bodies.{AreIds, ids_at}
use Rattle.fw_log.proofs.ResetLaws.{same_reset, shape_of, rest_is}
use Rattle.fw_log_text.proofs.ResetLaws.{long}
use Rattle.fw_log_reports.proofs.WholeLaws.{has, are_ids}
use Rattle.fw_log_reports.proofs.whole_reset.read_whole_reset.Goals as goal

pub count_of-count-requires : goal.count_of-count-requires
count_of-count-requires c = omega (arith, long c.requires.reset c.args.bytes.now c.requires.same)

pub slice_bounds-read_ids-count : goal.slice_bounds-read_ids-count
slice_bounds-read_ids-count c =
    omega (arith, long c.requires.reset c.args.bytes.now c.requires.same, c.count_of-count.ensures.value, (has c.args.bytes.now c.requires).count)

pub slice_bounds-read_ids-start : goal.slice_bounds-read_ids-start
slice_bounds-read_ids-start c =
    omega (arith, long c.requires.reset c.args.bytes.now c.requires.same, c.count_of-count.ensures.value, (has c.args.bytes.now c.requires).count)

pub read_ids-requires : goal.read_ids-requires
read_ids-requires c =
    (c.requires.reset.ids, are_ids c.args.bytes.now _ c.requires (rest_is c.args.bytes.now c.count_of-count.result c.count_of-count.ensures.value), c.requires.fits.few_packets)

pub read_fields-requires-clause-nodes : goal.read_fields-requires-clause-nodes
read_fields-requires-clause-nodes c = (has c.args.bytes.now c.requires).nodes

pub read_fields-requires-clause-some : goal.read_fields-requires-clause-some
read_fields-requires-clause-some c = omega (arith, long c.requires.reset c.args.bytes.now c.requires.same)

pub read_fields-requires-clause-ids : goal.read_fields-requires-clause-ids
read_fields-requires-clause-ids c =
    let given = are_ids c.args.bytes.now _ c.requires (rest_is c.args.bytes.now c.count_of-count.result c.count_of-count.ensures.value) in
    let ids = c.read_ids.ensures c.requires.reset.ids given in
    let P : List PhyPacket → Type 0 = λ ps. AreIds ps (drop (ids_at c.args.bytes.now) c.args.bytes.now) in
    subst P (sym ids) (record { fits = given.fits; same = sym (has c.args.bytes.now c.requires).ids })

pub read_fields-requires-clause-few : goal.read_fields-requires-clause-few
read_fields-requires-clause-few c =
    let given = are_ids c.args.bytes.now _ c.requires (rest_is c.args.bytes.now c.count_of-count.result c.count_of-count.ensures.value) in
    omega (arith, ap length (c.read_ids.ensures c.requires.reset.ids given), c.requires.fits.few_packets)

pub returns : goal.returns
returns c r f s = same_reset c.read_fields.new.reset r c.read_fields.ensures.shape (shape_of r f) (c.read_fields.ensures.same ∙ sym s)
