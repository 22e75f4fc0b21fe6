use Rattle.fw_async.proofs.Common.{ℕ, ◌≤◌, length, arith, sym, subst, tcode_of}
use Rattle.fw_async.specs.Whole.{IsComplete, ReadsAs}
use Rattle.fw_async_fields.proofs.ReadingLaws.{no_fault}
use Rattle.fw_async_fields.proofs.NeedLaws.{need_least}
use Rattle.fw_async.proofs.WholeLaws.{is_whole, spells_whole}
use Rattle.fw_async_fields.proofs.SoundLaws.{known_of}
use Rattle.fw_async.proofs.reader.packet_at.Goals as goal

pub packet_of_kind-requires : goal.packet_of_kind-requires
packet_of_kind-requires c =
    let bytes = c.args.bytes.now in
    let begun : 12 ≤ length c.args.bytes.now = rw c.requires.complete (need_least c.args.bytes.now) in
    let P : ℕ → Type 0 = λ t. IsComplete t c.args.bytes.now in
    subst P (sym c.in-Some.ensures.same) (is_whole c.args.bytes.now begun c.requires.complete (λ i. omega (arith, c.type_inv.bytes i)) c.requires.clear)

pub unreachable-requires : goal.unreachable-requires
unreachable-requires c =
    let begun : 12 ≤ length c.args.bytes.now = rw c.requires.complete (need_least c.args.bytes.now) in
    let n = no_fault c.args.bytes.now (omega arith) c.requires.clear in
    cc (c.in-None.ensures.known.1 (known_of (tcode_of c.args.bytes.now) n.known))

pub returns : goal.returns
returns c =
    let begun : 12 ≤ length c.args.bytes.now = rw c.requires.complete (need_least c.args.bytes.now) in
    let P : ℕ → Type 0 = λ t. ReadsAs t c.args.bytes.now c.packet_of_kind.result in
    spells_whole c.args.bytes.now c.packet_of_kind.result (λ i. omega (arith, c.type_inv.bytes i)) begun c.requires.complete c.requires.clear (subst P c.in-Some.ensures.same c.packet_of_kind.ensures)
