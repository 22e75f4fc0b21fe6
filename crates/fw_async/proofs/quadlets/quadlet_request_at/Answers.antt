use Rattle.fw_async.proofs.Common.{◌≡◌, arith, sym, ap, ◌∙◌, tcode_of}
use Rattle.fw_async_fields.specs.Tcode.{code_of}
use Rattle.fw_async.specs.Quadlets.{request_packet}
use Rattle.fw_async.proofs.QuadletLaws.{complete_of, long_lock, read_back, least}
use Rattle.fw_async.proofs.quadlets.quadlet_request_at.Goals as goal

pub tcode_at-requires : goal.tcode_at-requires
tcode_at-requires c = omega (arith, least c.requires.packet c.args.bytes.now c.requires.spells)

pub read_asked_at-requires : goal.read_asked_at-requires
read_asked_at-requires c =
    let kind : tcode_of c.args.bytes.now ≡ 4 = sym c.in_ok-tcode_at.ensures.same ∙ ap code_of c.in-ReadQuadlet.is in
    complete_of 4 c.requires.packet c.args.bytes.now (λ i. omega (arith, c.type_inv.bytes i)) c.requires.spells kind

pub returns-in-ReadQuadlet : goal.returns-in-ReadQuadlet
returns-in-ReadQuadlet c = λ p s.
    let kind : tcode_of c.args.bytes.now ≡ 4 = sym c.in_ok-tcode_at.ensures.same ∙ ap code_of c.in-ReadQuadlet.is in
    read_back 4 p (request_packet c.read_asked_at.result) c.args.bytes.now (λ i. omega (arith, c.type_inv.bytes i)) s kind c.read_asked_at.ensures

pub quadlet_at-requires : goal.quadlet_at-requires
quadlet_at-requires c =
    let kind : tcode_of c.args.bytes.now ≡ 9 = sym c.in_ok-tcode_at.ensures.same ∙ ap code_of c.in-Lock.is in
    long_lock c.args.bytes.now (complete_of 9 c.requires.packet c.args.bytes.now (λ i. omega (arith, c.type_inv.bytes i)) c.requires.spells kind)

pub swap_asked_at-requires-clause-complete : goal.swap_asked_at-requires-clause-complete
swap_asked_at-requires-clause-complete c =
    let kind : tcode_of c.args.bytes.now ≡ 9 = sym c.in_ok-tcode_at.ensures.same ∙ ap code_of c.in-Lock.is in
    complete_of 9 c.requires.packet c.args.bytes.now (λ i. omega (arith, c.type_inv.bytes i)) c.requires.spells kind

pub returns-in-Lock : goal.returns-in-Lock
returns-in-Lock c = λ p s.
    let kind : tcode_of c.args.bytes.now ≡ 9 = sym c.in_ok-tcode_at.ensures.same ∙ ap code_of c.in-Lock.is in
    read_back 9 p (request_packet c.swap_asked_at.result) c.args.bytes.now (λ i. omega (arith, c.type_inv.bytes i)) s kind c.swap_asked_at.ensures
