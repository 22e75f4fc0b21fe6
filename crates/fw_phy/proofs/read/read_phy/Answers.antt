use Rattle.std.proofs.Common.{◌-◌, ◌^◌, ◌<◌, ◌++◌, arith, sym, ◌∙◌, ap, refl, length, ◌≤◌}
use Rattle.std.specs.Int.{to_be_bytes, w32}
use Rattle.fw_phy.proofs.ReadLaws.{fault_of, found_of, only_of}
use Rattle.fw_phy.proofs.StopLaws.{reserved_of}
use Rattle.fw_phy.proofs.read.read_phy.Goals as goal

pub returns-clause-fault : goal.returns-clause-fault
returns-clause-fault c =
    let enough : 8 ≤ length c.args.b.now = c.in-Some.ensures.variant.0 refl in
    c.packet_of.ensures.fault ∙ sym (fault_of c.args.b.now c.in-Some.q.0 c.in-Some.inverse.0 enough c.in-Some.ensures.values.0 c.in-Some.ensures.values.1 c.if-inverse-q.false)

pub returns-clause-found : goal.returns-clause-found
returns-clause-found c =
    found_of _ c.in-Some.q.0 _ (c.in-Some.ensures.bytes ∙ ap (λ r. to_be_bytes w32 c.in-Some.q.0 ++ to_be_bytes w32 r) c.if-inverse-q.false) c.packet_of.ensures.found

pub returns-clause-only : goal.returns-clause-only
returns-clause-only c =
    let small : c.in-Some.q.0 < 2 ^ 32 = omega arith in
    only_of _ c.in-Some.q.0 _ small (c.in-Some.ensures.bytes ∙ ap (λ r. to_be_bytes w32 c.in-Some.q.0 ++ to_be_bytes w32 r) c.if-inverse-q.false) c.packet_of.ensures.fault c.packet_of.ensures.found

pub returns-clause-reserved : goal.returns-clause-reserved
returns-clause-reserved c =
    let enough : 8 ≤ length c.args.b.now = c.in-Some.ensures.variant.0 refl in
    let small : c.in-Some.q.0 < 2 ^ 32 = omega arith in
    let values = c.in-Some.ensures.values in
    reserved_of c.packet_of.result c.args.b.now c.in-Some.q.0 small
    (record { enough = enough; inverse = sym values.1 ∙ (c.if-inverse-q.false ∙ ap (λ n. 2 ^ 32 - 1 - n) values.0) }) values.0 c.packet_of.ensures.fault c.packet_of.ensures.found
