use Rattle.fw_async.proofs.Common.{◌≢◌, ℕ, ◌++◌, [], ◌∷◌, List, take, arith, sym, ◌∙◌, ap, subst, IsKept, bytes_from}
use Rattle.fw_async.proofs.ExactLaws.{whole_from_spells}
use Rattle.fw_async_fields.proofs.NeedLaws.{need_least}
use Rattle.fw_async.proofs.WireLaws.{is_absent, room, put_kept, put_pairs}
use Rattle.fw_async.proofs.wire.Wire.put_bytes.Goals as goal

pub push-requires : goal.push-requires
push-requires c =
    let absent = is_absent c.self.inside.lengths c.self.inside.rows c.self.inside.senders c.args.from (ap (bytes_from c.args.from) c.self.view_is ∙ c.requires.free) in
    room c.self.inside.lengths c.self.inside.senders c.args.from c.self.invariant (omega (arith, c.requires.from)) absent

pub invariant_of-self : goal.invariant_of-self
invariant_of-self c =
    let absent = is_absent c.self.inside.lengths c.self.inside.rows c.self.inside.senders c.args.from (ap (bytes_from c.args.from) c.self.view_is ∙ c.requires.free) in
    let whole = whole_from_spells c.requires.packet.packet c.args.packet.now c.requires.packet.spells in
    let some : c.copy_to.result ≢ 0 = omega (arith, need_least c.args.packet.now, whole, c.copy_to.ensures.size) in
    let P : List ℕ → Type 0 = IsKept _ in
    rw c.from-at.ensures (subst P (sym c.push.ensures) (put_kept c.self.inside.lengths c.self.inside.senders c.args.from c.copy_to.result c.self.invariant
    (omega (arith, c.requires.from)) c.copy_to.ensures.room some absent))

pub returns : goal.returns
returns c =
    let absent = is_absent c.self.inside.lengths c.self.inside.rows c.self.inside.senders c.args.from (ap (bytes_from c.args.from) c.self.view_is ∙ c.requires.free) in
    let new = put_pairs c.self.inside.lengths c.self.inside.rows c.self.inside.senders c.args.from c.copy_to.result c.copy_to.new.row (omega (arith, c.requires.from, c.self.told))
    (omega (arith, c.requires.from, c.self.told)) absent in
    rw (c.from-at.ensures, c.push.ensures) (new ∙ ap (λ t. t ++ (c.args.from, take c.copy_to.result c.copy_to.new.row) ∷ []) c.self.view_is
    ∙ ap (λ t. c.args.self.now ++ (c.args.from, t) ∷ []) c.copy_to.ensures.bytes)
