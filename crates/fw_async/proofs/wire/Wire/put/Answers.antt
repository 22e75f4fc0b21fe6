use Rattle.fw_async.proofs.Common.{◌≢◌, ℕ, ◌++◌, [], ◌∷◌, List, take, arith, sym, ◌∙◌, ap, subst, spelling, IsKept, bytes_from}
use Rattle.fw_async.proofs.SpelledSizeLaws.{spelled_need}
use Rattle.fw_async_fields.proofs.NeedLaws.{need_least}
use Rattle.fw_async.proofs.WireLaws.{is_absent, room, put_kept, put_pairs}
use Rattle.fw_async.proofs.wire.Wire.put.Goals as goal

pub push-requires : goal.push-requires
push-requires c =
    let absent = is_absent c.self.inside.lengths c.self.inside.rows c.self.inside.senders c.args.from (ap (bytes_from c.args.from) c.self.view_is ∙ c.requires.free) in
    room c.self.inside.lengths c.self.inside.senders c.args.from c.self.invariant (omega (arith, c.requires.from)) absent

pub invariant_of-self : goal.invariant_of-self
invariant_of-self c =
    let absent = is_absent c.self.inside.lengths c.self.inside.rows c.self.inside.senders c.args.from (ap (bytes_from c.args.from) c.self.view_is ∙ c.requires.free) in
    let some : c.spell_over-length.result ≢ 0 = omega (arith, need_least (spelling c.args.p.now), spelled_need c.args.p.now c.requires.fits, c.spell_over-length.ensures.size) in
    let P : List ℕ → Type 0 = IsKept _ in
    rw c.from-at.ensures (subst P (sym c.push.ensures) (put_kept c.self.inside.lengths c.self.inside.senders c.args.from c.spell_over-length.result c.self.invariant
    (omega (arith, c.requires.from)) c.spell_over-length.ensures.room some absent))

pub returns : goal.returns
returns c =
    let absent = is_absent c.self.inside.lengths c.self.inside.rows c.self.inside.senders c.args.from (ap (bytes_from c.args.from) c.self.view_is ∙ c.requires.free) in
    let new = put_pairs c.self.inside.lengths c.self.inside.rows c.self.inside.senders c.args.from c.spell_over-length.result c.spell_over-length.new.out (omega (arith, c.requires.from, c.self.told))
    (omega (arith, c.requires.from, c.self.told)) absent in
    rw (c.from-at.ensures, c.push.ensures) (new ∙ ap (λ t. t ++ (c.args.from, take c.spell_over-length.result c.spell_over-length.new.out) ∷ []) c.self.view_is
    ∙ ap (λ t. c.args.self.now ++ (c.args.from, t) ∷ []) c.spell_over-length.ensures.bytes)
