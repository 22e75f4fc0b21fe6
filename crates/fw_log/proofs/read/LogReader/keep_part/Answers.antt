use Rattle.fw_log.proofs.Common.{◌≡◌, ◌==◌, ◌++◌, ℕ, true, length, arith, ap, sym, ◌∙◌, nat_tests, position, State}
use Rattle.fw_log.proofs.FindLaws.{pending_at, holds_by}
use Rattle.fw_log.proofs.PartLaws.{part_of, part_room}
use Rattle.fw_log.proofs.read.LogReader.keep_part.Goals as goal

none_taken : (n : ℕ) → (n == 0) ≡ true → n ≡ 0
none_taken n h = grind (arith, nat_tests)

pub append-requires : goal.append-requires
append-requires c =
    let part = part_of c.args.self.now.stand (position c.self.inside.stand) c.args.self.now.taken c.as_slice.result.now c.args.piece.now (ap (λ (r : State). r.stand) c.self.view_is)
    (c.as_slice.ensures.value ∙ c.deref.ensures ∙ ap (λ (r : State). r.taken) c.self.view_is)
    (none_taken (length c.as_slice.result.now) (sym c.is_empty.ensures ∙ c.if-not-is_empty.false)) (c.is_part.ensures c.if-not-is_part.false) in
    let same : length c.deref_mut.result.now ≡ length c.args.self.now.taken = ap length (c.deref_mut.ensures.value ∙ ap (λ (r : State). r.taken) c.self.view_is) in
    omega (arith, same, part_room c.args.self.now.stand c.args.self.now.taken c.args.piece.now part)

pub invariant_of-self : goal.invariant_of-self
invariant_of-self c =
    let part = part_of c.args.self.now.stand (position c.self.inside.stand) c.args.self.now.taken c.as_slice.result.now c.args.piece.now (ap (λ (r : State). r.stand) c.self.view_is)
    (c.as_slice.ensures.value ∙ c.deref.ensures ∙ ap (λ (r : State). r.taken) c.self.view_is)
    (none_taken (length c.as_slice.result.now) (sym c.is_empty.ensures ∙ c.if-not-is_empty.false)) (c.is_part.ensures c.if-not-is_part.false) in
    let taken : c.append.new.self ≡ c.args.self.now.taken ++ c.args.piece.now =
    c.append.ensures ∙ ap (λ t. t ++ c.args.piece.now) (c.deref_mut.ensures.value ∙ ap (λ (r : State). r.taken) c.self.view_is) in
    holds_by (position c.self.inside.stand) c.append.new.self c.self.inside.fault (ap (λ (r : State). r.fault) c.self.view_is ∙ c.requires)
    (pending_at c.args.self.now.stand (position c.self.inside.stand) _ _ (ap (λ (r : State). r.stand) c.self.view_is) taken part)
