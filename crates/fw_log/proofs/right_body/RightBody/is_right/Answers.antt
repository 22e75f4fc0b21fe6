use Rattle.fw_log.proofs.Common.{◌≡◌, drop, arith, sym, ◌∙◌, take_rest}
use Rattle.std.proofs.lemmas.Slice.Eq.{slice_eq-Decides}
use Rattle.std.proofs.lemmas.Bool.Decides.{Decides-eqb}
use Rattle.fw_log.proofs.RightBodyLaws.{reset_again, some_later}
use Rattle.fw_log.proofs.right_body.RightBody.is_right.Goals as goal

pub returns-then-eq-clause-reset : goal.returns-then-eq-clause-reset
returns-then-eq-clause-reset c t =
    let later = c.self.inside.later in
    let body = c.args.body.now in
    let same : later ≡ drop 4 body = sym c.as_slice.ensures.value ∙ (slice_eq-Decides Decides-eqb _ _ _ c.eq.ensures).0 c.if-eq.true ∙ take_rest body 4 in
    reset_again body later (λ i. omega (arith, c.type_inv.body i)) (omega (arith, c.requires.some)) (c.self.invariant (some_later body later c.requires.some same)) same

pub returns-then-eq-clause-latest : goal.returns-then-eq-clause-latest
returns-then-eq-clause-latest c t =
    sym c.self.view_is ∙ sym c.as_slice.ensures.value ∙ (slice_eq-Decides Decides-eqb _ _ _ c.eq.ensures).0 c.if-eq.true ∙ take_rest c.args.body.now 4
