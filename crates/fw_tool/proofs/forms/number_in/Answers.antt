use Rattle.std.proofs.Common.{◌≡◌, ℕ, ◌<◌, ◌^◌, Some, Ok, Result, decimal, ap, sym, subst, ◌∙◌, arith}
use Rattle.std.proofs.lemmas.Bool.{false≢true}
use Rattle.std.proofs.lemmas.Bool.Decides.{Decides-eqb}
use Rattle.std.proofs.lemmas.Slice.Eq.{slice_eq-Decides}
use Rattle.fw_tool.proofs.WordLaws.{read_back}
use Rattle.fw_tool.proofs.forms.number_in.Goals as goal

one_number : {E : Type 0} (r : Result ℕ E) (n m : ℕ) → r ≡ Ok n → r ≡ Ok m → n ≡ m
one_number r n m a b = cc

pub returns-in_default : goal.returns-in_default
returns-in_default c n = (λ e. cc, λ h. absurd (c.in_default.not-Ok n (read_back n c.args.word.now c.parse.result h.1 h.0 c.parse.ensures.value.0)))

pub returns-then-eq : goal.returns-then-eq
returns-then-eq c n =
    let same = (slice_eq-Decides Decides-eqb _ _ _ c.eq.ensures).0 c.if-eq.true in
    let small : c.in-Ok.number < 2 ^ 32 = omega (arith, c.in-Ok.ensures.value.0.0.1, c.in-Ok.ensures.value.0.1) in (
      λ e. let k : c.in-Ok.number ≡ n = cc in (sym same ∙ c.format.ensures.text ∙ ap (λ x. decimal x) k, subst (λ (x : ℕ). x < 2 ^ 32) k small),
      λ h. ap (λ (x : ℕ). Some x) (one_number c.parse.result c.in-Ok.number n c.in-Ok.is (read_back n c.args.word.now c.parse.result h.1 h.0 c.parse.ensures.value.0)),
    )

pub returns-else-eq : goal.returns-else-eq
returns-else-eq c n = (
  λ e. cc,
  λ h.
      let k = one_number c.parse.result c.in-Ok.number n c.in-Ok.is (read_back n c.args.word.now c.parse.result h.1 h.0 c.parse.ensures.value.0) in
      let same = c.format.ensures.text ∙ ap (λ x. decimal x) k ∙ sym h.0 in
      absurd (false≢true (sym c.if-eq.false ∙ (slice_eq-Decides Decides-eqb _ _ _ c.eq.ensures).1 same)),
)
