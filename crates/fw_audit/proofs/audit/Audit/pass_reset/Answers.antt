use Rattle.std.proofs.Common.{◌≡◌, Option, Some, None, refl, is_some, true, false, ap, sym, ◌∙◌}
use Rattle.std.proofs.lemmas.Bool.{false≢true}
use Rattle.fw_model_account.specs.Events.{after_reset}
use Rattle.fw_log_entry.specs.declared.entry.Entry.TheVariants.{Reset}
use Rattle.fw_audit.proofs.Audits.{other_clear, taken_found}
use Rattle.fw_audit.proofs.audit.Audit.pass_reset.Goals as goal

pub returns-clause-found : goal.returns-clause-found
returns-clause-found c = λ yes entries r fits manager nodes x.
    taken_found entries (Reset r) c.args.self.now _ x (other_clear x.account) (after_reset r x.account, refl, c.take_bus.ensures.taken yes x.account r x.stands fits manager nodes)

not_some : {X : Type 0} (o : Option X) → is_some o ≡ false → o ≡ None
not_some o e = elim o as (λ p. is_some p ≡ false → p ≡ None) [ None ↦ λ f. refl | Some x ↦ λ f. absurd (false≢true (sym f)) ] e

pub returns-then-is_some-clause-exactly : goal.returns-then-is_some-clause-exactly
returns-then-is_some-clause-exactly c = λ l h. (
  λ yes. absurd (false≢true yes),
  λ x. absurd (false≢true (sym (ap is_some x.0) ∙ sym c.is_some.ensures ∙ c.if-is_some.true)),
)

pub returns-clause-exactly : goal.returns-clause-exactly
returns-clause-exactly c = λ l h.
    let x = c.take_bus.ensures.exactly l h in
    (λ yes. (not_some c.args.self.now.fault (sym c.is_some.ensures ∙ c.if-is_some.false), x.0 yes), λ y. x.1 y.1)
