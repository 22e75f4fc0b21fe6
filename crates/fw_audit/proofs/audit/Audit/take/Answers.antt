use Rattle.std.proofs.Common.{◌++◌, ◌∷◌, [], refl, sym, subst, arith}
use Rattle.fw_model_audit.specs.Looked.{looked}
use Rattle.fw_model_audit.specs.Faults.{IsVerdict}
use Rattle.fw_audit.specs.Found.{Found}
use Rattle.fw_audit.specs.declared.audit.Audit.{Audit}
use Rattle.fw_audit.proofs.Audits.{found_more}
use Rattle.fw_audit.proofs.audit.Audit.take.Goals as goal
use Rattle.fw_audit.proofs.audit.Audit.take.Goals.{then-is_none, else-is_none}

pub returns-clause-found : goal.returns-clause-found
returns-clause-found c = λ entries none x.
    elim c.if-is_none.branch [
      | then-is_none w ↦ (
        refl,
        subst (λ (a : Audit). Found (entries ++ c.args.t.now.what ∷ []) a a.fault) (sym w.self-is)
            (found_more entries c.args.t.now.what c.args.self.now _ _ x (w.fault_at-self.ensures.found x.account x.stands) (w.fault_at-self.ensures.taken x.account x.stands)),
      )
      | else-is_none w ↦ absurd (grind (arith, none, w.if-is_none.false, c.is_none.ensures))
    ]

pub returns-clause-first : goal.returns-clause-first
returns-clause-first c = λ l none h.
    elim c.if-is_none.branch [
      | then-is_none w ↦
          subst (λ (a : Audit). IsVerdict l (looked c.args.t.now.what) a.fault) (sym w.self-is) (w.fault_at-self.ensures.found l h)
      | else-is_none w ↦ absurd (grind (arith, none, w.if-is_none.false, c.is_none.ensures))
    ]
