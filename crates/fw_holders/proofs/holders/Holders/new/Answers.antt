use Rattle.fw_holders.proofs.Common.{refl, sym, subst, arith, IsWithin}
use Rattle.fw_model_account.specs.Fold.{no_account}
use Rattle.fw_audit.proofs.Audits.{nothing_audited}
use Rattle.fw_holders.proofs.holders.Holders.new.Goals as goal

pub returns : goal.returns
returns c = (
  c.in_ok-with_capacity.ensures.items,
  record {
    audited = nothing_audited;
    account = no_account;
    is_account = refl;
    stands = c.in_ok-new.ensures;
    judged = c.nothing.ensures;
    within = subst (λ j. IsWithin 0 j) (sym c.nothing.ensures) (record { reads = omega arith; made = omega arith; unmade = omega arith; shown = omega arith; resets = omega arith });
  },
)
