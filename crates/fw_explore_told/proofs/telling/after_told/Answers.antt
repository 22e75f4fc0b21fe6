use Rattle.std.proofs.Common.{refl, sym, subst}
use Rattle.fw_explore_told.specs.Telling.{is_of_bid}
use Rattle.fw_explore_told.specs.Sayings.{IsNotOf}
use Rattle.fw_explore_told.proofs.EndLaws.{either_not}
use Rattle.fw_explore_told.proofs.telling.after_told.Goals as goal

pub returns-in-Event : goal.returns-in-Event
returns-in-Event c = record {
  few = c.after_device.ensures.few;
  others = λ d from low. subst (IsNotOf d) (sym c.in-Event.is) (either_not (is_of_bid c.in-Event.e.code) _ (c.after_device.ensures.others d from low));
}

pub returns-in-Outcome : goal.returns-in-Outcome
returns-in-Outcome c = record {
  few = c.after_device-in-Outcome.ensures.few;
  others = λ d from low. subst (IsNotOf d) (sym c.in-Outcome.is) (c.after_device-in-Outcome.ensures.others d from low, refl);
}
