use Rattle.fw_bus_engine.proofs.Common.{List, ℕ, Option, Some, ap, sym, ◌∙◌}
use Rattle.fw_bus_engine.proofs.cycle_streams.deck_of.Goals as goal

pub returns-in-Some-clause-value : goal.returns-in-Some-clause-value
returns-in-Some-clause-value c s g st =
    ap (λ (b : Option (List ℕ)). Some (record c.in-Some.recording { block = b })) (sym c.in-Some.ensures.nothing) ∙ c.in-Some.ensures.value s g st

pub returns-in-None-clause-value : goal.returns-in-None-clause-value
returns-in-None-clause-value c s g st = c.in-None.ensures.value s g st
