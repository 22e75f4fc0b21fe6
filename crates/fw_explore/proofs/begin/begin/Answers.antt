use Rattle.fw_explore.proofs.Common.{ℕ, ◌≡◌, List, [], ◌∷◌, ap, subst, ◌∙◌, Entry, Had}
use Rattle.fw_explore_meaning.specs.Steps.{IsFirstKey}
use Rattle.fw_explore.specs.KeptBuses.{Keeping}
use Rattle.fw_explore.proofs.begin.begin.Goals as goal

-- the level of one place
abbrev one_place : List ℕ → List Entry
one_place key = record { key = key; ways = 1; first = [] } ∷ []

pub returns-clause-level : goal.returns-clause-level
returns-clause-level g c =
    let walker = c.first_key.new.self in
    let key = walker.key.items in
    let at_bus = subst (λ (k : Keeping _). IsFirstKey (Had walker.pasts) (g.P.Keeper.Kept walker.kept.places) k.bus.machine key) c.new.ensures c.in_ok-first_key.ensures in
    (key, at_bus, c.in_ok-levels.ensures.level ∙ ap one_place c.as_slice.ensures.value)
