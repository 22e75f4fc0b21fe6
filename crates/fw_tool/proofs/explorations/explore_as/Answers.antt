use Rattle.std.proofs.Common.{List, ℕ, inl, inr, refl, subst}
use Rattle.fw_explore_movers.specs.Words.{IsExploredBy, IsNoExploration}
use Rattle.fw_explore_meaning.proofs.WordsLaws.{explored_by}
use Rattle.fw_tool.proofs.WordLaws.{rest_is}
use Rattle.fw_tool.proofs.explorations.explore_as.Goals as goal

pub explore-requires-clause-explored : goal.explore-requires-clause-explored
explore-requires-clause-explored g c = (explored_by _ c.in-Ok.explored c.in-Ok.ensures).0

pub explore-requires-clause-order : goal.explore-requires-clause-order
explore-requires-clause-order g c = (explored_by _ c.in-Ok.explored c.in-Ok.ensures).1

pub returns-in-Ok-clause-explores : goal.returns-in-Ok-clause-explores
returns-in-Ok-clause-explores g c more form =
    let P : List (List ℕ) → Type 0 = λ words. IsExploredBy words c.in-Ok.explored in
    inl record {
      explored = c.in-Ok.explored;
      named = subst P (rest_is c.args.words.now more c.in-len1-up.len_at_least form) c.in-Ok.ensures;
      came = c.explore.result;
      ending_is = c.ending_of_exploration.ensures;
      told = c.explore.ensures.tells;
    }

pub returns-in-Err-clause-explores : goal.returns-in-Err-clause-explores
returns-in-Err-clause-explores g c more form =
    let P : List (List ℕ) → Type 0 = λ words. IsNoExploration words c.in-Err.fault in
    inr record {
      fault = c.in-Err.fault;
      why = subst P (rest_is c.args.words.now more c.in-len1-up.len_at_least form) c.in-Err.ensures;
      ending_is = c.ending_of_words.ensures;
      unread = refl;
      unwritten = refl;
    }
