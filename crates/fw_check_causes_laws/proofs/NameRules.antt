-- Rules of names, decks, candidates and the first device.
use Rattle.std.proofs.Common.{◌≡◌, ℕ, ◌+◌, not, ◌||◌, Bool, true, false, cond, List, [], ◌∷◌, Option, Some, None, refl}
use Rattle.std.specs.List.{list_any}
use Rattle.fw_script_command.specs.declared.command.Command.{Command}
use Rattle.fw_script_command.specs.declared.command.Command.TheVariants as Commands
use Rattle.fw_terms.specs.Devices.{is_capable}
use Rattle.fw_devices.specs.Network.{kind_at}
use Rattle.fw_model_run.specs.Named.{IsNot, is_declared}
use Rattle.fw_model_run.specs.Rules.{TakesName, IsNotCapable, IsNoCandidate, IsTooLate}
use Rattle.fw_model_run.specs.State.{State}
use Rattle.fw_check.specs.declared.why.Why.{Why}
use Rattle.fw_check.specs.declared.why.Why.TheVariants.{UnknownName, NameTaken, NoDeck, NotCapable, NotCandidate, TooLate}
use Rattle.fw_check_causes.specs.Causes.{first_unknown, name_at, name_taken, no_deck, not_candidate, not_capable}
use Rattle.std.specs.Option.{option_map}
use Rattle.fw_check_causes_laws.proofs.Somes.{Has, mapped, name_there, of_declared, of_name}

pub unknown : (s : State) (number : ℕ) (names : List (List ℕ)) → list_any (λ name. not (is_declared s name)) names ≡ true → Has (first_unknown s number names)
unknown s number [] t = t
unknown s number (name ∷ names) t = go (is_declared s name) t (unknown s (number + 1) names)
  where
    rest : Bool
    rest = list_any (λ name. not (is_declared s name)) names

    later : Option Why
    later = first_unknown s (number + 1) names

    go : (b : Bool) → (not b || rest) ≡ true → (rest ≡ true → Has later) → Has (cond b later (Some (UnknownName number name)))
    go true t h = h t
    go false t h = refl

pub taken : (s : State) (c : Command) → TakesName s c → Has (name_taken s c)
taken s (Commands.Device name kind ports speed) t = of_declared s name (λ d. Some (NameTaken (kind_at s.declared.kinds d))) t (λ d. refl)
taken s _ t = absurd t

pub deckless : (s : State) (test : ℕ → Bool) (o : Option (List ℕ)) → IsNot s test o → Has (no_deck s o)
deckless s test None h = absurd h
deckless s test (Some name) h = of_name s name h.0 (λ d. Some (NoDeck name (kind_at s.declared.kinds d))) h.1 refl

pub incapable : (s : State) (c : Command) → IsNotCapable s c → Has (not_capable s c)
incapable s (Commands.Candidate name) h = of_name s name h.0 (λ d. Some (NotCapable name (kind_at s.declared.kinds d))) h.1 refl
incapable s _ h = absurd h

pub no_candidate : (s : State) (c : Command) → IsNoCandidate s c → Has (not_candidate s c)
no_candidate s (Commands.Contend name count) h = of_name s name h.0 (λ d. Some (NotCandidate name (is_capable (kind_at s.declared.kinds d)))) h.1 refl
no_candidate s _ h = absurd h

pub late : (s : State) (c : Command) → IsTooLate s c → Has (option_map TooLate (name_at s 0))
late s Commands.Withhold h = mapped (name_at s 0) TooLate (name_there s 0 h)
late s _ h = absurd h
