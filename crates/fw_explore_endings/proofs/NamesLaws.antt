-- Names among those that may be there.
use Rattle.std.proofs.Common.{ℕ, ◌≡◌, ◌+◌, ◌<◌, ◌||◌, List, [], ◌∷◌, Bool, Option, Some, None, length, get_or, drop, refl, sym, ap, ◌∙◌}
use Rattle.std.proofs.lemmas.List.{at_drop_more}
use Rattle.std.specs.List.{filter_map, list_any}
use Rattle.std.specs.Str.{bytes_eq}
use Rattle.fw_explore_movers.specs.declared.mover.Mover.{Mover}
use Rattle.fw_model_run.specs.Named.{names_of}
use Rattle.fw_explore_endings.specs.Texts.{is_name, names_device}

pub any_name : (name : List ℕ) (os : List (Option (List ℕ))) → list_any (is_name name) os ≡ list_any (bytes_eq name) (filter_map (λ (o : Option (List ℕ)). o) os)
any_name name [] = refl
any_name name (None ∷ os) = any_name name os
any_name name (Some other ∷ os) = ap (λ (b : Bool). bytes_eq name other || b) (any_name name os)

-- the movers from a place on, and those after it
pub names_more : (movers : List Mover) (name : List ℕ) (i : ℕ) (m : Mover) (b : Bool) → i < length movers → m ≡ get_or movers i m → list_any (bytes_eq name) (names_of m.command) ≡ b
    → names_device (drop i movers) name ≡ (b || names_device (drop (i + 1) movers) name)
names_more movers name i m b within is test =
    at_drop_more (λ (ms : List Mover). names_device ms name) movers i m within
    ∙ ap (λ (k : Mover). list_any (bytes_eq name) (names_of k.command) || names_device (drop (i + 1) movers) name) (sym is)
    ∙ ap (λ (t : Bool). t || names_device (drop (i + 1) movers) name) test
