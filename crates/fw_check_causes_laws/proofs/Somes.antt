-- When something stands: of names, of options, of what is numbered.
use Rattle.std.proofs.Common.{◌≡◌, ℕ, zero, suc, ◌<◌, true, List, [], ◌∷◌, length, slice_get, Option, Some, None, is_some, refl, ap, ◌∙◌, arith}
use Rattle.std.specs.Prelude.{option_and_then}
use Rattle.std.specs.Option.{option_map}
use Rattle.fw_devices.specs.Network.{device_named}
use Rattle.fw_model_run.specs.Named.{IsNamed, is_declared}
use Rattle.fw_model_run.specs.State.{State}
use Rattle.fw_check_causes.specs.Causes.{name_at, of_named, or_else}
use Rattle.fw_check.specs.declared.why.Why.{Why}

abbrev pub Has : {A : Type 0} → Option A → Type 0
Has o = is_some o ≡ true

-- of a named device
pub of_name : {A : Type 0} (s : State) (name : List ℕ) (d : ℕ) (f : ℕ → Option A) → IsNamed s name d → Has (f d) → Has (of_named s name f)
of_name s name d f e h = ap (λ (o : Option ℕ). is_some (option_and_then f o)) e ∙ h

pub of_declared : {A : Type 0} (s : State) (name : List ℕ) (f : ℕ → Option A) → is_declared s name ≡ true → ((d : ℕ) → Has (f d)) → Has (of_named s name f)
of_declared s name f t h = go (device_named s.declared.names name) t
  where
    go : (o : Option ℕ) → is_some o ≡ true → Has (option_and_then f o)
    go None t = t
    go (Some d) t = h d

pub mapped : {A B : Type 0} (o : Option A) (f : A → B) → Has o → Has (option_map f o)
mapped None f h = h
mapped (Some x) f h = refl

-- the first of two, or the second
pub first_has : (o p : Option Why) → Has o → Has (or_else o p)
first_has None p h = let z : ⊥ = cc in absurd z
first_has (Some why) p h = refl

pub second_has : (o p : Option Why) → Has p → Has (or_else o p)
second_has None p h = h
second_has (Some why) p h = refl

-- the names
there : (names : List (List ℕ)) (d : ℕ) → d < length names → Has (slice_get names d)
there [] d lt = absurd (omega arith)
there (x ∷ xs) zero lt = refl
there (x ∷ xs) (suc d) lt = there xs d (omega arith)

pub name_there : (s : State) (d : ℕ) → d < length s.declared.names → Has (name_at s d)
name_there s d lt = there s.declared.names d lt

-- if a device has a name, a first device is declared
pub first_name : (s : State) (name : List ℕ) (d : ℕ) → IsNamed s name d → Has (name_at s 0)
first_name s name d e = go s.declared.names e
  where
    go : (names : List (List ℕ)) → device_named names name ≡ Some d → Has (slice_get names 0)
    go [] e = let z : ⊥ = cc in absurd z
    go (x ∷ xs) e = refl
