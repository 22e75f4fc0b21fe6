-- What a sink that keeps bytes back has been given.
use Rattle.std.specs.Prelude.{ℕ, List, Option, take, ◌++◌}
use Rattle.std.specs.Option.{option_map}

-- what its writer has, and after that the bytes that are kept back, the first so many of its room
abbrev pub gathered : Option (List ℕ) → List ℕ → ℕ → Option (List ℕ)
gathered contents room count = option_map (λ c. c ++ take count room) contents
