-- Bytes separated by a separator.
use Rattle.std.specs.Prelude.{◌≡◌, ◌≢◌, ℕ, ◌<◌, ◌==◌, List, [], ◌∷◌, ◌++◌, length, slice_index, if◌then◌else◌}
use Rattle.fw_script_command.specs.declared.cut.Separator.{Separator}
use Rattle.fw_script_command.specs.declared.cut.Separator.TheVariants.{Space, FullStop}

-- the byte of a separator
abbrev pub byte_of : Separator → ℕ
byte_of Space = 32
byte_of FullStop = 46

-- no byte of the word is the separator
abbrev pub IsFree : ℕ → List ℕ → Type 0
IsFree separator w = (k : ℕ) → k < length w → slice_index w k ≢ separator

-- the first separator stands at i
pub record IsFirstAt (separator : ℕ) (w : List ℕ) (i : ℕ) : Type 0 where
  pub within : i < length w
  pub here : slice_index w i ≡ separator
  pub before : (k : ℕ) → k < i → slice_index w k ≢ separator

-- a byte before the first piece
abbrev pub onto : ℕ → List (List ℕ) → List (List ℕ)
onto b [] = (b ∷ []) ∷ []
onto b (w ∷ ws) = (b ∷ w) ∷ ws

-- the pieces between the separators, one more than there are separators
abbrev pub pieces : ℕ → List ℕ → List (List ℕ)
pieces separator [] = [] ∷ []
pieces separator (b ∷ bs) = if b == separator then [] ∷ pieces separator bs else onto b (pieces separator bs)

-- the pieces with one separator between each and the next
abbrev pub separated : ℕ → List (List ℕ) → List ℕ
separated separator [] = []
separated separator (w ∷ []) = w
separated separator (w ∷ v ∷ ws) = w ++ separator ∷ separated separator (v ∷ ws)

-- no piece has a separator
abbrev pub AreFree : ℕ → List (List ℕ) → Type 0
AreFree separator [] = Unit {0}
AreFree separator (w ∷ ws) = IsFree separator w × AreFree separator ws
