-- What the line of an entry is, and what it tells: the laws that functions of this crate promise.
use Rattle.std.specs.Prelude.{◌≡◌, ◌≢◌, ℕ, ◌<◌, ◌≤◌, List, [], ◌∷◌, ◌++◌, slice_index, length}
use Rattle.fw_log_entry.specs.Log.{TimedFits}
use Rattle.fw_log_entry.specs.declared.entry.Timed.{Timed}
use Rattle.fw_log_json.specs.Objects.{object}

-- two entries in the grammar with one object are one entry
abbrev pub ObjectsTellEntries : Type 0
ObjectsTellEntries = (t u : Timed) → TimedFits t → TimedFits u → object t ≡ object u → t ≡ u

-- printable ASCII, from the blank to the tilde, but for the backslash with which JSON escapes (RFC 8259, section 7)
pub record IsPlain (b : ℕ) : Type 0 where
  pub low : 32 ≤ b
  pub high : b < 127
  pub unescaped : b ≢ 92

-- one line: plain bytes, and a line feed after them
pub record IsLine (bytes : List ℕ) : Type 0 where
  pub text : List ℕ
  pub plain : (i : ℕ) → i < length text → IsPlain (slice_index text i)
  pub same : bytes ≡ text ++ 10 ∷ []

-- the object of each entry in the grammar is one line
abbrev pub ObjectsAreLines : Type 0
ObjectsAreLines = (t : Timed) → TimedFits t → IsLine (object t)
