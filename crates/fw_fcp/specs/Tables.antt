-- Tables of commands, as the AV/C specifications print them: a row is an opcode with what may stand in the place of its operands.
use Rattle.std.specs.Prelude.{ℕ, ◌==◌, ◌&&◌, nat_le, Bool, true, false, List, [], ◌∷◌, length, Option, Some, None, if◌then◌else◌}
use Rattle.std.specs.List.{list_all, list_any}

-- what stands in the place of the operands
pub data Pattern : Type 0 where
  -- nothing more, but for zeros by which the frame is longer
  End : Pattern
  -- any bytes, as many as there are
  Rest : Pattern
  -- one of these bytes, and then more
  OneOf : List ℕ → Pattern → Pattern
  -- any byte, and then more
  Any : Pattern → Pattern

-- at most three zeros
abbrev pub is_padding : List ℕ → Bool
is_padding bytes = nat_le (length bytes) 3 && list_all (λ b. b == 0) bytes

-- operands are as a pattern says
abbrev pub fits : Pattern → List ℕ → Bool
fits End bytes = is_padding bytes
fits Rest bytes = true
fits (OneOf choices more) [] = false
fits (OneOf choices more) (b ∷ bytes) = list_any (λ c. b == c) choices && fits more bytes
fits (Any more) [] = false
fits (Any more) (b ∷ bytes) = fits more bytes

-- a row of a table: an opcode and operands, and what the row is
pub record Row (A : Type 0) : Type 0 where
  pub opcode : ℕ
  pub operands : Pattern
  pub meaning : A

-- what the first row is that an opcode and operands fit
abbrev pub row_of : {A : Type 0} → List (Row A) → ℕ → List ℕ → Option A
row_of [] opcode operands = None
row_of (r ∷ rows) opcode operands = if (opcode == r.opcode) && fits r.operands operands then Some r.meaning else row_of rows opcode operands

-- some row has the opcode
abbrev pub has_opcode : {A : Type 0} → List (Row A) → ℕ → Bool
has_opcode [] opcode = false
has_opcode (r ∷ rows) opcode = if opcode == r.opcode then true else has_opcode rows opcode
