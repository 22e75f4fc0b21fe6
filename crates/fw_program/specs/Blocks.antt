-- What the program's desk gives (own).
use Rattle.std.specs.Prelude.{ℕ, ◌≡◌, ◌+◌, ◌-◌, ◌*◌, ◌%◌, ◌<◌, List, length, slice_index}
use Rattle.fw_tool.specs.Serving.{DeskRelations}

-- byte j of a block
abbrev pub byte_of : ℕ → ℕ → ℕ → ℕ → ℕ
byte_of tape frame block j = (tape + 3 * frame + 5 * block + 7 * j) % 256

-- the bytes of a block of a frame of a tape
pub record IsBlock (tape frame block : ℕ) (bytes : List ℕ) : Type 0 where
  pub size : length bytes ≡ 480
  pub bytes_are : (j : ℕ) → j < 480 → slice_index bytes j ≡ byte_of tape frame block j

-- the blocks of this formula, and of a vendor each byte with all its bits inverted
abbrev pub program_desk : DeskRelations
program_desk = record { blocks = λ tape frame block bytes. IsBlock tape frame block bytes; vendor = λ company byte made. made ≡ 255 - byte }
