-- What a desk may be asked, and the two relations that it promises.
use Rattle.std.specs.Prelude.{ℕ, ◌<◌, List}

-- a relation between tape, frame, block and the 480 bytes of the block
abbrev pub BlockRelation : Type 1
BlockRelation = ℕ → ℕ → ℕ → List ℕ → Type 0

-- a relation between a company, a byte and what the vendor makes of it
abbrev pub VendorRelation : Type 1
VendorRelation = ℕ → ℕ → ℕ → Type 0

-- every block may be asked for
abbrev pub AnyBlock : (ℕ → ℕ → ℕ → Type 0) → Type 0
AnyBlock may = (tape frame block : ℕ) → tape < 65536 → frame < 2592000 → block < 300 → may tape frame block

-- every vendor byte may be asked for
abbrev pub AnyVendorByte : (ℕ → ℕ → Type 0) → Type 0
AnyVendorByte may = (company byte : ℕ) → company < 16777216 → byte < 256 → may company byte

-- the relation that allows nothing
abbrev pub NoVendor : VendorRelation
NoVendor company byte made = ⊥
