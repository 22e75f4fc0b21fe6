-- The relations of a desk, and the desk that allows everything.
use Rattle.std.specs.Prelude.{ℕ, ◌≡◌, List, ⊤}
use Rattle.fw_tape.specs.Desks.{BlockRelation, VendorRelation}

-- what a desk promises of the blocks of tapes, and of what a vendor makes of a byte
pub record DeskRelations : Type 1 where
  pub blocks : BlockRelation
  pub vendor : VendorRelation

-- a vendor may make anything of a byte
abbrev pub AnyVendor : VendorRelation
AnyVendor company byte made = ⊤

-- a tape may have any bytes in a block
abbrev pub AnyBlocks : BlockRelation
AnyBlocks tape frame block bytes = ⊤

-- a desk that gives one block for each place, and whose vendor makes one thing of each byte
pub record IsFunction (D : DeskRelations) : Type 0 where
  pub blocks : (tape frame block : ℕ) (x y : List ℕ) → D.blocks tape frame block x → D.blocks tape frame block y → x ≡ y
  pub bytes : (company byte x y : ℕ) → D.vendor company byte x → D.vendor company byte y → x ≡ y
