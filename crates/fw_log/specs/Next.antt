-- The entry that comes next, before it is taken.
use Rattle.std.specs.Prelude.{◌≡◌, ℕ, List, None}
use Rattle.fw_log.specs.Passing.{BodyFirst}
use Rattle.fw_log.specs.Reader.{State, Joins}
use Rattle.fw_log.specs.declared.first_look.PlainEntry.{PlainEntry}

-- what a reader kept that has answered no fault, and the piece, begin with this entry
pub record IsNext (r : State) (piece : List ℕ) (p : PlainEntry) : Type 0 where
  pub clear : r.fault ≡ None
  pub bytes : List ℕ
  pub joins : Joins r.stand r.taken piece bytes
  pub next : BodyFirst r.stand bytes p
