-- What a line tells of a move.
use Rattle.std.specs.Prelude.{◌≡◌, ℕ, List}
use Rattle.fw_terms.specs.declared.plug.PlugAt.{PlugAt}
use Rattle.fw_model_account.specs.Account.{Account}
use Rattle.fw_model_account.specs.Decode.{IsMove}
use Rattle.fw_model_account.specs.Moves.{Move, after}
use Rattle.fw_model_account.specs.Packets.{ended}
use Rattle.fw_model_account.specs.Words.{Register}
use Rattle.fw_holders_text.specs.Deeds.{done_text}
use Rattle.fw_holders.specs.Moves.{deed_of}
use Rattle.fw_holders_text.specs.Names.{nodes_of}

-- a move was made, which makes the one account of the other, and this text is that of its controller and of it
pub record IsMoveTold (l k : Account) (what : List ℕ) : Type 0 where
  pub controller : ℕ
  pub plug : PlugAt
  pub move : Move
  pub register : Register
  pub argument : ℕ
  pub new : ℕ
  pub is : IsMove controller plug move register argument new l
  pub made : ended controller (after controller plug move l) ≡ k
  pub text : done_text (nodes_of l.latest) l.reclaiming controller (deed_of l plug move) ≡ what
