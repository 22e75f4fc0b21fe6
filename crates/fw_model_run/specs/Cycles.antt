-- What holds of counts of data packets through the actions of a run, and of the packets of a cycle.
use Rattle.std.specs.Prelude.{ℕ, ◌≡◌, ◌+◌, ◌^◌, ◌≤◌, ⊤, None, is_some, List, [], ◌∷◌, Option, IsTrue, IsFalse}
use Rattle.fw_terms.specs.declared.plug.PlugAt.{PlugAt}
use Rattle.fw_log_entry.specs.declared.entry.Entry.TheVariants.{Iso}
use Rattle.fw_log_entry.specs.declared.entry.Timed.{Timed}
use Rattle.fw_model_account.specs.Account.{talks}
use Rattle.fw_tape.specs.Blocks.{blocks_among}
use Rattle.fw_order.specs.declared.limits.TheConstants.{MOST_WRITTEN_CYCLES}
use Rattle.fw_model_run.specs.Giving.{at_cycle}
use Rattle.fw_model_run.specs.State.{State}
use Rattle.fw_model_run.specs.Streams.{tape_at, stream_packet}
use Rattle.fw_model_run.specs.Actions.{Action, Pass, EndSecond}
use Rattle.fw_model_run.specs.Carrying.{SendsPackets, HasCycles}

-- the blocks that a plug's tape gives in an action: those of the cycles that go by
abbrev pub given_in : Action → State → PlugAt → ℕ
given_in (Pass n) s p = blocks_among (tape_at s p) n
given_in EndSecond s p = blocks_among (tape_at s p) 1
given_in _ s p = 0

-- The count of a plug that goes on talking rises by the blocks that its tape gives; that of a plug that begins to talk, and that of one
-- that does not talk, is 0.
pub record CountsThrough (a : Action) (s t : State) (p : PlugAt) : Type 0 where
  pub goes_on : IsTrue (talks s.account p) → IsTrue (talks t.account p) → t.streams p ≡ s.streams p + given_in a s p
  pub begins : IsFalse (talks s.account p) → IsTrue (talks t.account p) → t.streams p ≡ 0
  pub silent : IsFalse (talks t.account p) → t.streams p ≡ 0

-- the entries are one packet of each of these plugs, in their order, in the cycle that has come
abbrev pub ArePackets : State → List PlugAt → List Timed → Type 0
ArePackets s [] out = out ≡ []
ArePackets s (p ∷ plugs) out =
    (bytes : Option (List ℕ)) × (rest : List Timed) × (out ≡ at_cycle s.clock.cycle (Iso (stream_packet s p bytes)) ∷ rest) × ArePackets s plugs rest

-- ---- what is left of cycles that are written can be written

-- each of these output plugs talks
abbrev pub AllTalk : State → List PlugAt → Type 0
AllTalk s [] = ⊤
AllTalk s (p ∷ plugs) = IsTrue (talks s.account p) × AllTalk s plugs

-- these plugs can send their packets of a cycle
pub record CanSendPackets (plugs : List PlugAt) (s : State) : Type 0 where
  pub actions : List Action
  pub out : List Timed
  pub sends : SendsPackets plugs s actions out s

-- no transaction waits, and no limit is passed
pub record MayWrite (n : ℕ) (s : State) : Type 0 where
  pub none : s.transaction ≡ None
  pub cycle : s.clock.cycle + n ≤ 2 ^ 52
  pub few : IsTrue (is_some s.account.latest) → s.written + n ≤ MOST_WRITTEN_CYCLES

-- so many cycles can be written from this state on
pub record CanWriteCycles (n : ℕ) (s : State) : Type 0 where
  pub actions : List Action
  pub out : List Timed
  pub after : State
  pub cycles : HasCycles n s actions out after
