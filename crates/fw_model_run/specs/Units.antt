-- The units of nodes against the decks of a run.
use Rattle.std.specs.Prelude.{ℕ, ◌≡◌, List, Bool, Option, Some, None, IsTrue, if◌then◌else◌}
use Rattle.fw_fcp.specs.declared.frame.Frame.{Frame}
use Rattle.fw_model_account.specs.Words.{node_of}
use Rattle.fw_log_entry.specs.declared.entry.Timed.{Timed}
use Rattle.fw_node.specs.Fcp.{IsSendable}
use Rattle.fw_node.specs.State.{NodeState}
use Rattle.fw_model_run.specs.Decks.{DeckState, Obeyed, FrameWrite}
use Rattle.fw_model_run.specs.Desks.{DeskRelations}
use Rattle.fw_model_run.specs.Frames.{IsFollowedBy, decks_after}
use Rattle.fw_model_run.specs.Given.{IsGiven}
use Rattle.fw_model_run.specs.Actions.{Action, Receive}
use Rattle.fw_model_run.specs.Carrying.{SendsAll}
use Rattle.fw_model_run.specs.State.{State, device_in, is_linked, has_deck}

-- a node keeps the unit of a deck, and the response that waits; one of another device has neither
pub record HasDeck (n : NodeState) (has_unit : Bool) (k : DeckState) : Type 0 where
  pub unit : n.unit ≡ (if has_unit then Some k.unit else None)
  pub waiting : n.waiting ≡ (if has_unit then k.waiting else None)

-- what a deck is to send goes from a node with a link to another
pub record IsAddressed (s : State) (d : ℕ) (told : ℕ × Frame) : Type 0 where
  pub deck : IsTrue (has_deck s d)
  pub on : IsTrue (is_linked s d)
  pub to : ℕ
  pub addressee : device_in s.account.latest told.0 ≡ Some to
  pub linked : IsTrue (is_linked s to)
  pub node : node_of s.account.latest to ≡ told.0
  pub sendable : IsSendable told.1

-- all that a device has to send can be sent
pub record CanSendAll (s : State) (d : ℕ) : Type 0 where
  pub actions : List Action
  pub out : List Timed
  pub after : State
  pub sends : SendsAll d s actions out after

-- what followed from a write at a node is what follows in the run, with what the desk allows
pub record FollowsInRun (D : DeskRelations) (s : State) (w : FrameWrite) (after : NodeState) : Type 0 where
  pub obeyed : Option Obeyed
  pub followed : IsFollowedBy s w obeyed
  pub given : IsGiven D (Receive obeyed)
  pub deck : HasDeck after (has_deck s w.to) (decks_after s w obeyed w.to)
