-- The request that is held back, since the response that answers it may come next.
use Rattle.std.specs.Prelude.{ℕ, Bool, false, List, [], ◌∷◌, ◌++◌, codes, Option, Some, None}
use Rattle.fw_async.specs.declared.packet.Head.{Head}
use Rattle.fw_async.specs.declared.packet.Packet.{Packet}
use Rattle.fw_log_requests.specs.declared.asked.Answer.{Answer}
use Rattle.fw_log_requests.specs.declared.asked.Asked.{Asked}
use Rattle.fw_log_requests.specs.Requests.{answers}
use Rattle.fw_trace_requests.specs.declared.carried.Carried.{Carried}
use Rattle.fw_trace_requests.specs.declared.packets.Reply.{Reply}
use Rattle.fw_trace_requests.specs.declared.held.Bare.{Bare}
use Rattle.fw_trace_names.specs.Names.{Naming, id_text}
use Rattle.fw_trace_names.specs.CausedLines.{Caused, at_cycle}
use Rattle.fw_trace_requests.specs.Answers.{asked_text, carried_text, changes_asked, if_made}
use Rattle.fw_trace_requests.specs.Carried.{frame_told}
use Rattle.fw_trace_requests.specs.Replies.{reply_text}

-- a request that is held back, with the texts that its line is made of: what stands before the arrow and after it, and what it would change
pub record DeferredRequest : Type 0 where
  pub asked : Asked
  pub prefix : List ℕ
  pub told : List ℕ
  pub changes : List ℕ

-- a request that is held back
abbrev pub held_of : Naming → ℕ → Packet → Asked → DeferredRequest
held_of n cycle p q = record {
  asked = q;
  prefix = at_cycle cycle ++ id_text n q.source;
  told = id_text n q.destination ++ codes " " ++ asked_text q ++ carried_text p;
  changes = changes_asked n q;
}

-- a request that is held back, and carries this
abbrev pub held_bare : Naming → ℕ → Asked → Carried → DeferredRequest
held_bare n cycle q carried = record {
  asked = q;
  prefix = at_cycle cycle ++ id_text n q.source;
  told = id_text n q.destination ++ codes " " ++ asked_text q ++ frame_told carried;
  changes = changes_asked n q;
}

-- the line of a request that is answered later, or not at all
unfoldable pub lone_lines : Option DeferredRequest → List Caused
lone_lines None = []
lone_lines (Some h) = record { entries = 1; text = h.prefix ++ codes " -> " ++ h.told ++ if_made h.changes } ∷ []

-- a response of this kind answers the request that is held back
unfoldable pub is_joined : Option Answer → Head → Option DeferredRequest → Bool
is_joined (Some kind) h (Some held) = answers kind h held.asked
is_joined kind h held = false

-- the line of a request that is held back, and of its answer
unfoldable pub joined_with : Naming → Reply → Option DeferredRequest → List Caused
joined_with n r None = []
joined_with n r (Some h) = record { entries = 2; text = h.prefix ++ codes " <-> " ++ h.told ++ reply_text n h.asked r } ∷ []

-- the request that is held back by these names: one whose line is not made, or else the one whose line is made, if there is one
abbrev pub held_by_names : Naming → Option Bare → Option DeferredRequest → Option DeferredRequest
held_by_names n None made = made
held_by_names n (Some b) made = Some (held_bare n b.cycle b.asked b.carried)
