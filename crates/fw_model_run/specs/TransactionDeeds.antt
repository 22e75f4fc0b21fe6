-- Deeds of the script at registers: transactions, shown words, and frames between nodes (IEC 61883-1, 9).
use Rattle.std.specs.Prelude.{ℕ, ◌≡◌, ◌^◌, ◌<◌, List, Option, Some, None, IsTrue}
use Rattle.fw_terms.specs.Tables.{update}
use Rattle.fw_log_entry.specs.declared.entry.Entry.TheVariants.{Async}
use Rattle.fw_order.specs.declared.order.Transaction.{Transaction}
use Rattle.fw_node.specs.Packets.{packet_of, RequestFits}
use Rattle.fw_model_account.specs.Words.{node_of}
use Rattle.fw_model_run.specs.Actions.{AccessFits, IsSpared}
use Rattle.fw_model_run.specs.Decks.{Obeyed, FrameWrite, after_frame}
use Rattle.fw_model_run.specs.Entries.{shown_entry}
use Rattle.fw_model_run.specs.Frames.{request_of, command_write, response_write, frame_head, frame_packet, next_told, IsFollowedBy, decks_after}
use Rattle.fw_model_run.specs.Spaces.{answer_packet, transaction_head, target_node, access_request, read_at, bus_manager_id_after}
use Rattle.fw_model_run.specs.State.{State, device_in, is_linked, is_living}
use Rattle.fw_model_run.specs.Deed.{Deed, saying}
use Rattle.fw_model_run.specs.Found.{FoundAnswer, FoundFrame, FoundWrite}

-- ---- transactions of the script

-- from a device with a living controller to one on the bus with a link; from the first candidate on BUS_MANAGER_ID is not swapped
pub record MayAsk (s : State) (x : Transaction) : Type 0 where
  pub lives : IsTrue (is_living s x.from)
  pub linked : IsTrue (is_linked s x.to)
  pub fits : AccessFits x.access
  pub spared : IsSpared s.election x.access

-- the request is written, and waits for its answer
abbrev pub asking : State → Transaction → Deed
asking s x = saying s (MayAsk s x) (Async (packet_of (transaction_head s x) (access_request x.access))) (record s { transaction = Some x })

-- the packet by which the node that was asked answers
abbrev pub IsAnswered : State → FoundAnswer → Type 0
IsAnswered s found =
    answer_packet s (target_node s found.transaction) (transaction_head s found.transaction) (access_request found.transaction.access) ≡ Some found.response

-- the node that the script asked carries the request out, and the response is written
abbrev pub answering : State → FoundAnswer → Deed
answering s found =
    saying s (IsAnswered s found) (Async found.response) (record s { transaction = None; bus_manager_id = bus_manager_id_after s found.transaction })

-- ---- shown words

-- an offset at a device on the bus with a link, if a quadlet read is complete
pub record MayShow (s : State) (d offset : ℕ) : Type 0 where
  pub linked : IsTrue (is_linked s d)
  pub fits : offset < 2 ^ 12
  pub complete : (read_at s d offset).rcode ≡ 0

-- the word that stands there is shown
abbrev pub showing : State → ℕ → ℕ → Deed
showing s d offset = saying s (MayShow s d offset) (shown_entry d offset (read_at s d offset).value) s

-- ---- frames

-- a frame is written, and waits for the answer to its write
abbrev pub with_frame : State → FrameWrite → State
with_frame s w = record s { frame = Some w }

-- from a device with a living controller to one on the bus with a link
pub record MayCommand (s : State) (from to : ℕ) (bytes : List ℕ) : Type 0 where
  pub lives : IsTrue (is_living s from)
  pub linked : IsTrue (is_linked s to)
  pub fits : RequestFits (request_of (command_write from to bytes))

-- bytes are written to FCP_COMMAND
abbrev pub commanding : State → ℕ → ℕ → List ℕ → Deed
commanding s from to bytes =
    saying s (MayCommand s from to bytes) (Async (frame_packet s (command_write from to bytes))) (with_frame s (command_write from to bytes))

-- the deck's next frame, from a device on the bus with a link to another
pub record MaySendFrame (s : State) (d : ℕ) (found : FoundFrame) : Type 0 where
  pub next : next_told s d ≡ Some (found.node, found.frame)
  pub on : IsTrue (is_linked s d)
  pub addressee : device_in s.account.latest found.node ≡ Some found.to
  pub linked : IsTrue (is_linked s found.to)

-- a deck writes its next frame to FCP_RESPONSE
abbrev pub sending_frame : State → ℕ → FoundFrame → Deed
sending_frame s d found =
    saying s (MaySendFrame s d found) (Async (frame_packet s (response_write d found.to found.frame)))
    (record s { decks = update s.decks d (after_frame (s.decks d)); frame = Some (response_write d found.to found.frame) })

-- the frame that waits, between two devices on the bus with links, what follows from it, and the answer to its write
pub record MayReceive (s : State) (obeyed : Option Obeyed) (found : FoundWrite) : Type 0 where
  pub waits : s.frame ≡ Some found.write
  pub from : IsTrue (is_linked s found.write.from)
  pub to : IsTrue (is_linked s found.write.to)
  pub followed : IsFollowedBy s found.write obeyed
  pub answered : answer_packet s (node_of s.account.latest found.write.to) (frame_head s found.write) (request_of found.write) ≡ Some found.response

-- the node that a frame was written to answers the write, and its unit carries out what is a command to it
abbrev pub receiving : State → Option Obeyed → FoundWrite → Deed
receiving s obeyed found =
    saying s (MayReceive s obeyed found) (Async found.response) (record s { decks = decks_after s found.write obeyed; frame = None })
