-- A half step of a candidate for the bus manager: its request is carried out and it hears the answer, or it says what it does next.
use Rattle.std.specs.Prelude.{ℕ, ◌+◌, Bool, Option, Some, None, is_some}
use Rattle.std.specs.Option.{option_map}
use Rattle.fw_async.specs.declared.packet.Head.{Head}
use Rattle.fw_async.specs.declared.packet.Packet.{Packet}
use Rattle.fw_terms.specs.declared.label.Label.TheVariants.{BusManager}
use Rattle.fw_terms.specs.Labels.{label_code}
use Rattle.fw_csr.specs.declared.offset.TheConstants.{BUS_MANAGER_ID}
use Rattle.fw_csr.specs.Manager.{after_at}
use Rattle.fw_csr.specs.declared.reply.Reply.{Reply}
use Rattle.fw_log_entry.specs.declared.entry.Entry.{Entry}
use Rattle.fw_log_entry.specs.declared.entry.Entry.TheVariants.{Async}
use Rattle.fw_model_account.specs.Words.{node_of}
use Rattle.fw_manager.specs.Bids.{CandidateState, stage_in, bid_request, bid_of, stage_after, after_hear}
use Rattle.fw_manager.specs.declared.bid.Bid.{Bid}
use Rattle.fw_manager.specs.declared.bid.Bid.TheVariants.{Send, Elected, Defeated, Done}
use Rattle.fw_manager.specs.declared.candidate.BidProgress.{BidProgress}
use Rattle.fw_manager.specs.declared.candidate.BidProgress.TheVariants.{Fresh, Asked, Heard, Answered}
use Rattle.fw_node.specs.Contents.{node_id}
use Rattle.fw_node.specs.Packets.{packet_of, reply_in}
use Rattle.fw_model_run.specs.Elections.{with_candidate}
use Rattle.fw_model_run.specs.Entries.{elected, defeated}
use Rattle.fw_model_run.specs.Spaces.{answer_packet}
use Rattle.fw_model_run.specs.State.{State, epoch_of}

-- a packet of a candidate from one node to another: retry code 01, priority 0 (own)
abbrev pub bid_head : ℕ → ℕ → Head
bid_head destination source = record { destination = node_id destination; tl = label_code BusManager; rt = 1; pri = 0; source = node_id source }

-- what is written, the candidate then, and BUS_MANAGER_ID then
pub record BidStep : Type 0 where
  pub says : Option Entry
  pub candidate : CandidateState
  pub bus_manager_id : ℕ

-- the epoch: the number of the latest bus reset
abbrev pub epoch_at : State → ℕ
epoch_at s = epoch_of s.account.latest

-- the node number of a device
abbrev pub own_node : State → ℕ → ℕ
own_node s d = node_of s.account.latest d

-- ---- no request is outstanding: what the candidate does next

-- what a candidate writes: its lock request, or that it is elected or defeated
abbrev pub bid_said : State → ℕ → Bid → Option Entry
bid_said s d (Send to q) = Some (Async (packet_of (bid_head to (own_node s d)) q))
bid_said s d Elected = Some (elected d)
bid_said s d (Defeated by) = Some (defeated d)
bid_said s d Done = None

-- the half step of a candidate with no request outstanding
abbrev pub bid_asks : State → ℕ → ℕ → BidProgress → BidStep
bid_asks s d manager stage = record {
  says = bid_said s d (bid_of (own_node s d) manager stage);
  candidate = record { epoch = epoch_at s; stage = stage_after stage };
  bus_manager_id = s.bus_manager_id;
}

-- ---- a request is outstanding: the manager carries it out

-- the word that a response shows; 0 if it shows none
abbrev pub word_of_reply : Option Reply → ℕ
word_of_reply None = 0
word_of_reply (Some r) = r.value

-- the word that a response packet shows; 0 if it shows none
abbrev pub word_shown : Option Packet → ℕ
word_shown None = 0
word_shown (Some p) = word_of_reply (reply_in p)

-- the candidate hears the word that the response shows
abbrev pub bid_answer_packet : State → ℕ → ℕ → Option Packet
bid_answer_packet s d manager = answer_packet s manager (bid_head manager (own_node s d)) (bid_request (own_node s d))

-- the half step of a candidate whose request the resource manager carries out
abbrev pub bid_hears : State → ℕ → ℕ → CandidateState → BidStep
bid_hears s d manager c = record {
  says = option_map Async (bid_answer_packet s d manager);
  candidate = after_hear (word_shown (bid_answer_packet s d manager)) c;
  bus_manager_id = after_at BUS_MANAGER_ID (bid_request (own_node s d)) s.bus_manager_id;
}

-- ---- the half step

-- the half step of a candidate, by its stage
abbrev pub bid_at : State → ℕ → ℕ → CandidateState → BidProgress → BidStep
bid_at s d manager c Fresh = bid_asks s d manager Fresh
bid_at s d manager c Asked = bid_hears s d manager c
bid_at s d manager c (Heard word) = bid_asks s d manager (Heard word)
bid_at s d manager c Answered = bid_asks s d manager Answered

-- the half step of a candidate; one whose bid is of an earlier epoch begins anew
abbrev pub bid_step : State → ℕ → ℕ → CandidateState → BidStep
bid_step s d manager c = bid_at s d manager c (stage_in (epoch_at s) c)

-- the state after it
abbrev pub bidden : State → ℕ → BidStep → State
bidden s d b = record s {
  half_steps = s.half_steps + 1;
  bus_manager_id = b.bus_manager_id;
  election = with_candidate s.election d (Some b.candidate);
}

-- ---- who is a candidate

-- the device has a candidate for the bus manager
abbrev pub is_candidate : State → ℕ → Bool
is_candidate s d = is_some (s.election.candidates d)
