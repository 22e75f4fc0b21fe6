-- The packets of a controller's requests and of the responses to them, and what the account has of them.
use Rattle.std.specs.Prelude.{ℕ, ◌+◌, ◌≡◌, ◌<◌, Bool, true, false, Option, Some, None, List, IsTrue, IsFalse, ⊤}
use Rattle.std.specs.Int.{to_be_bytes, w32}
use Rattle.fw_async.specs.declared.packet.Head.{Head}
use Rattle.fw_async.specs.declared.packet.Packet.{Packet}
use Rattle.fw_async.specs.declared.packet.Packet.TheVariants.{ReadQuadletReply, LockReply}
use Rattle.fw_async.specs.Quadlets.{request_with}
use Rattle.fw_terms.specs.declared.label.Label.TheVariants.{Procedure}
use Rattle.fw_terms.specs.Labels.{label_code}
use Rattle.fw_csr.specs.declared.reply.Reply.{Reply}
use Rattle.fw_words.specs.declared.swap.Swap.{Swap}
use Rattle.fw_log_entry.specs.declared.entry.ResetEntry.{ResetEntry}
use Rattle.fw_log_entry.specs.declared.nodes.NodeRow.{NodeRow}
use Rattle.fw_model_account.specs.Account.{Account, Operation, Reads, Locks, Request}
use Rattle.fw_model_account.specs.Sound.{IsSound}
use Rattle.fw_model_account.specs.Words.{register_of}
use Rattle.fw_model_controllers.specs.Registers.{register_at, stands, IsAnswer}
use Rattle.fw_log_entry.specs.Network.{first_id, row_of_node}
use Rattle.fw_cmp.specs.declared.current.Current.{Current}
use Rattle.fw_cmp.specs.declared.current.Current.TheVariants.{Nothing, Asking, Hearing, Overtaken}
use Rattle.fw_cmp_jobs.specs.declared.directory.Directory.{Directory}
use Rattle.fw_cmp_jobs.specs.declared.request.Access.{Access}
use Rattle.fw_cmp_jobs.specs.declared.request.Target.{Target}
use Rattle.fw_cmp_jobs.specs.declared.request.Target.TheVariants.{OutputPlug, InputPlug, Channels, BandwidthAvailable}
use Rattle.fw_cmp.specs.declared.outcome.Next.{Next}
use Rattle.fw_cmp.specs.declared.outcome.Next.TheVariants.{Send}
use Rattle.fw_csr.specs.declared.request.Request.{Request as CsrRequest}
use Rattle.fw_cmp_jobs.specs.Requests.{offset_of, access_of, addressee_of, request_of}
use Rattle.fw_words.specs.Swaps.{swap_bytes}
use Rattle.fw_words.specs.declared.swap.TheConstants.{COMPARE_SWAP}

-- ---- nodes

-- node n of the latest reset entry is this device
abbrev pub IsDevice : Option ResetEntry → ℕ → ℕ → Type 0
IsDevice latest d n = (row : NodeRow) × (row_of_node latest n ≡ Some row) × (row.device ≡ d)

-- node n of the latest reset entry is the isochronous resource manager
abbrev pub IsManager : Option ResetEntry → ℕ → Type 0
IsManager None n = ⊥
IsManager (Some r) n = r.manager ≡ Some n

-- node n has the register, if any node has it
abbrev pub IsNodeOf : Option ResetEntry → Target → ℕ → Type 0
IsNodeOf latest (OutputPlug p) n = IsDevice latest p.device n
IsNodeOf latest (InputPlug p) n = IsDevice latest p.device n
IsNodeOf latest (Channels base) n = IsManager latest n
IsNodeOf latest BandwidthAvailable n = IsManager latest n

-- each device is one node at most
abbrev pub EachOnce : Option ResetEntry → Type 0
EachOnce latest = (m n : ℕ) (a b : NodeRow) → row_of_node latest m ≡ Some a → row_of_node latest n ≡ Some b → a.device ≡ b.device → m ≡ n

-- what number each device has in a reset entry: each row is the node of its device, and each numbered device has its row
pub record IsNumbering (r : ResetEntry) (number : ℕ → Option ℕ) : Type 0 where
  pub rows : (n : ℕ) (row : NodeRow) → row_of_node (Some r) n ≡ Some row → number row.device ≡ Some n
  pub devices : (d n : ℕ) → number d ≡ Some n → IsDevice (Some r) d n

-- a plug has a number below 31
abbrev pub PlugNumberFits : Target → Type 0
PlugNumberFits (OutputPlug p) = p.plug < 31
PlugNumberFits (InputPlug p) = p.plug < 31
PlugNumberFits (Channels base) = ⊤
PlugNumberFits BandwidthAvailable = ⊤

-- ---- packets

-- a packet of a procedure, from one node to another: retry code 01, priority 0 (own)
abbrev pub procedure_head : ℕ → ℕ → Head
procedure_head destination source = record { destination = first_id + destination; tl = label_code Procedure; rt = 1; pri = 0; source = first_id + source }

-- a quadlet read, or a quadlet compare_swap
abbrev pub request_packet : Head → Access → Packet
request_packet h a = request_with h (offset_of a.target) a.swap

-- a response carries the reply; a lock that is not complete may carry anything
abbrev pub IsResponse : Head → Option Swap → Reply → Packet → Type 0
IsResponse h None r p = p ≡ ReadQuadletReply h r.rcode r.value
IsResponse h (Some s) r p = (old : List ℕ) × (p ≡ LockReply h r.rcode COMPARE_SWAP old) × (r.rcode ≡ 0 → old ≡ to_be_bytes w32 r.value)

-- ---- in the account

-- the operation of a request: a quadlet read, or a compare_swap with its bytes
abbrev pub operation_of : Option Swap → Operation
operation_of None = Reads
operation_of (Some s) = Locks COMPARE_SWAP (swap_bytes s)

-- the request to node n
abbrev pub request_to : ℕ → Access → Request
request_to n a = record { target = first_id + n; address = offset_of a.target; operation = operation_of a.swap }

-- the request to a node, if there is one that it goes to
abbrev pub requested_of : Option ℕ → Access → Option Request
requested_of None a = None
requested_of (Some n) a = Some (request_to n a)

-- the request of an access, to the node that the directory names
abbrev pub requested : Directory → Option Access → Option Request
requested dir None = None
requested dir (Some a) = requested_of (addressee_of dir a.target) a

-- the request for whose answer a controller waits
abbrev pub outstanding_of : Directory → Current → Option Request
outstanding_of dir Nothing = None
outstanding_of dir (Asking j s) = None
outstanding_of dir (Hearing j s) = requested dir (access_of j s)
outstanding_of dir (Overtaken i o) = None

-- ---- what a controller says

-- a request goes out in the turn
abbrev pub is_sent : Next → Bool
is_sent (Send to q) = true
is_sent _ = false

-- What a turn says is what the controller then waits for: the answer to the request that goes out, or nothing.
pub record Tells (dir : Directory) (says : Next) (after : Current) : Type 0 where
  pub sent : (to : ℕ) (q : CsrRequest) → says ≡ Send to q → (a : Access) × (q ≡ request_of a) × (outstanding_of dir after ≡ Some (request_to to a))
  pub unsent : IsFalse (is_sent says) → outstanding_of dir after ≡ None

-- the controller of node n, with this row, waits for the answer of node to
pub record Awaits (l : Account) (n to : ℕ) (row : NodeRow) (t : Target) (swap : Option Swap) (r : Reply) : Type 0 where
  pub sound : IsSound l
  pub row_is : row_of_node l.latest n ≡ Some row
  pub outstanding : l.outstanding row.device ≡ Some (request_to to (record { target = t; swap = swap }))
  pub answer : IsAnswer l t r
  pub place : IsTrue (stands l.latest t) → register_of l.latest (first_id + to) (offset_of t) ≡ Some (register_at t)
