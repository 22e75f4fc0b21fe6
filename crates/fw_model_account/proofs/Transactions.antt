-- The account after each packet of a controller's procedure: node n asks node t for the register at an offset.
use Rattle.fw_model_account.proofs.Common.{Head, LockReply, NodeRow, Async, ◌≡◌, ◌≢◌, ℕ, ◌+◌, Some, List, refl, Account, Locks, ended, next_account}
use Rattle.fw_model_account.specs.Account.{Request}
use Rattle.fw_log_entry.specs.Network.{first_id, row_of_node}
use Rattle.fw_model_account.specs.Words.{first_address}
use Rattle.fw_model_account.proofs.Places.{device_at_id}
use Rattle.fw_model_account.proofs.Accesses.{swap_bytes, after_refused_lock}

-- the head of a packet of a procedure from one node to another
abbrev pub head_to : ℕ → ℕ → Head
head_to destination source = record { destination = first_id + destination; tl = 0; rt = 1; pri = 0; source = first_id + source }

abbrev pub swap_of : ℕ → ℕ → ℕ → ℕ → Request
swap_of t offset arg new = record { target = first_id + t; address = first_address + offset; operation = Locks 2 (swap_bytes arg new) }

pub swap_refused : (l : Account) (t n offset arg new rcode : ℕ) (old : List ℕ) (row : NodeRow) → row_of_node l.latest n ≡ Some row → l.outstanding row.device ≡ Some (swap_of t offset arg new)
    → rcode ≢ 0 → next_account l (Async (LockReply (head_to n t) rcode 2 old)) ≡ Some (ended row.device l)
swap_refused l t n offset arg new rcode old row at one ne = after_refused_lock l (head_to n t) rcode 2 (swap_bytes arg new) old row.device (first_address + offset) refl
    (device_at_id l.latest n row at) one ne
