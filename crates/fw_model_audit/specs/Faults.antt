-- The faults of an entry, over the account of the entries before it, and the order in which they are tested.
use Rattle.fw_terms.specs.declared.plug.PlugAt.{PlugAt}
use Rattle.fw_log_entry.specs.declared.entry.ResetEntry.{ResetEntry}
use Rattle.std.specs.Prelude.{◌≡◌, ◌≢◌, ◌<◌, ℕ, Option, Some, None, List, length, unwrap_or, IsTrue, IsFalse}
use Rattle.fw_words.specs.Quadlet.{quadlet_at}
use Rattle.fw_words.specs.declared.swap.TheConstants.{COMPARE_SWAP}
use Rattle.fw_log_entry.specs.Network.{device_of_id}
use Rattle.fw_model_account.specs.Account.{Account, Locks, Request}
use Rattle.fw_model_account.specs.Decode.{IsMove}
use Rattle.fw_model_account.specs.Moves.{Move}
use Rattle.fw_model_account.specs.Packets.{is_quadlet_swap}
use Rattle.fw_model_account.specs.Refused.{IsEventRefused}
use Rattle.fw_model_account.specs.Words.{Register, register_of, word_of, id_in}
use Rattle.fw_model_audit.specs.Looked.{Response, Looked, Asks, Replies, Shows, Happens, is_watched, register_shown, IsAnswer, IsWatchedAnswer}
use Rattle.fw_model_audit.specs.declared.fault.AuditFault.{AuditFault}
use Rattle.fw_model_audit.specs.declared.fault.AuditFault.TheVariants.{NoNode, Overlap, Orphan, NotAllowed, WrongWord, NoMove, NoEvent}

-- ---- the faults

-- the requester is no node of the latest reset entry
abbrev pub HasNoNode : Account → Looked → ℕ → Type 0
HasNoNode l (Asks requester) id = (requester ≡ id) × (device_of_id l.latest id ≡ None)
HasNoNode l (Replies r) id = (r.requester ≡ id) × (device_of_id l.latest id ≡ None)
HasNoNode l _ id = ⊥

-- a request comes while one of its requester stands
abbrev pub Overlaps : Account → Looked → ℕ → Type 0
Overlaps l (Asks requester) id = (requester ≡ id) × ((c : ℕ) × (q : Request) × (device_of_id l.latest id ≡ Some c) × (l.outstanding c ≡ Some q))
Overlaps l _ id = ⊥

-- a response comes to which no request is outstanding: none of its requester, or of another node, kind or lock function
abbrev pub IsOrphan : Account → Looked → ℕ → Type 0
IsOrphan l (Replies r) id = (r.requester ≡ id) × ((q : Request) → IsAnswer l r q → ⊥)
IsOrphan l _ id = ⊥

-- A complete answer at a watched offset comes from a node that has no such register, or answers a lock that is no quadlet
-- compare_swap, or shows no quadlet.
pub data IsBadAnswer (l : Account) (r : Response) (offset : ℕ) : Type 0 where
  NoRegister : (q : Request) → IsWatchedAnswer l r q offset → register_of l.latest q.target q.address ≡ None → IsBadAnswer l r offset
  NoSwap : (q : Request) → IsWatchedAnswer l r q offset → (function : ℕ) → (bytes : List ℕ) → q.operation ≡ Locks function bytes
      → IsFalse (is_quadlet_swap function bytes) → IsBadAnswer l r offset
  NoQuadlet : (q : Request) → IsWatchedAnswer l r q offset → r.word ≡ None → IsBadAnswer l r offset

-- the node ID of the device of a shown word, FFFF if it is no node
abbrev pub shown_id : Option ResetEntry → ℕ → ℕ
shown_id latest device = unwrap_or (id_in latest device) 0xffff

-- such an answer, or a shown word of a watched register that is not there
abbrev pub IsNotAllowed : Account → Looked → ℕ → ℕ → Type 0
IsNotAllowed l (Replies r) id offset = (r.requester ≡ id) × IsBadAnswer l r offset
IsNotAllowed l (Shows s) id offset = (s.offset ≡ offset) × IsTrue (is_watched offset) × (register_shown l.latest s ≡ None) × (id ≡ shown_id l.latest s.device)
IsNotAllowed l _ id offset = ⊥

-- a complete answer at a watched offset shows another word than the account's
pub record IsWrongAnswer (l : Account) (r : Response) (found expected : ℕ) : Type 0 where
  pub request : Request
  pub offset : ℕ
  pub watched : IsWatchedAnswer l r request offset
  pub register : Register
  pub place : register_of l.latest request.target request.address ≡ Some register
  pub shown : r.word ≡ Some found
  pub due : word_of l register ≡ expected
  pub differs : found ≢ expected

-- such an answer, or a shown word of a watched register that is not the account's
abbrev pub IsWrongWord : Account → Looked → ℕ → ℕ → Type 0
IsWrongWord l (Replies r) found expected = IsWrongAnswer l r found expected
IsWrongWord l (Shows s) found expected =
    IsTrue (is_watched s.offset) × (s.word ≡ found) × ((register : Register) × (register_shown l.latest s ≡ Some register) × (word_of l register ≡ expected)) × (found ≢ expected)
IsWrongWord l _ found expected = ⊥

-- a complete compare_swap at a watched offset shows its argument as the old value, and is no move
pub record IsBadSwap (l : Account) (r : Response) (old new : ℕ) : Type 0 where
  pub request : Request
  pub offset : ℕ
  pub watched : IsWatchedAnswer l r request offset
  pub bytes : List ℕ
  pub swap : request.operation ≡ Locks COMPARE_SWAP bytes
  pub quadlets : length bytes ≡ 8
  pub argument : quadlet_at bytes 0 ≡ old
  pub value : quadlet_at bytes 4 ≡ new
  pub shown : r.word ≡ Some old
  pub register : Register
  pub place : register_of l.latest request.target request.address ≡ Some register
  pub none : (p : PlugAt) (m : Move) → IsMove watched.answer.controller p m register old new l → ⊥

-- such a compare_swap is answered
abbrev pub IsNoMove : Account → Looked → ℕ → ℕ → Type 0
IsNoMove l (Replies r) old new = IsBadSwap l r old new
IsNoMove l _ old new = ⊥

-- a second is over if none runs, or channel 31 is withheld after a reset entry
abbrev pub IsNoEvent : Account → Looked → ℕ → Type 0
IsNoEvent l (Happens e) code = (e.code ≡ code) × IsEventRefused e l
IsNoEvent l _ code = ⊥

-- The entry has this fault.
abbrev pub HasFault : Account → Looked → AuditFault → Type 0
HasFault l x (NoNode id) = HasNoNode l x id
HasFault l x (Overlap id) = Overlaps l x id
HasFault l x (Orphan id) = IsOrphan l x id
HasFault l x (NotAllowed id offset) = IsNotAllowed l x id offset
HasFault l x (WrongWord found expected) = IsWrongWord l x found expected
HasFault l x (NoMove old new) = IsNoMove l x old new
HasFault l x (NoEvent code) = IsNoEvent l x code

-- ---- the first

-- the order in which they are tested
abbrev pub rank : AuditFault → ℕ
rank (NoNode id) = 1
rank (Overlap id) = 2
rank (Orphan id) = 3
rank (NotAllowed id offset) = 4
rank (WrongWord found expected) = 5
rank (NoMove old new) = 6
rank (NoEvent code) = 7

-- the entry has no fault
abbrev pub HasNoFault : Account → Looked → Type 0
HasNoFault l x = (f : AuditFault) → HasFault l x f → ⊥

-- the first fault that it has, or that it has none
abbrev pub IsVerdict : Account → Looked → Option AuditFault → Type 0
IsVerdict l x None = HasNoFault l x
IsVerdict l x (Some f) = HasFault l x f × ((g : AuditFault) → rank g < rank f → HasFault l x g → ⊥)
