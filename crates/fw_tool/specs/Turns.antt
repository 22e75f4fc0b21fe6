-- What a call is seen by: its source, its sink and its notes, before and after it.
use Rattle.std.specs.Prelude.{ℕ, List, Option, Bool, IsTrue}
use Rattle.fw_outside.specs.Outside.{Rose}
pub use Rattle.fw_log_loop.specs.Turns.{SourceTurn}

-- a sink of any kind: the bytes that were written, if it tells them, those that it keeps back, whether it passes each piece on at once,
-- how often it has failed, and what it was and is
pub record SinkTurn (K : Type 0) : Type 0 where
  pub held : K → Option (List ℕ)
  pub kept : K → List ℕ
  pub at_once : K → Bool
  pub faults : K → ℕ
  pub old : K
  pub new : K

-- the sink of the notes: likewise
pub record NotesTurn (N : Type 0) : Type 0 where
  pub held : N → Option (List ℕ)
  pub faults : N → ℕ
  pub old : N
  pub new : N

-- a sink of a kind that passes each piece on at once, so that the last flush changes nothing and never fails
abbrev pub PassesAtOnce : {K : Type 0} → SinkTurn K → Type 0
PassesAtOnce {K} sink = (k : K) → IsTrue (sink.at_once k)

-- no read failed in the call
abbrev pub NoReadFailed : {S : Type 0} → SourceTurn S → Type 0
NoReadFailed source = Rose (source.faults source.old) (source.faults source.new) → ⊥

-- no write failed in the call
abbrev pub NoWriteFailed : {K : Type 0} → SinkTurn K → Type 0
NoWriteFailed sink = Rose (sink.faults sink.old) (sink.faults sink.new) → ⊥

-- no write of a note failed in the call
abbrev pub NoNoteFailed : {N : Type 0} → NotesTurn N → Type 0
NoNoteFailed notes = Rose (notes.faults notes.old) (notes.faults notes.new) → ⊥
