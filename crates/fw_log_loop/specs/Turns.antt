-- What a call that reads a log is seen by: its source and its sink, before and after it.
use Rattle.std.specs.Prelude.{ℕ, List, Option}

-- a source of any kind: the bytes that are left, if it tells them, how often it has failed, and what it was and is
pub record SourceTurn (S : Type 0) : Type 0 where
  pub left : S → Option (List ℕ)
  pub faults : S → ℕ
  pub old : S
  pub new : S

-- a sink of any kind: the bytes that were written, if it tells them, how often it has failed, and what it was and is
pub record SinkTurn (K : Type 0) : Type 0 where
  pub held : K → Option (List ℕ)
  pub faults : K → ℕ
  pub old : K
  pub new : K
