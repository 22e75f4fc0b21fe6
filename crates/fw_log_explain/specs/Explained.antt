-- The lines of a log's entries in words: each line is a function of its entry and of the outstanding requests before it.
use Rattle.std.specs.Prelude.{ℕ, List, [], ◌∷◌, ◌++◌}
use Rattle.fw_log_entry.specs.declared.entry.Timed.{Timed}
use Rattle.fw_log_requests.specs.declared.asked.Asked.{Asked}
use Rattle.fw_log_requests.specs.Requests.{standing}
use Rattle.fw_log_explain.specs.Lines.{line}

-- the lines of entries after others
abbrev pub explained : List Timed → List Timed → List ℕ
explained before [] = []
explained before (t ∷ rest) = line (standing before) t ++ explained (before ++ t ∷ []) rest

-- what a room for lines holds: the lines that were appended, and the outstanding requests after all entries that were taken
pub record ExplainerState : Type 0 where
  pub text : List ℕ
  pub requests : List Asked
