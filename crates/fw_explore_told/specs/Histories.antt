-- What is told of, in the order in which it was written, and the lines that were carried out.
use Rattle.std.specs.Prelude.{List, [], ◌∷◌, ◌++◌, Bool, false, Option, Some, None, replicate}
use Rattle.std.specs.List.{flat_map}
use Rattle.fw_log_entry.specs.declared.entry.Entry.{Entry}
use Rattle.fw_log_entry.specs.declared.entry.Entry.TheVariants.{Event, Outcome, Shown}
use Rattle.fw_log_entry.specs.declared.entry.Timed.{Timed}
use Rattle.fw_explore_told.specs.declared.past.ToldEntry.{ToldEntry}
use Rattle.fw_explore_told.specs.declared.past.ToldEntry.TheVariants as Tolds

-- the lines that were carried out, by the places of their movers, and what is told of
pub record History : Type 0 where
  pub done : List Bool
  pub said : List ToldEntry

-- what is told of an entry
abbrev pub told_in : Entry → List ToldEntry
told_in (Event e) = Tolds.Event e ∷ []
told_in (Outcome o) = Tolds.Outcome o ∷ []
told_in (Shown s) = Tolds.Shown s ∷ []
told_in _ = []

-- the first of a list, which has one at most
abbrev pub first_of : List ToldEntry → Option ToldEntry
first_of [] = None
first_of (t ∷ rest) = Some t

abbrev pub told_entries : List Timed → List ToldEntry
told_entries out = flat_map (λ t. told_in t.what) out

-- with one more, if there is one
abbrev pub with_one : List ToldEntry → Option ToldEntry → List ToldEntry
with_one said None = said
with_one said (Some t) = said ++ t ∷ []

-- no line was carried out yet, and nothing is told of
abbrev pub first_history : History
first_history = record { done = replicate 32 false; said = [] }
