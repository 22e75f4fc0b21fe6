-- What is counted of a log (own).
use Rattle.std.specs.Prelude.{ℕ, ◌==◌, ◌||◌, not, List, [], ◌∷◌, Bool, true, false, flat_map, count_by}
use Rattle.fw_log_entry.specs.declared.codes.outcome.TheConstants.{CONNECTED, RESTORED}
use Rattle.fw_log_entry.specs.declared.entry.Entry.{Entry}
use Rattle.fw_log_entry.specs.declared.entry.Entry.TheVariants.{Reset, Outcome, Shown}
use Rattle.fw_log_entry.specs.declared.entry.Timed.{Timed}

-- the entry is a bus reset
abbrev pub is_reset : Entry → Bool
is_reset (Reset r) = true
is_reset _ = false

-- the entry is an outcome whose code passes a test
abbrev pub is_outcome : (ℕ → Bool) → Entry → Bool
is_outcome test (Outcome o) = test o.code
is_outcome test _ = false

-- the outcome of a connection that was made
abbrev pub is_connected : ℕ → Bool
is_connected code = code == CONNECTED

-- the outcome of a connection that was restored
abbrev pub is_restored : ℕ → Bool
is_restored code = code == RESTORED

-- an outcome without a connection
abbrev pub is_other : ℕ → Bool
is_other code = not ((code == CONNECTED) || (code == RESTORED))

-- the word that an entry shows
abbrev pub words_in : Entry → List ℕ
words_in (Shown s) = s.word ∷ []
words_in _ = []

-- how many entries of a log pass a test
abbrev pub count_of : (Entry → Bool) → List Timed → ℕ
count_of test log = count_by (λ (t : Timed). test t.what) log

-- the last of some words, and 0 if there are none
abbrev pub last_of : List ℕ → ℕ
last_of [] = 0
last_of (w ∷ []) = w
last_of (w ∷ v ∷ vs) = last_of (v ∷ vs)

-- the word of the last shown entry
abbrev pub word_shown : List Timed → ℕ
word_shown log = last_of (flat_map (λ (t : Timed). words_in t.what) log)
