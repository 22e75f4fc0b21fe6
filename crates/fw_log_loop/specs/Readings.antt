-- What a word makes of the entries of a log.
use Rattle.std.specs.Prelude.{◌≡◌, ℕ, List, [], ◌∷◌, ◌++◌, Option, Some, None, Result, Ok, Err, string_bytes}
use Rattle.fw_log_entry.specs.declared.entry.Timed.{Timed}
use Rattle.fw_log.specs.History.{HasRead}
use Rattle.fw_log.specs.Reader.{State}
use Rattle.fw_log_loop.specs.declared.ending.LogEnd.{LogEnd}
use Rattle.fw_log_loop.specs.declared.ending.Closing.{Closing}
use Rattle.fw_log_loop.specs.declared.ending.Closing.TheVariants.{Text as ClosesBy, Bytes as ClosesByBytes, Refused}

-- what is written of entries, after others, as they end
abbrev pub Text : Type 0
Text = List Timed → List Timed → List ℕ

-- a text that is that of each entry, one after another
pub record IsEach (text : Text) : Type 0 where
  pub none : (xs : List Timed) → text xs [] ≡ []
  pub more : (xs ys zs : List Timed) → text xs (ys ++ zs) ≡ text xs ys ++ text (xs ++ ys) zs

-- what a word writes while a log is read: this before anything is read, this once the header was taken whole, and this of entries as
-- they end; and what it makes of all that was written of entries at the end of what was read
pub record Form : Type 0 where
  pub prefix : List ℕ
  pub head : List ℕ
  pub text : Text
  pub closed : List Timed → LogEnd → List ℕ → List ℕ

-- what is written of entries up to the last of them
abbrev pub written : Form → List Timed → List ℕ
written form entries = form.prefix ++ (form.head ++ form.text [] entries)

-- this for the header and for entries, with nothing before anything is read, and nothing at the end of what was read
abbrev pub bare_form : List ℕ → Text → Form
bare_form head text = record { prefix = []; head = head; text = text; closed = λ entries end text. text }

-- a form without what is written before anything is read and at the end of what was read
abbrev pub bare : Form → Form
bare form = bare_form form.head form.text

-- a word writes nothing before anything is read, and nothing at the end of what was read
abbrev pub IsBare : Form → Type 0
IsBare form = form ≡ bare form

-- what is closed after a text: it goes on from there
abbrev pub IsClosing : Form → Type 0
IsClosing form = (entries : List Timed) (end : LogEnd) → (more : List ℕ) × ((text : List ℕ) → form.closed entries end text ≡ text ++ more)

-- what a word makes of entries besides: it goes on after these; it refuses the log with this at the last of these; at the end of a
-- log of these it writes this; it refuses a log of these with this; and it refuses no log of which this holds
pub record Rules (R : Type 0) : Type 1 where
  pub accepts : List Timed → Type 0
  pub rejects : List Timed → R → Type 0
  pub closes : List Timed → List ℕ → Type 0
  pub refuses : List Timed → R → Type 0
  pub completes : List Timed → Type 0

-- a word has no text for the header, and none for a log's end but what closes it; and that goes on from what was written
pub record IsFramed {R : Type 0} (form : Form) (rules : Rules R) : Type 0 where
  pub no_head : form.head ≡ []
  pub no_last : (entries : List Timed) (last : List ℕ) → rules.closes entries last → last ≡ []
  pub closing : IsClosing form

-- a log that a word does not refuse, at none of its entries and not at its end
pub record IsAccepted {R : Type 0} (rules : Rules R) (entries : List Timed) : Type 0 where
  pub entry : (prefix rest : List Timed) (refusal : R) → entries ≡ prefix ++ rest → rules.rejects prefix refusal → ⊥
  pub end : (refusal : R) → rules.refuses entries refusal → ⊥

-- One entry more was taken, and its text was gathered; or the log is refused at it, and nothing was.
abbrev pub TakesEntry : {R : Type 0} → Text → (List Timed → R → Type 0) → (List Timed → Type 0) → List ℕ → List ℕ → List Timed → Timed → Option R → Type 0
TakesEntry text rejects Took old new entries entry None = Took (entries ++ entry ∷ []) × (new ≡ old ++ text entries (entry ∷ []))
TakesEntry text rejects Took old new entries entry (Some refusal) = rejects (entries ++ entry ∷ []) refusal × (new ≡ old)

-- one entry more was read and taken, and its text was gathered
pub record Passes (text : Text) (Took : List Timed → Type 0) (old new : List ℕ) (entries : List Timed) (bytes : List ℕ) (reader : State) : Type 0 where
  pub entry : Timed
  pub read : HasRead (entries ++ entry ∷ []) bytes reader
  pub took : Took (entries ++ entry ∷ [])
  pub gathered : new ≡ old ++ text entries (entry ∷ [])

-- what is written at the end of a log, or why it is refused
abbrev pub closing_of : {R : Type 0} → Closing R → Result (List ℕ) R
closing_of (ClosesBy text) = Ok (string_bytes text)
closing_of (ClosesByBytes bytes) = Ok bytes.items
closing_of (Refused refusal) = Err refusal

-- what is made of the end of a log
abbrev pub Closes : {R : Type 0} → Rules R → List Timed → Closing R → Type 0
Closes rules entries (ClosesBy text) = rules.closes entries (string_bytes text)
Closes rules entries (ClosesByBytes bytes) = rules.closes entries bytes.items
Closes rules entries (Refused refusal) = rules.refuses entries refusal
