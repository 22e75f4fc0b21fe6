-- What a piece of a log does to a reader, to what takes the entries, and to a sink.
use Rattle.std.specs.Prelude.{◌≡◌, ℕ, ◌+◌, ◌≤◌, ◌⊎◌, List, [], ◌∷◌, ◌++◌, length, nat_le, if◌then◌else◌, Option, Some, None, Result, Ok, Err}
use Rattle.std.specs.declared.alloc.AllocError.{AllocError}
use Rattle.fw_outside.specs.Outside.{Takes, Grows, AppendsPrefix}
use Rattle.fw_outside.specs.declared.stop.Stop.TheVariants.{ReadFault, WriteFault, TooLong, NoMemory}
use Rattle.fw_log_entry.specs.declared.entry.Timed.{Timed}
use Rattle.fw_log.specs.History.{bytes_of, HasRead, Finishes}
use Rattle.fw_log.specs.Reader.{State, finish_of}
use Rattle.fw_log.specs.declared.LogFault.{LogFault}
use Rattle.fw_log_loop.specs.Readings.{Text, Form, Rules}
use Rattle.fw_log_loop.specs.Endings.{limit, Begins, Refuses, opened, Decoded, Faulted, Rejected, RefusedWhole, Interrupted, PartRead, PartClosed, PassedLimit}
use Rattle.fw_log_loop.specs.declared.ending.LogEnding.{LogEnding}
use Rattle.fw_log_loop.specs.declared.ending.LogEnding.TheVariants.{Done, NoLog, Refused, Stopped}

-- entries were read and taken
pub record IsUnderWay (Took : List Timed → Type 0) (reader : State) : Type 0 where
  pub entries : List Timed
  pub bytes : List ℕ
  pub read : HasRead entries bytes reader
  pub took : Took entries

-- ---- what is gathered

-- more entries were read and taken, and their text was gathered
pub record Gathers (text : Text) (Took : List Timed → Type 0) (old new : List ℕ) (entries : List Timed) (bytes : List ℕ) (reader : State) : Type 0 where
  pub more : List Timed
  pub read : HasRead (entries ++ more) bytes reader
  pub took : Took (entries ++ more)
  pub gathered : new ≡ old ++ text entries more

-- After more entries, whose text was gathered, a part is refused, whose last byte is in the piece.
pub record GathersUpTo (text : Text) (accepts : List Timed → Type 0) (old new : List ℕ) (entries : List Timed) (bytes piece : List ℕ) (fault : LogFault) : Type 0 where
  pub more : List Timed
  pub refuses : Refuses (entries ++ more) (bytes ++ piece) fault
  pub soon : length refuses.part ≤ refuses.index + length piece
  pub accepted : accepts (entries ++ more)
  pub gathered : new ≡ old ++ text entries more

-- After more entries, whose text was gathered, one ended in the piece at which the log is refused.
pub record GathersToLast {R : Type 0} (text : Text) (rules : Rules R) (old new : List ℕ) (entries : List Timed) (bytes piece : List ℕ) (refusal : R) : Type 0 where
  pub more : List Timed
  pub last : Timed
  pub done : List ℕ
  pub rest : List ℕ
  pub parts : done ++ rest ≡ piece
  pub begins : Begins ((entries ++ more) ++ last ∷ []) [] (bytes ++ done)
  pub accepted : rules.accepts (entries ++ more)
  pub rejected : rules.rejects ((entries ++ more) ++ last ∷ []) refusal
  pub gathered : new ≡ old ++ text entries more

-- All of the piece was taken, or a part or the log is refused; if memory ran out nothing is said.
abbrev pub TakesPiece : {R : Type 0} → Text → Rules R → (List Timed → Type 0) → List ℕ → List ℕ → List Timed → List ℕ → List ℕ → State → Result (Option (LogEnding R)) AllocError → Type 0
TakesPiece text rules Took old new entries bytes piece reader (Ok None) = Gathers text Took old new entries (bytes ++ piece) reader
TakesPiece text rules Took old new entries bytes piece reader (Ok (Some (NoLog fault))) = GathersUpTo text Took old new entries bytes piece fault
TakesPiece text rules Took old new entries bytes piece reader (Ok (Some (Refused refusal))) = GathersToLast text rules old new entries bytes piece refusal
TakesPiece text rules Took old new entries bytes piece reader (Ok (Some Done)) = ⊥
TakesPiece text rules Took old new entries bytes piece reader (Ok (Some (Stopped stop))) = ⊥
TakesPiece text rules Took old new entries bytes piece reader (Err e) = Unit {0}

-- So far a prefix of the piece was taken, and its text was gathered.
pub record GatheredTo (text : Text) (Took : List Timed → Type 0) (old new : List ℕ) (entries : List Timed) (bytes piece rest : List ℕ) (reader : State) : Type 0 where
  pub done : List ℕ
  pub parts : done ++ rest ≡ piece
  pub gathers : Gathers text Took old new entries (bytes ++ done) reader

-- ---- what is written of a piece

-- more entries were read and taken, and their text was written
pub record Prints (text : Text) (Took : List Timed → Type 0) (held held' : Option (List ℕ)) (entries : List Timed) (bytes : List ℕ) (reader : State) : Type 0 where
  pub more : List Timed
  pub read : HasRead (entries ++ more) bytes reader
  pub took : Took (entries ++ more)
  pub grew : Grows held held' (text entries more)

-- after more entries, whose text was written, a part is refused, whose last byte is in the piece
pub record PrintsUpTo (text : Text) (accepts : List Timed → Type 0) (held held' : Option (List ℕ)) (entries : List Timed) (bytes piece : List ℕ) (fault : LogFault) : Type 0 where
  pub more : List Timed
  pub refuses : Refuses (entries ++ more) (bytes ++ piece) fault
  pub soon : length refuses.part ≤ refuses.index + length piece
  pub accepted : accepts (entries ++ more)
  pub grew : Grows held held' (text entries more)

-- after more entries, whose text was written, one ended in the piece at which the log is refused
pub record PrintsToLast {R : Type 0} (text : Text) (rules : Rules R) (held held' : Option (List ℕ)) (entries : List Timed) (bytes piece : List ℕ) (refusal : R) : Type 0 where
  pub more : List Timed
  pub last : Timed
  pub done : List ℕ
  pub rest : List ℕ
  pub parts : done ++ rest ≡ piece
  pub begins : Begins ((entries ++ more) ++ last ∷ []) [] (bytes ++ done)
  pub accepted : rules.accepts (entries ++ more)
  pub rejected : rules.rejects ((entries ++ more) ++ last ∷ []) refusal
  pub grew : Grows held held' (text entries more)

-- there are more entries, and a prefix of their text was written
pub record PrintsPart (text : Text) (held held' : Option (List ℕ)) (entries : List Timed) (bytes : List ℕ) : Type 0 where
  pub more : List Timed
  pub part : List ℕ
  pub begins : Begins (entries ++ more) part bytes
  pub grew : AppendsPrefix held held' (text entries more)

-- how far a piece was read, by the ending
abbrev pub Stops : {R : Type 0} → Text → Rules R → (List Timed → Type 0) → Option (List ℕ) → Option (List ℕ) → List Timed → List ℕ → List ℕ → LogEnding R → Type 0
Stops text rules Took held held' entries bytes piece (NoLog fault) = PrintsUpTo text Took held held' entries bytes piece fault
Stops text rules Took held held' entries bytes piece (Refused refusal) = PrintsToLast text rules held held' entries bytes piece refusal
Stops text rules Took held held' entries bytes piece (Stopped WriteFault) = PrintsPart text held held' entries (bytes ++ piece)
Stops text rules Took held held' entries bytes piece (Stopped NoMemory) = PrintsPart text held held' entries (bytes ++ piece)
Stops text rules Took held held' entries bytes piece (Stopped ReadFault) = ⊥
Stops text rules Took held held' entries bytes piece (Stopped TooLong) = ⊥
Stops text rules Took held held' entries bytes piece Done = ⊥

-- All of the piece was read, or the ending says how far it was.
abbrev pub PrintsPiece : {R : Type 0} → Text → Rules R → (List Timed → Type 0) → Option (List ℕ) → Option (List ℕ) → List Timed → List ℕ → List ℕ → State → Result (Unit {0}) (LogEnding R) → Type 0
PrintsPiece text rules Took held held' entries bytes piece reader (Ok _) = Prints text Took held held' entries (bytes ++ piece) reader
PrintsPiece text rules Took held held' entries bytes piece reader (Err ending) = Stops text rules Took held held' entries bytes piece ending

-- ---- the bytes of a read, in which the header may become whole

-- what is due of the header if so many bytes were taken before, and so many are then
abbrev pub opening : List ℕ → ℕ → ℕ → List ℕ
opening head before now = if nat_le 16 before then [] else opened head now

-- more entries were read and taken, and what is due of the header and their text was written
pub record PrintsMore (form : Form) (Took : List Timed → Type 0) (held held' : Option (List ℕ)) (entries : List Timed) (bytes piece : List ℕ) (reader : State) : Type 0 where
  pub more : List Timed
  pub read : HasRead (entries ++ more) (bytes ++ piece) reader
  pub took : Took (entries ++ more)
  pub grew : Grows held held' (opening form.head (length bytes) (length (bytes ++ piece)) ++ form.text entries more)

-- after more entries a part is refused, whose last byte is in the piece, and what was due before that was written
pub record PrintsTo (form : Form) (accepts : List Timed → Type 0) (held held' : Option (List ℕ)) (entries : List Timed) (bytes piece : List ℕ) (fault : LogFault) : Type 0 where
  pub more : List Timed
  pub refuses : Refuses (entries ++ more) (bytes ++ piece) fault
  pub soon : length refuses.part ≤ refuses.index + length piece
  pub accepted : accepts (entries ++ more)
  pub grew : Grows held held' (opening form.head (length bytes) (length (bytes_of refuses.begins.version (entries ++ more)) + refuses.index) ++ form.text entries more)

-- after more entries one ended in the piece at which the log is refused, and what was due before that was written
pub record PrintsLast {R : Type 0} (form : Form) (rules : Rules R) (held held' : Option (List ℕ)) (entries : List Timed) (bytes piece : List ℕ) (refusal : R) : Type 0 where
  pub more : List Timed
  pub last : Timed
  pub done : List ℕ
  pub rest : List ℕ
  pub parts : done ++ rest ≡ piece
  pub begins : Begins ((entries ++ more) ++ last ∷ []) [] (bytes ++ done)
  pub accepted : rules.accepts (entries ++ more)
  pub rejected : rules.rejects ((entries ++ more) ++ last ∷ []) refusal
  pub grew : Grows held held' (opening form.head (length bytes) 16 ++ form.text entries more)

-- there are more entries, and a prefix of what is due of the header and their text was written; so many of the bytes were taken before
pub record PrintsPrefix (form : Form) (held held' : Option (List ℕ)) (entries : List Timed) (bytes : List ℕ) (before : ℕ) : Type 0 where
  pub more : List Timed
  pub part : List ℕ
  pub begins : Begins (entries ++ more) part bytes
  pub grew : AppendsPrefix held held' (opening form.head before (length bytes) ++ form.text entries more)

-- how far the bytes were read, by the ending
abbrev pub StopsAt : {R : Type 0} → Form → Rules R → (List Timed → Type 0) → Option (List ℕ) → Option (List ℕ) → List Timed → List ℕ → List ℕ → LogEnding R → Type 0
StopsAt form rules Took held held' entries bytes piece (NoLog fault) = PrintsTo form Took held held' entries bytes piece fault
StopsAt form rules Took held held' entries bytes piece (Refused refusal) = PrintsLast form rules held held' entries bytes piece refusal
StopsAt form rules Took held held' entries bytes piece (Stopped WriteFault) = PrintsPrefix form held held' entries (bytes ++ piece) (length bytes)
StopsAt form rules Took held held' entries bytes piece (Stopped NoMemory) = PrintsPrefix form held held' entries (bytes ++ piece) (length bytes)
StopsAt form rules Took held held' entries bytes piece (Stopped ReadFault) = ⊥
StopsAt form rules Took held held' entries bytes piece (Stopped TooLong) = ⊥
StopsAt form rules Took held held' entries bytes piece Done = ⊥

-- All of the bytes were read, or the ending says how far they were: some of them were looked at, and the others were not.
abbrev pub PrintsBytes : {R : Type 0} → Form → Rules R → (List Timed → Type 0) → Option (List ℕ) → Option (List ℕ) → List Timed → List ℕ → List ℕ → State → Result (Unit {0}) (LogEnding R) → Type 0
PrintsBytes form rules Took held held' entries bytes piece reader (Ok _) = PrintsMore form Took held held' entries bytes piece reader
PrintsBytes form rules Took held held' entries bytes piece reader (Err ending) =
    (prefix following : List ℕ) × (prefix ++ following ≡ piece) × StopsAt form rules Took held held' entries bytes prefix ending

-- ---- the whole log

-- All that came was read, the entries were taken and their text was written, and this many bytes more are read.
pub record DecodedTo (form : Form) (Took : List Timed → Type 0) (left left' held held' : Option (List ℕ)) (reader : State) (room : ℕ) : Type 0 where
  pub entries : List Timed
  pub bytes : List ℕ
  pub taken : Takes left left' bytes
  pub read : HasRead entries bytes reader
  pub took : Took entries
  pub grew : Grows held held' (opened form.head (length bytes) ++ form.text [] entries)
  pub count : length bytes + room ≡ limit

-- What is written at the end of entries was written.
pub record ClosesLog {R : Type 0} (rules : Rules R) (entries : List Timed) (held held' : Option (List ℕ)) : Type 0 where
  pub last : List ℕ
  pub closed : rules.closes entries last
  pub grew : Grows held held' last

-- A prefix of what is written at the end of entries was written.
pub record ClosesPart {R : Type 0} (rules : Rules R) (entries : List Timed) (held held' : Option (List ℕ)) : Type 0 where
  pub last : List ℕ
  pub closed : rules.closes entries last
  pub grew : AppendsPrefix held held' last

-- The input ended: the entries are a log, and what is written at its end was written, or a prefix, or it is refused; or they are no
-- log, and nothing was.
abbrev pub EndsLog : {R : Type 0} → Rules R → List Timed → List ℕ → State → Option (List ℕ) → Option (List ℕ) → LogEnding R → Type 0
EndsLog rules entries bytes reader held held' Done = Finishes entries bytes (Ok tt) × ClosesLog rules entries held held'
EndsLog rules entries bytes reader held held' (NoLog fault) = Finishes entries bytes (Err fault) × (Some fault ≡ finish_of reader) × (held' ≡ held)
EndsLog rules entries bytes reader held held' (Refused refusal) = Finishes entries bytes (Ok tt) × rules.refuses entries refusal × (held' ≡ held)
EndsLog rules entries bytes reader held held' (Stopped WriteFault) = Finishes entries bytes (Ok tt) × ClosesPart rules entries held held'
EndsLog rules entries bytes reader held held' (Stopped NoMemory) = Finishes entries bytes (Ok tt) × (held' ≡ held)
EndsLog rules entries bytes reader held held' (Stopped ReadFault) = ⊥
EndsLog rules entries bytes reader held held' (Stopped TooLong) = ⊥

-- ---- what was read, by the ending, of entries that were taken

-- a word that goes on after entries of which this holds
abbrev pub taking : {R : Type 0} → Rules R → (List Timed → Type 0) → Rules R
taking rules Took = record rules { accepts = Took }

-- A word read a log, and took its entries if what is written of it may get an end.
abbrev pub ReadsTo : {R : Type 0} → Form → Rules R → (List Timed → Type 0) → Option (List ℕ) → Option (List ℕ) → Option (List ℕ) → Option (List ℕ) → LogEnding R → Type 0
ReadsTo form rules Took left left' held held' Done = Decoded form (taking rules Took) left left' held held'
ReadsTo form rules Took left left' held held' (NoLog fault) = Faulted form Took left left' held held' fault
ReadsTo form rules Took left left' held held' (Refused refusal) = Rejected form rules left left' held held' refusal ⊎ RefusedWhole form rules left left' held held' refusal
ReadsTo form rules Took left left' held held' (Stopped ReadFault) = Interrupted form Took left left' held held'
ReadsTo form rules Took left left' held held' (Stopped WriteFault) = PartRead form left left' held held' ⊎ PartClosed form rules left left' held held'
ReadsTo form rules Took left left' held held' (Stopped TooLong) = PassedLimit form Took left left' held held'
ReadsTo form rules Took left left' held held' (Stopped NoMemory) = PartRead form left left' held held'
