-- What each ending of a word that reads a log says of the input and of what was written.
use Rattle.std.specs.Prelude.{◌≡◌, ℕ, ◌+◌, ◌≤◌, ◌<◌, ◌⊎◌, List, [], ◌∷◌, ◌++◌, length, take, nat_le, if◌then◌else◌, Option, Some, None}
use Rattle.fw_outside.specs.Outside.{Takes, Grows, IsAtEnd, AppendsPrefix}
use Rattle.fw_outside.specs.Stops.{ReadCount, WriteCount}
use Rattle.fw_outside.specs.declared.stop.Stop.{Stop}
use Rattle.fw_outside.specs.declared.stop.Stop.TheVariants.{ReadFault, WriteFault, TooLong, NoMemory}
use Rattle.fw_log_entry.specs.Log.{InOrder}
use Rattle.fw_log_entry.specs.declared.version.Version.{Version}
use Rattle.fw_log_entry.specs.declared.entry.Timed.{Timed}
use Rattle.fw_log.specs.Reading.{IsPending}
use Rattle.fw_log.specs.Reader.{ShowsFault, finish_by}
use Rattle.fw_log.specs.History.{bytes_of, stand_after, BeginsNoLog, IsLog}
use Rattle.fw_log.specs.declared.LogFault.{LogFault}
use Rattle.fw_log_loop.specs.Readings.{Form, Rules, written}
use Rattle.fw_log_loop.specs.Turns.{SourceTurn, SinkTurn}
use Rattle.fw_log_loop.specs.declared.ending.LogEnd.{LogEnd}
use Rattle.fw_log_loop.specs.declared.ending.LogEnd.TheVariants.{Whole, NoLog as EndsNoLog, TooLong as EndsTooLong}
use Rattle.fw_log_loop.specs.declared.ending.LogEnding.{LogEnding}
use Rattle.fw_log_loop.specs.declared.ending.LogEnding.TheVariants.{Done, NoLog, Refused, Stopped}

-- how many bytes of a log are read at most
abbrev pub limit : ℕ
limit = 268435456

-- how many bytes are read at once, at most
abbrev pub piece_size : ℕ
piece_size = 65536

-- why a call stopped, if it did
abbrev pub stop_of : {R : Type 0} → LogEnding R → Option Stop
stop_of Done = None
stop_of (NoLog fault) = None
stop_of (Refused refusal) = None
stop_of (Stopped stop) = Some stop

-- how a log ended, if what is written of it gets an end
abbrev pub end_of : {R : Type 0} → LogEnding R → Option LogEnd
end_of Done = Some Whole
end_of (NoLog fault) = Some (EndsNoLog fault)
end_of (Refused refusal) = None
end_of (Stopped ReadFault) = None
end_of (Stopped WriteFault) = None
end_of (Stopped TooLong) = Some EndsTooLong
end_of (Stopped NoMemory) = None

-- what is written once the header was taken whole, by how many bytes were taken
abbrev pub opened : List ℕ → ℕ → List ℕ
opened head count = if nat_le 16 count then head else []

-- The bytes are those of entries of a log of one of the versions, in order, after the header, and then these.
pub record Begins (entries : List Timed) (part bytes : List ℕ) : Type 0 where
  pub version : Version
  pub order : InOrder 0 entries
  pub same : bytes_of version entries ++ part ≡ bytes

-- A byte after the entries, that at this index from there, is the last of a part that is refused, and none is refused
-- before; no log begins with the bytes up to it.
pub record Refuses (entries : List Timed) (bytes : List ℕ) (fault : LogFault) : Type 0 where
  pub part : List ℕ
  pub begins : Begins entries part bytes
  pub index : ℕ
  pub shown : ShowsFault (stand_after begins.version entries) [] part index fault
  pub none : BeginsNoLog (bytes_of begins.version entries ++ take (index + 1) part)

-- The bytes end inside the header or an entry, or before the entry that ends a log, and nothing is refused before.
pub record EndsEarly (entries : List Timed) (bytes : List ℕ) (fault : LogFault) : Type 0 where
  pub part : List ℕ
  pub begins : Begins entries part bytes
  pub pending : IsPending (stand_after begins.version entries) part
  pub fault_is : finish_by None (stand_after begins.version entries) part ≡ Some fault
  pub place : fault.place ≡ length bytes
  pub none : (all : List Timed) → IsLog all bytes → ⊥

-- The input was read to its end and is a log of these entries within the limit.
pub record IsRead (left left' : Option (List ℕ)) (entries : List Timed) : Type 0 where
  pub bytes : List ℕ
  pub taken : Takes left left' bytes
  pub end : IsAtEnd left'
  pub log : IsLog entries bytes
  pub within : length bytes ≤ limit

-- The log was read, is not refused, and what is written of its entries and at its end was written.
pub record Decoded {R : Type 0} (form : Form) (rules : Rules R) (left left' held held' : Option (List ℕ)) : Type 0 where
  pub entries : List Timed
  pub read : IsRead left left' entries
  pub accepted : rules.accepts entries
  pub last : List ℕ
  pub closed : rules.closes entries last
  pub grew : Grows held held' (form.closed entries Whole (written form entries ++ last))

-- A part is refused, after so many bytes before its last one, and at most 65,536 bytes were taken from that one on.
pub record RefusesSoon (entries : List Timed) (bytes following : List ℕ) (fault : LogFault) (before : ℕ) : Type 0 where
  pub refuses : Refuses entries bytes fault
  pub place : length (bytes_of refuses.begins.version entries) + refuses.index ≡ before
  pub soon : length refuses.part + length following ≤ refuses.index + piece_size

-- Of the bytes within the limit a part is refused, or the input ended with them and they are no log. The text of the
-- entries before was written, and what is due of a header that was taken whole before.
pub record Faulted (form : Form) (accepts : List Timed → Type 0) (left left' held held' : Option (List ℕ)) (fault : LogFault) : Type 0 where
  pub entries : List Timed
  pub bytes : List ℕ
  pub following : List ℕ
  pub taken : Takes left left' (bytes ++ following)
  pub within : length bytes ≤ limit
  pub before : ℕ
  pub refused : RefusesSoon entries bytes following fault before ⊎ ((following ≡ []) × IsAtEnd left' × EndsEarly entries bytes fault × (length bytes ≡ before))
  pub accepted : accepts entries
  pub grew : Grows held held' (form.closed entries (EndsNoLog fault) (form.prefix ++ (opened form.head before ++ form.text [] entries)))

-- The bytes up to the end of an entry are those of entries of a log, and the log is refused at that entry and at none before. At most
-- 65,536 bytes after it were taken. What is written of the entries before was written.
pub record Rejected {R : Type 0} (form : Form) (rules : Rules R) (left left' held held' : Option (List ℕ)) (refusal : R) : Type 0 where
  pub before : List Timed
  pub last : Timed
  pub bytes : List ℕ
  pub following : List ℕ
  pub taken : Takes left left' (bytes ++ following)
  pub within : length bytes ≤ limit
  pub few : length following ≤ piece_size
  pub begins : Begins (before ++ last ∷ []) [] bytes
  pub accepted : rules.accepts before
  pub rejected : rules.rejects (before ++ last ∷ []) refusal
  pub grew : Grows held held' (written form before)

-- The log was read, and is refused at its end. What is written of its entries was written.
pub record RefusedWhole {R : Type 0} (form : Form) (rules : Rules R) (left left' held held' : Option (List ℕ)) (refusal : R) : Type 0 where
  pub entries : List Timed
  pub read : IsRead left left' entries
  pub accepted : rules.accepts entries
  pub refused : rules.refuses entries refusal
  pub grew : Grows held held' (written form entries)

-- More bytes came than the limit, at most 65,536 of them after it, and nothing within it is refused. What is written of the
-- entries that end within it was written.
pub record PassedLimit (form : Form) (accepts : List Timed → Type 0) (left left' held held' : Option (List ℕ)) : Type 0 where
  pub entries : List Timed
  pub bytes : List ℕ
  pub following : List ℕ
  pub taken : Takes left left' (bytes ++ following)
  pub full : length bytes ≡ limit
  pub more : 0 < length following
  pub few : length following ≤ piece_size
  pub part : List ℕ
  pub begins : Begins entries part bytes
  pub pending : IsPending (stand_after begins.version entries) part
  pub accepted : accepts entries
  pub grew : Grows held held' (form.closed entries EndsTooLong (written form entries))

-- A read failed, and of the bytes before it nothing is refused: they are those of entries, and of a part of one more.
-- Exactly the text of these entries was written, and what is due of a header that was taken whole.
pub record Interrupted (form : Form) (accepts : List Timed → Type 0) (left left' held held' : Option (List ℕ)) : Type 0 where
  pub entries : List Timed
  pub bytes : List ℕ
  pub taken : Takes left left' bytes
  pub within : length bytes ≤ limit
  pub part : List ℕ
  pub begins : Begins entries part bytes
  pub pending : IsPending (stand_after begins.version entries) part
  pub accepted : accepts entries
  pub grew : Grows held held' (form.prefix ++ (opened form.head (length bytes) ++ form.text [] entries))

-- The bytes that were taken begin with those of entries, and a prefix was written of what is written of them, after what is due of a
-- header that was taken whole, and with what closes it at one end or another.
pub record PartRead (form : Form) (left left' held held' : Option (List ℕ)) : Type 0 where
  pub entries : List Timed
  pub bytes : List ℕ
  pub taken : Takes left left' bytes
  pub part : List ℕ
  pub begins : Begins entries part bytes
  pub end : LogEnd
  pub grew : AppendsPrefix held held' (form.closed entries end (form.prefix ++ (opened form.head (length bytes) ++ form.text [] entries)))

-- The log was read, is not refused, and a prefix of what is written of its entries and at its end was written.
pub record PartClosed {R : Type 0} (form : Form) (rules : Rules R) (left left' held held' : Option (List ℕ)) : Type 0 where
  pub entries : List Timed
  pub read : IsRead left left' entries
  pub accepted : rules.accepts entries
  pub last : List ℕ
  pub closed : rules.closes entries last
  pub grew : AppendsPrefix held held' (form.closed entries Whole (written form entries ++ last))

-- A word read a log.
abbrev pub Reads : {R : Type 0} → Form → Rules R → Option (List ℕ) → Option (List ℕ) → Option (List ℕ) → Option (List ℕ) → LogEnding R → Type 0
Reads form rules left left' held held' Done = Decoded form rules left left' held held'
Reads form rules left left' held held' (NoLog fault) = Faulted form rules.accepts left left' held held' fault
Reads form rules left left' held held' (Refused refusal) = Rejected form rules left left' held held' refusal ⊎ RefusedWhole form rules left left' held held' refusal
Reads form rules left left' held held' (Stopped ReadFault) = Interrupted form rules.accepts left left' held held'
Reads form rules left left' held held' (Stopped WriteFault) = PartRead form left left' held held' ⊎ PartClosed form rules left left' held held'
Reads form rules left left' held held' (Stopped TooLong) = PassedLimit form rules.accepts left left' held held'
Reads form rules left left' held held' (Stopped NoMemory) = PartRead form left left' held held'

-- the input is not refused
abbrev pub IsNoRefusal : {R : Type 0} → LogEnding R → Type 0
IsNoRefusal Done = Unit {0}
IsNoRefusal (NoLog fault) = ⊥
IsNoRefusal (Refused refusal) = ⊥
IsNoRefusal (Stopped ReadFault) = Unit {0}
IsNoRefusal (Stopped WriteFault) = Unit {0}
IsNoRefusal (Stopped TooLong) = ⊥
IsNoRefusal (Stopped NoMemory) = Unit {0}

-- A log within the limit, of which this holds, is read whole, unless a call fails or memory runs out.
abbrev pub IsComplete : {R : Type 0} → (List Timed → Type 0) → Option (List ℕ) → LogEnding R → Type 0
IsComplete holds left ending = (entries : List Timed) → (bytes : List ℕ) → left ≡ Some bytes → IsLog entries bytes → length bytes ≤ limit → holds entries → IsNoRefusal ending

-- What a word that reads a log promises of a call: what its ending says of the bytes that were taken, of their entries and of what was
-- written; which counts of faults rose; and that a log which it does not refuse is read whole.
pub record ReadsLog {S K R : Type 0} (form : Form) (rules : Rules R) (source : SourceTurn S) (sink : SinkTurn K) (ending : LogEnding R) : Type 0 where
  pub reads : Reads form rules (source.left source.old) (source.left source.new) (sink.held sink.old) (sink.held sink.new) ending
  pub read_count : ReadCount (source.faults source.old) (source.faults source.new) (stop_of ending)
  pub write_count : WriteCount (sink.faults sink.old) (sink.faults sink.new) (stop_of ending)
  pub complete : IsComplete rules.completes (source.left source.old) ending
