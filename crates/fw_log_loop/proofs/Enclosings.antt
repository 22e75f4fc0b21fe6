-- What was read of a log, between a begin and an end that a word writes.
use Rattle.std.proofs.Common.{◌≡◌, ◌⊎◌, inl, inr, ℕ, ◌+◌, ◌^◌, ◌≤◌, ◌<◌, List, [], ◌∷◌, ◌++◌, length, nat_le, Bool, true, false, if◌then◌else◌}
use Rattle.std.proofs.Common.{Option, Some, None, Result, Ok, Err, arith, refl, ap, sym, subst, ◌∙◌, append_assoc, length-append}
use Rattle.std.proofs.lemmas.List.{append-nil}
use Rattle.fw_outside.specs.Outside.{Rose, Takes, Grows, IsAtEnd, AppendsPrefix}
use Rattle.fw_outside.specs.Stops.{ReadCount, WriteCount}
use Rattle.fw_outside.specs.declared.stop.Stop.{Stop}
use Rattle.fw_outside.specs.declared.stop.Stop.TheVariants.{ReadFault, WriteFault, TooLong, NoMemory}
use Rattle.fw_outside.proofs.Parts.{Takes-nothing, Grows-Grows, then_prefix, prefix_then}
use Rattle.fw_log_entry.specs.Log.{HasEnd, header_bytes, entries_bytes}
use Rattle.fw_log_entry.specs.declared.version.Version.{Version}
use Rattle.fw_log_entry.specs.declared.version.Version.TheVariants.{One}
use Rattle.fw_log_entry.specs.declared.entry.Timed.{Timed}
use Rattle.fw_log.specs.History.{bytes_of, IsLog}
use Rattle.fw_log.specs.declared.LogFault.{LogFault}
use Rattle.fw_log_loop.specs.Readings.{Form, Rules, IsFramed, written, bare}
use Rattle.fw_log_loop.specs.Endings.{limit, opened, stop_of, end_of, Begins, RefusesSoon, EndsEarly, IsRead, Decoded, Faulted, PassedLimit, PartRead, Reads}
use Rattle.fw_log_loop.specs.Pieces.{ReadsTo}
use Rattle.fw_log_loop.specs.Framings.{Adds, Concludes, ConcludeCount}
use Rattle.fw_log_loop.specs.declared.ending.LogEnd.{LogEnd}
use Rattle.fw_log_loop.specs.declared.ending.LogEnd.TheVariants.{Whole, NoLog as EndsNoLog, TooLong as EndsTooLong}
use Rattle.fw_log_loop.specs.declared.ending.LogEnding.{LogEnding}
use Rattle.fw_log_loop.specs.declared.ending.LogEnding.TheVariants.{Done, NoLog, Refused, Stopped}
use Rattle.fw_log_loop.proofs.Texts.{prefix_of_all, prefix_of_none, few_by, length-bytes_of}
use Rattle.fw_log_loop.proofs.Readies.{few_begun, few_logged, begun_by, enclosed, enclosed_part, prefix_enclosed, IsReady, ready}

-- ---- with its end

-- all was written
pub read_whole : {R : Type 0} (form : Form) (rules : Rules R) (Took : List Timed → Type 0) (left left' held0 held1 held2 held3 : Option (List ℕ)) (e : LogEnding R) (end : LogEnd)
    → ((es : List Timed) → Took es → rules.accepts es) → Grows held0 held1 form.prefix
    → ReadsTo (bare form) rules Took left left' held1 held2 e → end_of e ≡ Some end → ((es : List Timed) → length es + 1 < 2 ^ 64 → Took es → Adds form es end (Grows held2 held3))
    → Reads form rules left left' held0 held3 e
read_whole form rules Took left left' held0 held1 held2 held3 Done end accepted first d is adds =
    let same : end ≡ Whole = cc is in
    let A : LogEnd → Type 0 = λ x. Adds form d.entries x (Grows held2 held3) in
    let rest : List ℕ = form.head ++ form.text [] d.entries in
    let P : List ℕ → Type 0 = λ x. Grows held0 held3 (form.closed d.entries Whole x) in
    record {
      entries = d.entries;
      read = d.read;
      accepted = accepted d.entries d.accepted;
      last = d.last;
      closed = d.closed;
      grew = subst P (sym (append_assoc form.prefix rest d.last))
          (enclosed form d.entries Whole held0 held1 held2 held3 (rest ++ d.last) first d.grew (subst A same (adds d.entries (few_logged d.entries d.read.bytes d.read.log d.read.within) d.accepted)));
    }
read_whole form rules Took left left' held0 held1 held2 held3 (NoLog f) end accepted first d is adds =
    let same : end ≡ EndsNoLog f = cc is in
    let A : LogEnd → Type 0 = λ x. Adds form d.entries x (Grows held2 held3) in
    let b = begun_by d.entries d.bytes d.following d.before left' f d.refused in
    record {
      entries = d.entries;
      bytes = d.bytes;
      following = d.following;
      taken = d.taken;
      within = d.within;
      before = d.before;
      refused = d.refused;
      accepted = accepted d.entries d.accepted;
      grew = enclosed form d.entries (EndsNoLog f) held0 held1 held2 held3 (opened form.head d.before ++ form.text [] d.entries) first d.grew
          (subst A same (adds d.entries (few_begun d.entries b.0 d.bytes b.1 d.within) d.accepted));
    }
read_whole form rules Took left left' held0 held1 held2 held3 (Refused u) end accepted first d is adds = cc is
read_whole form rules Took left left' held0 held1 held2 held3 (Stopped ReadFault) end accepted first d is adds = cc is
read_whole form rules Took left left' held0 held1 held2 held3 (Stopped WriteFault) end accepted first d is adds = cc is
read_whole form rules Took left left' held0 held1 held2 held3 (Stopped TooLong) end accepted first d is adds =
    let same : end ≡ EndsTooLong = cc is in
    let A : LogEnd → Type 0 = λ x. Adds form d.entries x (Grows held2 held3) in
    record {
      entries = d.entries;
      bytes = d.bytes;
      following = d.following;
      taken = d.taken;
      full = d.full;
      more = d.more;
      few = d.few;
      part = d.part;
      begins = d.begins;
      pending = d.pending;
      accepted = accepted d.entries d.accepted;
      grew = enclosed form d.entries EndsTooLong held0 held1 held2 held3 (form.head ++ form.text [] d.entries) first d.grew
          (subst A same (adds d.entries (few_begun d.entries d.part d.bytes d.begins (omega (arith, d.full))) d.accepted));
    }
read_whole form rules Took left left' held0 held1 held2 held3 (Stopped NoMemory) end accepted first d is adds = cc is

-- not all of the end was written
pub read_part : {R : Type 0} (form : Form) (rules : Rules R) (Took : List Timed → Type 0) (left left' held0 held1 held2 held3 : Option (List ℕ)) (e : LogEnding R) (end : LogEnd) (stop : Stop)
    → IsFramed form rules → Grows held0 held1 form.prefix
    → ReadsTo (bare form) rules Took left left' held1 held2 e → end_of e ≡ Some end → ((es : List Timed) → length es + 1 < 2 ^ 64 → Took es → Concludes form es end held2 held3 (Err stop))
    → Reads form rules left left' held0 held3 (Stopped stop)
read_part form rules Took left left' held0 held1 held2 held3 e end WriteFault framed first d is cut =
    let r = ready form rules Took left left' held1 held2 e end framed d is in
    inl (record {
      entries = r.entries;
      bytes = r.bytes;
      taken = r.taken;
      part = r.part;
      begins = r.begins;
      end = end;
      grew = enclosed_part form r.entries end held0 held1 held2 held3 (opened form.head (length r.bytes) ++ form.text [] r.entries) first r.grew (cut r.entries r.few r.took);
    })
read_part form rules Took left left' held0 held1 held2 held3 e end NoMemory framed first d is cut =
    let r = ready form rules Took left left' held1 held2 e end framed d is in
    let x : List ℕ = form.prefix ++ (opened form.head (length r.bytes) ++ form.text [] r.entries) in
    let P : Option (List ℕ) → Type 0 = λ h. AppendsPrefix held0 h (form.closed r.entries end x) in
    record {
      entries = r.entries;
      bytes = r.bytes;
      taken = r.taken;
      part = r.part;
      begins = r.begins;
      end = end;
      grew = subst P (sym (cut r.entries r.few r.took))
          (prefix_enclosed form rules r.entries end held0 held2 x framed
          (prefix_of_all held0 held2 x (Grows-Grows held0 held1 held2 form.prefix (opened form.head (length r.bytes) ++ form.text [] r.entries) first r.grew)));
    }
read_part form rules Took left left' held0 held1 held2 held3 e end ReadFault framed first d is cut = let r = ready form rules Took left left' held1 held2 e end framed d is in
    absurd (cut r.entries r.few r.took)
read_part form rules Took left left' held0 held1 held2 held3 e end TooLong framed first d is cut = let r = ready form rules Took left left' held1 held2 e end framed d is in
    absurd (cut r.entries r.few r.took)

-- ---- without an end

-- a prefix of what was read, after a begin
part_after : {R : Type 0} (form : Form) (rules : Rules R) (left left' held0 held1 held2 : Option (List ℕ)) → IsFramed form rules → Grows held0 held1 form.prefix
    → PartRead (bare form) left left' held1 held2 → PartRead form left left' held0 held2
part_after form rules left left' held0 held1 held2 framed first d =
    let x : List ℕ = opened form.head (length d.bytes) ++ form.text [] d.entries in
    record {
      entries = d.entries;
      bytes = d.bytes;
      taken = d.taken;
      part = d.part;
      begins = d.begins;
      end = d.end;
      grew = prefix_enclosed form rules d.entries d.end held0 held2 (form.prefix ++ x) framed (then_prefix held0 held1 held2 form.prefix x first d.grew);
    }

pub read_open : {R : Type 0} (form : Form) (rules : Rules R) (Took : List Timed → Type 0) (left left' held0 held1 held2 : Option (List ℕ)) (e : LogEnding R)
    → ((es : List Timed) → Took es → rules.accepts es) → IsFramed form rules → Grows held0 held1 form.prefix
    → ReadsTo (bare form) rules Took left left' held1 held2 e → end_of e ≡ None → Reads form rules left left' held0 held2 e
read_open form rules Took left left' held0 held1 held2 Done accepted framed first d is = cc is
read_open form rules Took left left' held0 held1 held2 (NoLog f) accepted framed first d is = cc is
read_open form rules Took left left' held0 held1 held2 (Refused u) accepted framed first (inl d) is = inl (record {
  before = d.before;
  last = d.last;
  bytes = d.bytes;
  following = d.following;
  taken = d.taken;
  within = d.within;
  few = d.few;
  begins = d.begins;
  accepted = d.accepted;
  rejected = d.rejected;
  grew = Grows-Grows held0 held1 held2 form.prefix (form.head ++ form.text [] d.before) first d.grew;
})
read_open form rules Took left left' held0 held1 held2 (Refused u) accepted framed first (inr d) is =
    inr (record { entries = d.entries; read = d.read; accepted = d.accepted; refused = d.refused; grew = Grows-Grows held0 held1 held2 form.prefix (form.head ++ form.text [] d.entries) first d.grew })
read_open form rules Took left left' held0 held1 held2 (Stopped ReadFault) accepted framed first d is = record {
  entries = d.entries;
  bytes = d.bytes;
  taken = d.taken;
  within = d.within;
  part = d.part;
  begins = d.begins;
  pending = d.pending;
  accepted = accepted d.entries d.accepted;
  grew = Grows-Grows held0 held1 held2 form.prefix (opened form.head (length d.bytes) ++ form.text [] d.entries) first d.grew;
}
read_open form rules Took left left' held0 held1 held2 (Stopped WriteFault) accepted framed first (inl d) is = inl (part_after form rules left left' held0 held1 held2 framed first d)
read_open form rules Took left left' held0 held1 held2 (Stopped WriteFault) accepted framed first (inr d) is =
    let rest : List ℕ = form.head ++ form.text [] d.entries in
    let P : List ℕ → Type 0 = λ x. AppendsPrefix held0 held2 (form.closed d.entries Whole x) in
    inr (record {
      entries = d.entries;
      read = d.read;
      accepted = d.accepted;
      last = d.last;
      closed = d.closed;
      grew = subst P (sym (append_assoc form.prefix rest d.last))
          (prefix_enclosed form rules d.entries Whole held0 held2 (form.prefix ++ (rest ++ d.last)) framed (then_prefix held0 held1 held2 form.prefix (rest ++ d.last) first d.grew));
    })
read_open form rules Took left left' held0 held1 held2 (Stopped TooLong) accepted framed first d is = cc is
read_open form rules Took left left' held0 held1 held2 (Stopped NoMemory) accepted framed first d is = part_after form rules left left' held0 held1 held2 framed first d

-- the begin was not all written
pub read_none : {R : Type 0} (form : Form) (rules : Rules R) (left held held' : Option (List ℕ)) → IsFramed form rules → AppendsPrefix held held' form.prefix → PartRead form left left held held'
read_none form rules left held held' framed a =
    let x : List ℕ = opened form.head 0 ++ form.text [] [] in
    record {
      entries = [];
      bytes = [];
      taken = Takes-nothing left;
      part = [];
      begins = record { version = One; order = tt; same = refl };
      end = Whole;
      grew = prefix_enclosed form rules [] Whole held held' (form.prefix ++ x) framed (prefix_then held held' form.prefix x a);
    }

-- ---- which counts of faults rose

read_same : {R : Type 0} (e : LogEnding R) (end : LogEnd) (old new : ℕ) → end_of e ≡ Some end → ReadCount old new (stop_of e) → new ≡ old
read_same Done end old new is same = same
read_same (NoLog f) end old new is same = same
read_same (Refused u) end old new is same = same
read_same (Stopped ReadFault) end old new is same = cc is
read_same (Stopped WriteFault) end old new is same = same
read_same (Stopped TooLong) end old new is same = same
read_same (Stopped NoMemory) end old new is same = same

write_same : {R : Type 0} (e : LogEnding R) (end : LogEnd) (old new : ℕ) → end_of e ≡ Some end → WriteCount old new (stop_of e) → new ≡ old
write_same Done end old new is same = same
write_same (NoLog f) end old new is same = same
write_same (Refused u) end old new is same = same
write_same (Stopped ReadFault) end old new is same = same
write_same (Stopped WriteFault) end old new is same = cc is
write_same (Stopped TooLong) end old new is same = same
write_same (Stopped NoMemory) end old new is same = same

pub end_reads : {R : Type 0} (e : LogEnding R) (end : LogEnd) (stop : Stop) (old new before now : ℕ) → end_of e ≡ Some end → ReadCount old new (stop_of e) → ConcludeCount before now (Err stop)
    → ReadCount old new (Some stop)
end_reads e end ReadFault old new before now is same count = absurd count
end_reads e end TooLong old new before now is same count = absurd count
end_reads e end WriteFault old new before now is same count = read_same e end old new is same
end_reads e end NoMemory old new before now is same count = read_same e end old new is same

pub end_writes : {R : Type 0} (e : LogEnding R) (end : LogEnd) (stop : Stop) (old mid new : ℕ) → end_of e ≡ Some end → WriteCount old mid (stop_of e) → ConcludeCount mid new (Err stop)
    → WriteCount old new (Some stop)
end_writes e end ReadFault old mid new is same count = absurd count
end_writes e end TooLong old mid new is same count = absurd count
end_writes e end WriteFault old mid new is same count = let P : ℕ → Type 0 = λ n. Rose n new in subst P (write_same e end old mid is same) count
end_writes e end NoMemory old mid new is same count = count ∙ write_same e end old mid is same

pub whole_writes : {R : Type 0} (e : LogEnding R) (end : LogEnd) (old mid new : ℕ) → end_of e ≡ Some end → WriteCount old mid (stop_of e) → new ≡ mid → WriteCount old new (stop_of e)
whole_writes Done end old mid new is same count = count ∙ same
whole_writes (NoLog f) end old mid new is same count = count ∙ same
whole_writes (Refused u) end old mid new is same count = cc
whole_writes (Stopped ReadFault) end old mid new is same count = cc
whole_writes (Stopped WriteFault) end old mid new is same count = cc
whole_writes (Stopped TooLong) end old mid new is same count = count ∙ same
whole_writes (Stopped NoMemory) end old mid new is same count = cc
