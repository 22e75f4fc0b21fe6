-- What was read of a log, and gets an end that a word writes.
use Rattle.std.proofs.Common.{◌≡◌, ◌⊎◌, inl, inr, ℕ, ◌+◌, ◌^◌, ◌≤◌, ◌<◌, List, [], ◌∷◌, ◌++◌, length, nat_le, Bool, true, false, if◌then◌else◌}
use Rattle.std.proofs.Common.{Option, Some, None, Result, Ok, Err, arith, refl, ap, sym, subst, ◌∙◌, append_assoc, length-append}
use Rattle.std.proofs.lemmas.List.{append-nil}
use Rattle.fw_outside.specs.Outside.{Rose, Takes, Grows, IsAtEnd, AppendsPrefix}
use Rattle.fw_outside.specs.Stops.{ReadCount, WriteCount}
use Rattle.fw_outside.specs.declared.stop.Stop.{Stop}
use Rattle.fw_outside.specs.declared.stop.Stop.TheVariants.{ReadFault, WriteFault, TooLong, NoMemory}
use Rattle.fw_outside.proofs.Parts.{Takes-nothing, Grows-Grows, then_prefix, prefix_then}
use Rattle.fw_log_entry.specs.Log.{HasEnd, header_bytes, entries_bytes}
use Rattle.fw_log_entry.specs.declared.version.Version.{Version}
use Rattle.fw_log_entry.specs.declared.version.Version.TheVariants.{One}
use Rattle.fw_log_entry.specs.declared.entry.Timed.{Timed}
use Rattle.fw_log.specs.History.{bytes_of, IsLog}
use Rattle.fw_log.specs.declared.LogFault.{LogFault}
use Rattle.fw_log_loop.specs.Readings.{Form, Rules, IsFramed, written, bare}
use Rattle.fw_log_loop.specs.Endings.{limit, opened, stop_of, end_of, Begins, RefusesSoon, EndsEarly, IsRead, Decoded, Faulted, PassedLimit, PartRead, Reads}
use Rattle.fw_log_loop.specs.Pieces.{ReadsTo}
use Rattle.fw_log_loop.specs.Framings.{Adds, Concludes, ConcludeCount}
use Rattle.fw_log_loop.specs.declared.ending.LogEnd.{LogEnd}
use Rattle.fw_log_loop.specs.declared.ending.LogEnd.TheVariants.{Whole, NoLog as EndsNoLog, TooLong as EndsTooLong}
use Rattle.fw_log_loop.specs.declared.ending.LogEnding.{LogEnding}
use Rattle.fw_log_loop.specs.declared.ending.LogEnding.TheVariants.{Done, NoLog, Refused, Stopped}
use Rattle.fw_log_loop.proofs.Texts.{prefix_of_all, prefix_of_none, few_by, length-bytes_of}

-- ---- how many entries there are

pub few_begun : (entries : List Timed) (part bytes : List ℕ) → Begins entries part bytes → length bytes ≤ limit → length entries + 1 < 2 ^ 64
few_begun entries part bytes b within = omega (arith, few_by b.version entries, ap length b.same, length-append (bytes_of b.version entries) part)

pub few_logged : (entries : List Timed) (bytes : List ℕ) → IsLog entries bytes → length bytes ≤ limit → length entries + 1 < 2 ^ 64
few_logged entries bytes log within =
    omega (arith, length-bytes_of log.version 0 entries, ap length log.spells.opens.same, length-append (header_bytes log.version) (entries_bytes log.version 0 entries))

-- a log begins with the bytes of its entries, and no more
spelled : (v : Version) (entries : List Timed) → HasEnd entries → bytes_of v entries ≡ header_bytes v ++ entries_bytes v 0 entries
spelled v [] h = absurd h
spelled v (t ∷ ts) h = refl

begins_log : (entries : List Timed) (bytes : List ℕ) → IsLog entries bytes → Begins entries [] bytes
begins_log entries bytes log = record {
  version = log.version;
  order = log.spells.opens.order;
  same = append-nil (bytes_of log.version entries) ∙ spelled log.version entries log.spells.ends ∙ log.spells.opens.same;
}

pub begun_by : (entries : List Timed) (bytes following : List ℕ) (before : ℕ) (left' : Option (List ℕ)) (f : LogFault)
    → RefusesSoon entries bytes following f before ⊎ ((following ≡ []) × IsAtEnd left' × EndsEarly entries bytes f × (length bytes ≡ before))
    → (part : List ℕ) × Begins entries part bytes
begun_by entries bytes following before left' f (inl r) = (r.refuses.part, r.refuses.begins)
begun_by entries bytes following before left' f (inr r) = (r.2.part, r.2.begins)

-- more bytes than those were taken
begins_more : (entries : List Timed) (part bytes following : List ℕ) → Begins entries part bytes → Begins entries (part ++ following) (bytes ++ following)
begins_more entries part bytes following b =
    record { version = b.version; order = b.order; same = sym (append_assoc (bytes_of b.version entries) part following) ∙ ap (λ (x : List ℕ). x ++ following) b.same }

-- ---- what is written, between a begin and an end

pub enclosed : (form : Form) (entries : List Timed) (end : LogEnd) (held0 held1 held2 held3 : Option (List ℕ)) (x : List ℕ) → Grows held0 held1 form.prefix → Grows held1 held2 x
    → Adds form entries end (Grows held2 held3)
    → Grows held0 held3 (form.closed entries end (form.prefix ++ x))
enclosed form entries end held0 held1 held2 held3 x first next a =
    let P : List ℕ → Type 0 = Grows held0 held3 in
    subst P (sym (a.closes (form.prefix ++ x))) (Grows-Grows held0 held2 held3 (form.prefix ++ x) a.more (Grows-Grows held0 held1 held2 form.prefix x first next) a.grew)

-- a prefix of it
pub enclosed_part : (form : Form) (entries : List Timed) (end : LogEnd) (held0 held1 held2 held3 : Option (List ℕ)) (x : List ℕ) → Grows held0 held1 form.prefix → Grows held1 held2 x
    → Adds form entries end (AppendsPrefix held2 held3)
    → AppendsPrefix held0 held3 (form.closed entries end (form.prefix ++ x))
enclosed_part form entries end held0 held1 held2 held3 x first next a =
    let P : List ℕ → Type 0 = AppendsPrefix held0 held3 in
    subst P (sym (a.closes (form.prefix ++ x))) (then_prefix held0 held2 held3 (form.prefix ++ x) a.more (Grows-Grows held0 held1 held2 form.prefix x first next) a.grew)

-- a prefix of what stands before the end
pub prefix_enclosed : {R : Type 0} (form : Form) (rules : Rules R) (entries : List Timed) (end : LogEnd) (held held' : Option (List ℕ)) (x : List ℕ) → IsFramed form rules → AppendsPrefix held held' x
    → AppendsPrefix held held' (form.closed entries end x)
prefix_enclosed form rules entries end held held' x framed a =
    let P : List ℕ → Type 0 = AppendsPrefix held held' in
    let c = framed.closing entries end in
    subst P (sym (c.1 x)) (prefix_then held held' x c.0 a)

-- a header has no text, however many bytes were taken
no_opening : (head : List ℕ) (n m : ℕ) → head ≡ [] → opened head n ≡ opened head m
no_opening head n m none = by (nat_le 16 n) ∙ sym (by (nat_le 16 m))
  where
    by : (b : Bool) → (if b then head else []) ≡ []
    by true = none
    by false = refl

no_opening_all : (head : List ℕ) (n : ℕ) → head ≡ [] → opened head n ≡ head
no_opening_all head n none = by (nat_le 16 n)
  where
    by : (b : Bool) → (if b then head else []) ≡ head
    by true = refl
    by false = sym none

-- ---- what was read and gets an end

-- entries were read and taken, and their text was written
pub record IsReady (form : Form) (Took : List Timed → Type 0) (left left' held held' : Option (List ℕ)) : Type 0 where
  pub entries : List Timed
  pub bytes : List ℕ
  pub taken : Takes left left' bytes
  pub part : List ℕ
  pub begins : Begins entries part bytes
  pub took : Took entries
  pub few : length entries + 1 < 2 ^ 64
  pub grew : Grows held held' (opened form.head (length bytes) ++ form.text [] entries)

pub ready : {R : Type 0} (form : Form) (rules : Rules R) (Took : List Timed → Type 0) (left left' held held' : Option (List ℕ)) (e : LogEnding R) (end : LogEnd) → IsFramed form rules
    → ReadsTo (bare form) rules Took left left' held held' e → end_of e ≡ Some end
    → IsReady form Took left left' held held'
ready form rules Took left left' held held' Done end framed d is =
    let last : d.last ≡ [] = framed.no_last d.entries d.last d.closed in
    let text : List ℕ = form.text [] d.entries in
    let P : List ℕ → Type 0 = Grows held held' in
    record {
      entries = d.entries;
      bytes = d.read.bytes;
      taken = d.read.taken;
      part = [];
      begins = begins_log d.entries d.read.bytes d.read.log;
      took = d.accepted;
      few = few_logged d.entries d.read.bytes d.read.log d.read.within;
      grew = subst P
          (ap (λ (x : List ℕ). (form.head ++ text) ++ x) last ∙ append-nil (form.head ++ text)
          ∙ ap (λ (x : List ℕ). x ++ text) (sym (no_opening_all form.head (length d.read.bytes) framed.no_head))) d.grew;
    }
ready form rules Took left left' held held' (NoLog f) end framed d is =
    let b = begun_by d.entries d.bytes d.following d.before left' f d.refused in
    let P : List ℕ → Type 0 = λ x. Grows held held' (x ++ form.text [] d.entries) in
    record {
      entries = d.entries;
      bytes = d.bytes ++ d.following;
      taken = d.taken;
      part = b.0 ++ d.following;
      begins = begins_more d.entries b.0 d.bytes d.following b.1;
      took = d.accepted;
      few = few_begun d.entries b.0 d.bytes b.1 d.within;
      grew = subst P (no_opening form.head d.before (length (d.bytes ++ d.following)) framed.no_head) d.grew;
    }
ready form rules Took left left' held held' (Refused u) end framed d is = cc is
ready form rules Took left left' held held' (Stopped ReadFault) end framed d is = cc is
ready form rules Took left left' held held' (Stopped WriteFault) end framed d is = cc is
ready form rules Took left left' held held' (Stopped TooLong) end framed d is =
    let P : List ℕ → Type 0 = λ x. Grows held held' (x ++ form.text [] d.entries) in
    record {
      entries = d.entries;
      bytes = d.bytes ++ d.following;
      taken = d.taken;
      part = d.part ++ d.following;
      begins = begins_more d.entries d.part d.bytes d.following d.begins;
      took = d.accepted;
      few = few_begun d.entries d.part d.bytes d.begins (omega (arith, d.full));
      grew = subst P (sym (no_opening_all form.head (length (d.bytes ++ d.following)) framed.no_head)) d.grew;
    }
ready form rules Took left left' held held' (Stopped NoMemory) end framed d is = cc is
