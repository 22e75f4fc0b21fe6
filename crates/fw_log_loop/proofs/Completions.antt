-- A log within the limit that is not refused is read whole.
use Rattle.std.proofs.Common.{◌≡◌, ◌⊎◌, inl, inr, ℕ, ◌+◌, ◌≤◌, List, [], ◌∷◌, ◌++◌, length, take, drop, Option, Some, None, arith, refl, ap, sym, subst, ◌∙◌, append_assoc, length-append}
use Rattle.std.proofs.lemmas.List.{append-nil, take-append-drop}
use Rattle.fw_outside.specs.Outside.{Takes, IsAtEnd}
use Rattle.fw_outside.specs.declared.stop.Stop.TheVariants.{ReadFault, WriteFault, TooLong, NoMemory}
use Rattle.fw_log_entry.specs.Log.{header_bytes, entries_bytes, LogOpens}
use Rattle.fw_log_entry.specs.declared.entry.Timed.{Timed}
use Rattle.fw_log_entry.specs.declared.version.Version.{Version}
use Rattle.fw_log.specs.History.{bytes_of, IsLog}
use Rattle.fw_log.specs.Reading.{version_in}
use Rattle.fw_log.specs.declared.LogFault.{LogFault}
use Rattle.fw_log.proofs.FollowingLaws.{following, one_log}
use Rattle.fw_log.proofs.SameLaws.{version_back}
use Rattle.fw_log_loop.specs.Readings.{Form, Rules, IsAccepted}
use Rattle.fw_log_loop.specs.declared.ending.LogEnding.{LogEnding}
use Rattle.fw_log_loop.specs.declared.ending.LogEnding.TheVariants.{Done, NoLog, Refused, Stopped}
use Rattle.fw_log_loop.specs.Endings.{limit, Begins, Refuses, RefusesSoon, EndsEarly, Faulted, Rejected, RefusedWhole, PassedLimit, Reads, IsComplete, IsNoRefusal}

told_parts : (bytes xs : List ℕ) (left' : Option (List ℕ)) → Takes (Some bytes) left' xs → (ys : List ℕ) × (bytes ≡ xs ++ ys)
told_parts bytes xs None t = absurd t
told_parts bytes xs (Some ys) t = (ys, t)

pub told_end : (bytes xs : List ℕ) (left' : Option (List ℕ)) → Takes (Some bytes) left' xs → IsAtEnd left' → xs ≡ bytes
told_end bytes xs None t e = absurd t
told_end bytes xs (Some ys) t e = sym (append-nil xs) ∙ ap (λ (y : List ℕ). xs ++ y) (sym e) ∙ sym t

split_past : (n : ℕ) (x part rest : List ℕ) (bytes : List ℕ) → x ++ part ≡ bytes → (x ++ take n part) ++ (drop n part ++ rest) ≡ bytes ++ rest
split_past n x part rest bytes e =
    append_assoc x (take n part) (drop n part ++ rest) ∙ ap (λ (y : List ℕ). x ++ y) (sym (append_assoc (take n part) (drop n part) rest) ∙ ap (λ (y : List ℕ). y ++ rest) (take-append-drop n part))
    ∙ sym (append_assoc x part rest) ∙ ap (λ (y : List ℕ). y ++ rest) e

-- ---- the bytes are a log

never_refused : (entries all : List Timed) (bytes rest log : List ℕ) (f : LogFault) → Refuses entries bytes f → log ≡ bytes ++ rest → IsLog all log → ⊥
never_refused entries all bytes rest log f r is s =
    let P : List ℕ → Type 0 = LogOpens all s.version in
    let line : log ≡ (bytes_of r.begins.version entries ++ take (r.index + 1) r.part) ++ (drop (r.index + 1) r.part ++ rest) =
    is ∙ sym (split_past (r.index + 1) (bytes_of r.begins.version entries) r.part rest bytes r.begins.same) in
    r.none all s.version (drop (r.index + 1) r.part ++ rest) (subst P line s.spells.opens)

faulted_by : (entries all : List Timed) (log bytes following : List ℕ) (before : ℕ) (left' : Option (List ℕ)) (f : LogFault) → Takes (Some log) left' (bytes ++ following) → IsLog all log
    → RefusesSoon entries bytes following f before ⊎ ((following ≡ []) × IsAtEnd left' × EndsEarly entries bytes f × (length bytes ≡ before)) → ⊥
faulted_by entries all log bytes following before left' f t s (inl r) =
    let told = told_parts log (bytes ++ following) left' t in
    never_refused entries all bytes (following ++ told.0) log f r.refuses (told.1 ∙ append_assoc bytes following told.0) s
faulted_by entries all log bytes following before left' f t s (inr r) =
    let same : bytes ≡ log = sym (append-nil bytes) ∙ ap (λ (x : List ℕ). bytes ++ x) (sym r.0) ∙ told_end log (bytes ++ following) left' t r.1 in
    let P : List ℕ → Type 0 = IsLog all in
    r.2.none all (subst P (sym same) s)

never_faulted : {form : Form} {accepts : List Timed → Type 0} (all : List Timed) (log : List ℕ) (left' held held' : Option (List ℕ)) (f : LogFault) → IsLog all log
    → Faulted form accepts (Some log) left' held held' f → ⊥
never_faulted all log left' held held' f s d = faulted_by d.entries all log d.bytes d.following d.before left' f d.taken s d.refused

never_passed : {form : Form} {accepts : List Timed → Type 0} (log : List ℕ) (left' held held' : Option (List ℕ)) → length log ≤ limit → PassedLimit form accepts (Some log) left' held held' → ⊥
never_passed log left' held held' short d =
    let told = told_parts log (d.bytes ++ d.following) left' d.taken in
    omega (arith, short, d.full, d.more, ap length told.1, length-append (d.bytes ++ d.following) told.0, length-append d.bytes d.following)

-- ---- and the word does not refuse it

bytes_some : (v : Version) (xs : List Timed) (t : Timed) → bytes_of v (xs ++ t ∷ []) ≡ header_bytes v ++ entries_bytes v 0 (xs ++ t ∷ [])
bytes_some v [] t = refl
bytes_some v (x ∷ xs) t = refl

-- the entries that were read are the first of the log
prefix_read : (xs : List Timed) (t : Timed) (all : List Timed) (log bytes rest : List ℕ) → Begins (xs ++ t ∷ []) [] bytes → log ≡ bytes ++ rest → IsLog all log → (later : List Timed)
    × (all ≡ (xs ++ t ∷ []) ++ later)
prefix_read xs t all log bytes rest b is s =
    let v = b.version in
    let es : List Timed = xs ++ t ∷ [] in
    let line : bytes_of v es ++ rest ≡ log = ap (λ (x : List ℕ). x ++ rest) (sym (append-nil (bytes_of v es)) ∙ b.same) ∙ sym is in
    let regroup : header_bytes v ++ (entries_bytes v 0 es ++ rest) ≡ log =
    sym (append_assoc (header_bytes v) (entries_bytes v 0 es) rest) ∙ ap (λ (x : List ℕ). x ++ rest) (sym (bytes_some v xs t)) ∙ line in
    let same : v ≡ s.version = sym (version_back v (entries_bytes v 0 es ++ rest)) ∙ ap version_in (regroup ∙ sym s.spells.opens.same) ∙ version_back s.version (entries_bytes s.version 0 all) in
    let P : Version → Type 0 = λ w. LogOpens all w log in
    let y = following v es all rest log b.order line (subst P (sym same) s.spells.opens) in
    (y.rest, y.all_is)

never_rejected : {R : Type 0} {form : Form} (rules : Rules R) (all : List Timed) (log : List ℕ) (left' held held' : Option (List ℕ)) (refusal : R) → IsLog all log → IsAccepted rules all
    → Rejected form rules (Some log) left' held held' refusal → ⊥
never_rejected rules all log left' held held' refusal s a d =
    let told = told_parts log (d.bytes ++ d.following) left' d.taken in
    let prefix = prefix_read d.before d.last all log d.bytes (d.following ++ told.0) d.begins (told.1 ∙ append_assoc d.bytes d.following told.0) s in
    a.entry (d.before ++ d.last ∷ []) prefix.0 refusal prefix.1 d.rejected

never_refused_whole : {R : Type 0} {form : Form} (rules : Rules R) (all : List Timed) (log : List ℕ) (left' held held' : Option (List ℕ)) (refusal : R) → IsLog all log → IsAccepted rules all
    → RefusedWhole form rules (Some log) left' held held' refusal → ⊥
never_refused_whole {R} rules all log left' held held' refusal s a d =
    let same : d.read.bytes ≡ log = told_end log d.read.bytes left' d.read.taken d.read.end in
    let P : List ℕ → Type 0 = LogOpens d.entries d.read.log.version in
    let one = (one_log d.read.log.version s.version d.entries all log (subst P same d.read.log.spells.opens) s.spells.opens).1 in
    let Q : List Timed → Type 0 = λ es. rules.refuses es refusal in
    a.end refusal (subst Q one d.refused)

-- ---- so it is read whole

by_ending : {R : Type 0} (form : Form) (rules : Rules R) (left' held held' : Option (List ℕ)) (all : List Timed) (log : List ℕ) (e : LogEnding R) → IsLog all log → length log ≤ limit
    → IsAccepted rules all → Reads form rules (Some log) left' held held' e → IsNoRefusal e
by_ending form rules left' held held' all log Done s short a r = tt
by_ending form rules left' held held' all log (NoLog f) s short a r = never_faulted all log left' held held' f s r
by_ending form rules left' held held' all log (Refused u) s short a (inl r) = never_rejected rules all log left' held held' u s a r
by_ending form rules left' held held' all log (Refused u) s short a (inr r) = never_refused_whole rules all log left' held held' u s a r
by_ending form rules left' held held' all log (Stopped ReadFault) s short a r = tt
by_ending form rules left' held held' all log (Stopped WriteFault) s short a r = tt
by_ending form rules left' held held' all log (Stopped TooLong) s short a r = never_passed log left' held held' short r
by_ending form rules left' held held' all log (Stopped NoMemory) s short a r = tt

pub is_complete : {R : Type 0} (form : Form) (rules : Rules R) (left left' held held' : Option (List ℕ)) (e : LogEnding R) → Reads form rules left left' held held' e
    → IsComplete (IsAccepted rules) left e
is_complete form rules left left' held held' e r all log is s short a =
    let P : Option (List ℕ) → Type 0 = λ l. Reads form rules l left' held held' e in
    by_ending form rules left' held held' all log e s short a (subst P is r)

-- and one of which something holds that says so
pub complete_by : {R : Type 0} (rules : Rules R) (holds : List Timed → Type 0) (left : Option (List ℕ)) (e : LogEnding R) → ((es : List Timed) → holds es → IsAccepted rules es)
    → IsComplete (IsAccepted rules) left e → IsComplete holds left e
complete_by rules holds left e accepts complete all log is s short h = complete all log is s short (accepts all h)
