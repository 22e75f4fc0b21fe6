-- What a log has after the entries that were read, and of which version it is.
use Rattle.fw_log.proofs.Common.{◌≡◌, ℕ, ◌<◌, ◌^◌, List, [], ◌∷◌, ◌++◌, ◌==◌, length, take, drop, Bool, true, false, arith, refl, ap, sym, subst, ◌∙◌, append_assoc, length-append, if◌then◌else◌}
use Rattle.fw_log.proofs.Common.{nat_tests, append-nil, header_bytes, epoch_after, Version, One, Two, Spells, length_of, version_in, version_at, Entry, Reset, Async, Iso, Event, Outcome, Shown, End}
use Rattle.fw_log.proofs.Common.{Timed}
use Rattle.std.proofs.lemmas.List.{append_cancel_left, take_at, drop_at}
use Rattle.fw_log_entry.specs.Log.{Fits, latest_epoch, entry_bytes, entries_bytes, is_end, EndsAt, InOrder, TimedFits, LogOpens}
use Rattle.fw_log.specs.Reading.{EpochFits, header_at}
use Rattle.fw_log.specs.History.{bytes_of, last_cycle, ended_by, stand_after}
use Rattle.fw_log.proofs.SameBodyLaws.{same_timed}
use Rattle.fw_log.proofs.SameLaws.{length-entry, length_back, version_back}

ends_at : (e : Entry) (more : List Timed) → EndsAt e more → is_end e ≡ true → more ≡ []
ends_at (Reset r) more h e = cc e
ends_at (Async p) more h e = cc e
ends_at (Iso p) more h e = cc e
ends_at (Event x) more h e = cc e
ends_at (Outcome o) more h e = cc e
ends_at (Shown s) more h e = cc e
ends_at End more h e = h

pub ends_none : (e : Entry) → EndsAt e []
ends_none (Reset r) = tt
ends_none (Async p) = tt
ends_none (Iso p) = tt
ends_none (Event x) = tt
ends_none (Outcome o) = tt
ends_none (Shown s) = tt
ends_none End = refl

-- what does not end a log may be followed
pub going : (e : Entry) (ts more : List Timed) → EndsAt e ts → ended_by (is_end e) ts ≡ false → EndsAt e more
going (Reset r) ts more h n = tt
going (Async p) ts more h n = tt
going (Iso p) ts more h n = tt
going (Event x) ts more h n = tt
going (Outcome o) ts more h n = tt
going (Shown s) ts more h n = tt
going End [] more h n = cc n
going End (t ∷ ts) more h n = cc h

-- the entries of a log begin with those that were read
pub record GoesOn (v : Version) (epoch last : ℕ) (b : Bool) (ts us : List Timed) (z : List ℕ) : Type 0 where
  pub rest : List Timed
  pub all : us ≡ ts ++ rest
  pub same : entries_bytes v (latest_epoch epoch ts) rest ≡ z
  pub order : InOrder (last_cycle last ts) rest
  pub ends : ended_by b ts ≡ true → rest ≡ []

fronts : (a b x y : List ℕ) → length a ≡ length b → a ++ x ≡ b ++ y → (a ≡ b) × (x ≡ y)
fronts a b x y n e = (
  sym (take_at a x (length a) refl) ∙ ap (take (length a)) e ∙ take_at b y (length a) (sym n),
  sym (drop_at a x (length a) refl) ∙ ap (drop (length a)) e ∙ drop_at b y (length a) (sym n),
)

cons_same : (t u : Timed) (ts us : List Timed) → t ≡ u → ts ≡ us → t ∷ ts ≡ u ∷ us
cons_same t u ts us e f = cc

goes_on : (v : Version) (epoch last : ℕ) (b : Bool) (ts us : List Timed) (z : List ℕ) → InOrder last ts → InOrder last us → (b ≡ true → us ≡ [])
    → entries_bytes v epoch us ≡ entries_bytes v epoch ts ++ z → GoesOn v epoch last b ts us z
goes_on v epoch last b [] us z h k ends same = record { rest = us; all = refl; same = same; order = k; ends = ends }
goes_on v epoch last b (t ∷ ts) [] z h k ends same = cc same
goes_on v epoch last b (t ∷ ts) (u ∷ us) z h k ends same =
    let n : ℕ = epoch_after epoch t.what in
    let m : ℕ = epoch_after epoch u.what in
    let regroup : entry_bytes v m u ++ entries_bytes v m us ≡ entry_bytes v n t ++ (entries_bytes v n ts ++ z) = same ∙ append_assoc (entry_bytes v n t) (entries_bytes v n ts) z in
    let count : length_of (entry_bytes v m u) ≡ length_of (entry_bytes v n t) = ap length_of regroup in
    let size : length (entry_bytes v m u) ≡ length (entry_bytes v n t) =
    omega (arith, length-entry v m u k.1, length-entry v n t h.1, length_back v m u k.1, length_back v n t h.1, count) in
    let parts = fronts (entry_bytes v m u) (entry_bytes v n t) (entries_bytes v m us) (entries_bytes v n ts ++ z) size regroup in
    let one : u ≡ t = same_timed v m n u t k.1 h.1 parts.0 in
    let P : Timed → Type 0 = λ x. EndsAt x.what us × InOrder x.cycle us in
    let mine = subst P one (k.2, k.3) in
    let others : entries_bytes v n us ≡ entries_bytes v n ts ++ z = ap (λ (x : Timed). entries_bytes v (epoch_after epoch x.what) us) (sym one) ∙ parts.1 in
    let next = goes_on v n t.cycle (is_end t.what) ts us z h.3 mine.1 (ends_at t.what us mine.0) others in
    record { rest = next.rest; all = cons_same u t us (ts ++ next.rest) one next.all; same = next.same; order = next.order; ends = next.ends }

no_entries : (v : Version) (epoch : ℕ) (ts : List Timed) → entries_bytes v epoch ts ≡ [] → ts ≡ []
no_entries v epoch [] e = refl
no_entries v epoch (t ∷ ts) e = cc e

-- bytes are of one log, in one version
pub one_log : (v w : Version) (ts us : List Timed) (bytes : List ℕ) → LogOpens ts v bytes → LogOpens us w bytes → (v ≡ w) × (ts ≡ us)
one_log v w ts us bytes f g =
    let is : v ≡ w = sym (version_back v (entries_bytes v 0 ts)) ∙ ap version_in (f.same ∙ sym g.same) ∙ version_back w (entries_bytes w 0 us) in
    let P : Version → Type 0 = λ x. LogOpens us x bytes in
    let h = subst P (sym is) g in
    let same : entries_bytes v 0 us ≡ entries_bytes v 0 ts ++ [] =
    append_cancel_left (header_bytes v) (entries_bytes v 0 us) (entries_bytes v 0 ts ++ []) (h.same ∙ sym f.same ∙ ap (λ x. header_bytes v ++ x) (sym (append-nil (entries_bytes v 0 ts)))) in
    let k = goes_on v 0 0 false ts us [] f.order h.order (λ b. cc b) same in
    (is, sym (k.all ∙ ap (λ x. ts ++ x) (no_entries v (latest_epoch 0 ts) k.rest k.same) ∙ append-nil ts))

-- what a log has after the entries that were read
pub record Subsequent (v : Version) (entries all : List Timed) (unit : List ℕ) : Type 0 where
  pub rest : List Timed
  pub all_is : all ≡ entries ++ rest
  pub same : header_at v (length (bytes_of v entries)) ++ entries_bytes v (latest_epoch 0 entries) rest ≡ unit
  pub order : InOrder (last_cycle 0 entries) rest
  pub ends : ended_by false entries ≡ true → rest ≡ []

pub no_header : (v : Version) (n : ℕ) → 0 < n → header_at v n ≡ []
no_header v n some = by n (header_bytes v) some
  where
    by : (n : ℕ) (h : List ℕ) → 0 < n → (if n == 0 then h else []) ≡ []
    by n h some = grind (arith, nat_tests)

pub some_bytes : (v : Version) (t : Timed) (ts : List Timed) → 0 < length (bytes_of v (t ∷ ts))
some_bytes v t ts = omega (arith, length-append (header_bytes v) (entries_bytes v 0 (t ∷ ts)))

pub following : (v : Version) (entries all : List Timed) (unit bytes : List ℕ) → InOrder 0 entries → bytes_of v entries ++ unit ≡ bytes → LogOpens all v bytes → Subsequent v entries all unit
following v [] all unit bytes h e o = record { rest = all; all_is = refl; same = o.same ∙ sym e; order = o.order; ends = λ t. cc t }
following v (t ∷ ts) all unit bytes h e o =
    let same : entries_bytes v 0 all ≡ entries_bytes v 0 (t ∷ ts) ++ unit =
    append_cancel_left (header_bytes v) (entries_bytes v 0 all) (entries_bytes v 0 (t ∷ ts) ++ unit) (o.same ∙ sym e ∙ append_assoc (header_bytes v) (entries_bytes v 0 (t ∷ ts)) unit) in
    let g = goes_on v 0 0 false (t ∷ ts) all unit h o.order (λ b. cc b) same in
    record {
      rest = g.rest;
      all_is = g.all;
      same = ap (λ x. x ++ entries_bytes v (latest_epoch 0 (t ∷ ts)) g.rest) (no_header v (length (bytes_of v (t ∷ ts))) (some_bytes v t ts)) ∙ g.same;
      order = g.order;
      ends = g.ends;
    }

-- a log's version is that of the entries that were read of it
version_by : (v w : Version) (a b x y : List ℕ) → (header_bytes v ++ a) ++ x ≡ y → header_bytes w ++ b ≡ y → v ≡ w
version_by v w a b x y e f =
    sym (version_back v (a ++ x)) ∙ ap version_in (sym (append_assoc (header_bytes v) a x) ∙ e ∙ sym f) ∙ version_back w b

version_of_log : (v w : Version) (t : Timed) (ts all : List Timed) (unit bytes : List ℕ) → bytes_of v (t ∷ ts) ++ unit ≡ bytes → LogOpens all w bytes → v ≡ w
version_of_log v w t ts all unit bytes e o = version_by v w (entries_bytes v 0 (t ∷ ts)) (entries_bytes w 0 all) unit bytes e o.same

-- so what was read may be read as of that version
pub record ReadAs (v w : Version) (entries : List Timed) (unit bytes : List ℕ) : Type 0 where
  pub same : bytes_of w entries ++ unit ≡ bytes
  pub stand : stand_after v entries ≡ stand_after w entries

pub read_as : (v w : Version) (entries all : List Timed) (unit bytes : List ℕ) → bytes_of v entries ++ unit ≡ bytes → LogOpens all w bytes → ReadAs v w entries unit bytes
read_as v w [] all unit bytes e o = record { same = e; stand = refl }
read_as v w (t ∷ ts) all unit bytes e o =
    let is = version_of_log v w t ts all unit bytes e o in
    record { same = ap (λ x. bytes_of x (t ∷ ts) ++ unit) (sym is) ∙ e; stand = ap (λ x. stand_after x (t ∷ ts)) is }

not_true : (b : Bool) → (b ≡ true → ⊥) → b ≡ false
not_true true h = absurd (h refl)
not_true false h = refl

-- epochs that fit 32 bits
after_fits : (epoch : ℕ) (t : Timed) → epoch < 2 ^ 32 → TimedFits t → epoch_after epoch t.what < 2 ^ 32
after_fits epoch t e f = by t.what e f.entry
  where
    by : (what : Entry) → epoch < 2 ^ 32 → Fits what → epoch_after epoch what < 2 ^ 32
    by (Reset r) e f = f.epoch
    by (Async p) e f = e
    by (Iso p) e f = e
    by (Event x) e f = e
    by (Outcome o) e f = e
    by (Shown s) e f = e
    by End e f = e

latest_fits : (epoch last : ℕ) (ts : List Timed) → epoch < 2 ^ 32 → InOrder last ts → latest_epoch epoch ts < 2 ^ 32
latest_fits epoch last [] e h = e
latest_fits epoch last (t ∷ ts) e h = latest_fits (epoch_after epoch t.what) t.cycle ts (after_fits epoch t e h.1) h.3

fits_by : (v : Version) (epoch : ℕ) → epoch < 2 ^ 32 → EpochFits v epoch
fits_by One epoch e = tt
fits_by Two epoch e = e

-- the version after entries of a log, as the bytes tell it
version_here : (v : Version) (entries : List Timed) (rest : List ℕ) → version_at (stand_after v entries) (header_at v (length (bytes_of v entries)) ++ rest) ≡ v
version_here v [] rest = version_back v rest
version_here v (t ∷ ts) rest = by (length (bytes_of v (t ∷ ts))) (version_in (header_at v (length (bytes_of v (t ∷ ts))) ++ rest)) (some_bytes v t ts)
  where
    by : (n : ℕ) (w : Version) → 0 < n → (if n == 0 then w else v) ≡ v
    by n w some = grind (arith, nat_tests)

-- the next entry of a log stands after those that were read
pub next_spells : (v : Version) (entries rest : List Timed) (t : Timed) → InOrder 0 entries → InOrder (last_cycle 0 entries) (t ∷ rest) → (ended_by false entries ≡ true → t ∷ rest ≡ [])
    → Spells (stand_after v entries) t (header_at v (length (bytes_of v entries)) ++ entry_bytes v (epoch_after (latest_epoch 0 entries) t.what) t)
next_spells v entries rest t before order ends = record {
  going_on = not_true (ended_by false entries) (λ e. cc (ends e));
  fits = order.1;
  later = order.0;
  version = v;
  here = version_here v entries (entry_bytes v (epoch_after (latest_epoch 0 entries) t.what) t);
  epoch = fits_by v (epoch_after (latest_epoch 0 entries) t.what) (after_fits (latest_epoch 0 entries) t (latest_fits 0 0 entries (omega arith) before) order.1);
  same = refl;
}
