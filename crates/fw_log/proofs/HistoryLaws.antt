-- What a reader has read of a log.
use Rattle.fw_log.proofs.Common.{◌≡◌, inl, inr, ℕ, ◌+◌, ◌≤◌, ◌<◌, List, [], ◌∷◌, ◌++◌, ◌==◌, length, take, drop, Bool, true, false, Option, Some, None, Result, Ok, Err, arith, refl, ap, sym, subst}
use Rattle.fw_log.proofs.Common.{One, Two}
use Rattle.fw_log.proofs.Common.{◌∙◌, append_assoc, length-append, take-add, if◌then◌else◌, cases_lt, nat_tests, append-nil, take-append-drop, take-append-le, length-take-le, header_bytes}
use Rattle.fw_log.proofs.Common.{epoch_after, Version, IsPending, Spells, Faulty, header_fault, entry_fault, head_fault, skip, version_in, version_at, fault_at, Position, State, Feeds, EndsEntry}
use Rattle.fw_log.proofs.Common.{ShowsFault, Timed, LogFed, LogFault, AfterEnd}
use Rattle.std.proofs.lemmas.List.{take_at, drop_at, take-take, nil_from_length}
use Rattle.fw_log_entry.proofs.LogLaws.{latest_append, entries_push}
use Rattle.fw_log_entry.specs.Log.{latest_epoch, entry_bytes, entries_bytes, is_end, InOrder, TimedFits, LogOpens}
use Rattle.fw_log.specs.Reading.{header_at}
use Rattle.fw_log.specs.Reader.{FeedsTo, after, with_bytes}
use Rattle.fw_log.specs.History.{bytes_of, version_after, last_cycle, ended_by, stand_after, HasRead, BeginsNoLog, ReadsTo, ReadsOn, IsNext, GivesNext}
use Rattle.fw_log.proofs.StayLaws.{need_least, head_stays}
use Rattle.fw_log.proofs.SameLaws.{spelled_complete, header_alone}
use Rattle.fw_log.proofs.ExactLaws.{never_complete, entry_faulty}
use Rattle.fw_log.proofs.FollowingLaws.{ends_none, going, Subsequent, no_header, some_bytes, following, read_as, next_spells}

-- no log goes on from a fault
dead_prefix : {A : Type 0} (s : Position) (line : List ℕ) (n m : ℕ) (f : LogFault) (t : Timed) → IsPending s (take n line) → Faulty s (take (n + 1) line) f → m ≤ length line → Spells s t (take m line)
    → A
dead_prefix s line n m f t pending shown within h =
    elim (cases_lt n m) [
      | inl less ↦ entry_faulty s [] line (n + 1) m f t (omega arith) within shown h
      | inr more ↦ never_complete s [] line m n more (spelled_complete s t (take m line) h) pending
    ]

ended_begun : (v : Version) (entries : List Timed) → ended_by false entries ≡ true → header_at v (length (bytes_of v entries)) ≡ []
ended_begun v [] e = cc e
ended_begun v (t ∷ ts) e = no_header v (length (bytes_of v (t ∷ ts))) (some_bytes v t ts)

nothing_shown : (s : Position) → head_fault s [] ≡ None
nothing_shown s = by s.ended (s.start == 0) s.version
  where
    by : (b first : Bool) (v : Version) → (if b then (if length {A = ℕ} [] == 0 then None else Some (fault_at s.start AfterEnd)) else if first
        then header_fault [] (entry_fault (version_in []) s.epoch 16 s.last (drop 16 [])) else entry_fault v s.epoch s.start s.last []) ≡ None
    by true first v = refl
    by false true v = refl
    by false false One = refl
    by false false Two = refl

size_of_header : (v : Version) (n : ℕ) → length (header_at v n) ≡ skip n
size_of_header v n = by (n == 0)
  where
    by : (first : Bool) → length (if first then header_bytes v else []) ≡ (if first then 16 else 0)
    by true = refl
    by false = refl

-- after the last entry of a log nothing is refused
last_clear : (v : Version) (entries : List Timed) (unit more : List ℕ) (f : LogFault) → Faulty (stand_after v entries) unit f → header_at v (length (bytes_of v entries)) ++ [] ≡ unit ++ more → ⊥
last_clear v entries unit more f (inr b) same =
    let size = size_of_header v (length (bytes_of v entries)) in
    let low = need_least (stand_after v entries) unit in
    omega (arith, b.complete, low, size, ap length same, length-append unit more, length-append (header_at v (length (bytes_of v entries))) [])
last_clear v entries unit more f (inl h) same = by (ended_by false entries) refl
  where
    line : unit ++ more ≡ header_at v (length (bytes_of v entries))
    line = sym same ∙ append-nil (header_at v (length (bytes_of v entries)))

    by : (b : Bool) → ended_by false entries ≡ b → ⊥
    by true e =
        let none : unit ≡ [] = nil_from_length unit (omega (arith, ap length (line ∙ ended_begun v entries e), length-append unit more)) in
        cc (h, ap (head_fault (stand_after v entries)) none, nothing_shown (stand_after v entries))
    by false e = cc (head_stays (stand_after v entries) unit more f h, ap (head_fault (stand_after v entries)) line, header_alone v (stand_after v entries) e)

dead_by : (v : Version) (entries rest : List Timed) (unit more : List ℕ) (n : ℕ) (f : LogFault) → InOrder 0 entries → unit ≡ take (n + 1) (unit ++ more)
    → IsPending (stand_after v entries) (take n (unit ++ more)) → Faulty (stand_after v entries) unit f
    → InOrder (last_cycle 0 entries) rest → (ended_by false entries ≡ true → rest ≡ []) → header_at v (length (bytes_of v entries)) ++ entries_bytes v (latest_epoch 0 entries) rest ≡ unit ++ more → ⊥
dead_by v entries [] unit more n f before cut pending shown order ends same = last_clear v entries unit more f shown same
dead_by v entries (t ∷ rest) unit more n f before cut pending shown order ends same =
    let s = next_spells v entries rest t before order ends in
    let epoch : ℕ = epoch_after (latest_epoch 0 entries) t.what in
    let first : List ℕ = header_at v (length (bytes_of v entries)) ++ entry_bytes v epoch t in
    let line : first ++ entries_bytes v epoch rest ≡ unit ++ more = append_assoc (header_at v (length (bytes_of v entries))) (entry_bytes v epoch t) (entries_bytes v epoch rest) ∙ same in
    let w : take (length first) (unit ++ more) ≡ first = ap (take (length first)) (sym line) ∙ take_at first (entries_bytes v epoch rest) _ refl in
    let P : List ℕ → Type 0 = Spells (stand_after v entries) t in
    let F : List ℕ → Type 0 = λ x. Faulty (stand_after v entries) x f in
    dead_prefix (stand_after v entries) (unit ++ more) n (length first) f t pending (subst F cut shown)
    (omega (arith, ap length line, length-append first (entries_bytes v epoch rest))) (subst P (sym w) s)

taken_at : (old piece more : List ℕ) (k : ℕ) → k ≤ length piece → take (length old + k) ((old ++ piece) ++ more) ≡ old ++ take k piece
taken_at old piece more k within =
    ap (take (length old + k)) (append_assoc old piece more) ∙ take-add (length old) k (old ++ (piece ++ more))
    ∙ ap (λ t. t ++ take k (drop (length old) (old ++ (piece ++ more)))) (take_at old (piece ++ more) (length old) refl)
    ∙ ap (λ t. old ++ take k t) (drop_at old (piece ++ more) (length old) refl) ∙ ap (λ t. old ++ t) (take-append-le k piece more within)

pub dead : (entries : List Timed) (bytes piece : List ℕ) (r : State) (k : ℕ) (f : LogFault) → HasRead entries bytes r → ShowsFault r.stand r.taken piece k f → BeginsNoLog (bytes ++ take (k + 1) piece)
dead entries bytes piece r k f h shows all v more o =
    let unit : List ℕ = r.taken ++ take (k + 1) piece in
    let first : bytes_of h.version entries ++ (unit ++ more) ≡ (bytes ++ take (k + 1) piece) ++ more =
    sym (append_assoc (bytes_of h.version entries) unit more)
    ∙ ap (λ t. t ++ more) (sym (append_assoc (bytes_of h.version entries) r.taken (take (k + 1) piece)) ∙ ap (λ t. t ++ take (k + 1) piece) h.same) in
    let alike = read_as h.version v entries all (unit ++ more) ((bytes ++ take (k + 1) piece) ++ more) first o in
    let stand = h.stand ∙ alike.stand in
    let I : Position → Type 0 = λ s. IsPending s (r.taken ++ take k piece) in
    let F : Position → Type 0 = λ s. Faulty s (r.taken ++ take (k + 1) piece) f in
    let before = subst I stand shows.before in
    let shown = subst F stand shows.shown in
    let b = following v entries all (unit ++ more) ((bytes ++ take (k + 1) piece) ++ more) h.order alike.same o in
    let some : k + 1 ≤ length piece = omega (arith, shows.within) in
    let size : length (take (k + 1) piece) ≡ k + 1 = length-take-le (k + 1) piece some in
    let complete : r.taken ++ take (k + 1) piece ≡ take (length r.taken + k + 1) ((r.taken ++ take (k + 1) piece) ++ more) =
    sym (take_at (r.taken ++ take (k + 1) piece) more (length r.taken + k + 1) (omega (arith, length-append r.taken (take (k + 1) piece), size))) in
    let shorter : take (length r.taken + k) ((r.taken ++ take (k + 1) piece) ++ more) ≡ r.taken ++ take k piece =
    taken_at r.taken (take (k + 1) piece) more k (omega (arith, size)) ∙ ap (λ t. r.taken ++ t) (take-take k (k + 1) piece (omega arith)) in
    let P : List ℕ → Type 0 = IsPending (stand_after v entries) in
    dead_by v entries b.rest (r.taken ++ take (k + 1) piece) more (length r.taken + k) f h.order complete (subst P (sym shorter) before) shown b.order b.ends b.same

-- one entry more
order_push : (last : ℕ) (b : Bool) (ts : List Timed) (t : Timed) → InOrder last ts → last_cycle last ts ≤ t.cycle → TimedFits t → ended_by b ts ≡ false → InOrder last (ts ++ t ∷ [])
order_push last b [] t h later fits e = (later, fits, ends_none t.what, tt)
order_push last b (u ∷ ts) t h later fits e = (h.0, h.1, going u.what ts (ts ++ t ∷ []) h.2 e, order_push u.cycle (is_end u.what) ts t h.3 later fits e)

last_push : (last : ℕ) (ts : List Timed) (t : Timed) → last_cycle last (ts ++ t ∷ []) ≡ t.cycle
last_push last [] t = refl
last_push last (u ∷ ts) t = last_push u.cycle ts t

ended_push : (b : Bool) (ts : List Timed) (t : Timed) → ended_by b (ts ++ t ∷ []) ≡ is_end t.what
ended_push b [] t = refl
ended_push b (u ∷ ts) t = ended_push (is_end u.what) ts t

bytes_push : (v : Version) (entries : List Timed) (t : Timed)
    → bytes_of v (entries ++ t ∷ []) ≡ bytes_of v entries ++ (header_at v (length (bytes_of v entries)) ++ entry_bytes v (epoch_after (latest_epoch 0 entries) t.what) t)
bytes_push v [] t = ap (λ x. header_bytes v ++ x) (append-nil (entry_bytes v (epoch_after 0 t.what) t))
bytes_push v (u ∷ us) t =
    let e : List ℕ = entry_bytes v (epoch_after (latest_epoch 0 (u ∷ us)) t.what) t in
    ap (λ x. header_bytes v ++ x) (entries_push v 0 (u ∷ us) t)
    ∙ sym (append_assoc (header_bytes v) (entries_bytes v 0 (u ∷ us)) e)
    ∙ ap (λ x. bytes_of v (u ∷ us) ++ (x ++ e)) (sym (no_header v (length (bytes_of v (u ∷ us))) (some_bytes v u us)))

version_push : (v : Version) (entries : List Timed) (t : Timed) → version_after v (entries ++ t ∷ []) ≡ v
version_push v [] t = refl
version_push v (u ∷ us) t = refl

same_stand : (a b a' b' : ℕ) (c c' : Bool) (v v' : Version) (n n' : ℕ) → a ≡ a' → b ≡ b' → c ≡ c' → v ≡ v' → n ≡ n' →
    let s : Position = record { start = a; last = b; ended = c; version = v; epoch = n } in
    let t : Position = record { start = a'; last = b'; ended = c'; version = v'; epoch = n' } in s ≡ t
same_stand a b a' b' c c' v v' n n' e f g h k = cc

pub nothing_pending : (s : Position) → IsPending s []
nothing_pending s = record { no_fault = nothing_shown s; not_complete = let low = need_least s [] in omega (arith, low) }

-- the version after the entries is that of the next
record AsVersion (v w : Version) (entries : List Timed) : Type 0 where
  pub bytes : bytes_of v entries ≡ bytes_of w entries
  pub stand : stand_after v entries ≡ stand_after w entries

as_version : (v w : Version) (entries : List Timed) (bytes : List ℕ) → version_at (stand_after v entries) bytes ≡ w → AsVersion v w entries
as_version v w [] bytes e = record { bytes = refl; stand = refl }
as_version v w (t ∷ ts) bytes e =
    let is : v ≡ w = sym (by (length (bytes_of v (t ∷ ts))) (version_in bytes) (some_bytes v t ts)) ∙ e in
    record { bytes = ap (λ x. bytes_of x (t ∷ ts)) is; stand = ap (λ x. stand_after x (t ∷ ts)) is }
  where
    by : (n : ℕ) (u : Version) → 0 < n → (if n == 0 then u else v) ≡ v
    by n u some = grind (arith, nat_tests)

entry_more : (entries : List Timed) (bytes piece : List ℕ) (r new : State) (used : ℕ) (t : Timed) → HasRead entries bytes r → EndsEntry r.stand r.taken piece used t
    → new ≡ after r.stand (r.taken ++ take used piece) t → HasRead (entries ++ t ∷ []) (bytes ++ take used piece) new
entry_more entries bytes piece r new used t h e is =
    let w : Version = e.spells.version in
    let unit : List ℕ = r.taken ++ take used piece in
    let alike = as_version h.version w entries unit (ap (λ s. version_at s unit) (sym h.stand) ∙ e.spells.here) in
    let stand : r.stand ≡ stand_after w entries = h.stand ∙ alike.stand in
    let S : Position → Type 0 = λ s. Spells s t unit in
    let spells = subst S stand e.spells in
    let epoch : ℕ = epoch_after (latest_epoch 0 entries) t.what in
    let same : header_at w (length (bytes_of w entries)) ++ entry_bytes w epoch t ≡ unit =
    ap (λ (s : Position). header_at w s.start ++ entry_bytes w (epoch_after s.epoch t.what) t) (sym stand) ∙ e.spells.same in
    let whole : bytes_of w (entries ++ t ∷ []) ≡ bytes_of w entries ++ unit = bytes_push w entries t ∙ ap (λ x. bytes_of w entries ++ x) same in
    let all : bytes_of w entries ++ unit ≡ bytes ++ take used piece =
    ap (λ x. x ++ unit) (sym alike.bytes) ∙ sym (append_assoc (bytes_of h.version entries) r.taken (take used piece)) ∙ ap (λ x. x ++ take used piece) h.same in
    let start : r.stand.start + length unit ≡ length (bytes_of w (entries ++ t ∷ [])) = omega (arith, ap (λ (s : Position). s.start) stand, ap length whole, length-append (bytes_of w entries) unit) in
    record {
      version = w;
      order = order_push 0 false entries t h.order spells.later spells.fits spells.going_on;
      same = ap (λ (n : State). bytes_of w (entries ++ t ∷ []) ++ n.taken) is ∙ append-nil (bytes_of w (entries ++ t ∷ [])) ∙ whole ∙ all;
      stand = ap (λ (n : State). n.stand) is ∙ same_stand (r.stand.start + length unit) t.cycle _ _ (is_end t.what) _ (version_at r.stand unit) _ (epoch_after r.stand.epoch t.what) _
          start (sym (last_push 0 entries t)) (sym (ended_push false entries t)) (e.spells.here ∙ sym (version_push w entries t))
          (ap (λ (s : Position). epoch_after s.epoch t.what) stand ∙ sym (latest_append 0 entries (t ∷ [])));
      no_fault = ap (λ (n : State). n.fault) is;
      pending = let P : State → Type 0 = λ n. IsPending n.stand n.taken in subst P (sym is) (nothing_pending (after r.stand (r.taken ++ take used piece) t).stand);
    }

pub all_read : (entries : List Timed) (bytes piece : List ℕ) (r new : State) → HasRead entries bytes r → new ≡ with_bytes r.stand (r.taken ++ piece) → IsPending r.stand (r.taken ++ piece)
    → HasRead entries (bytes ++ piece) new
all_read entries bytes piece r new h is pending = record {
  version = h.version;
  order = h.order;
  same = ap (λ (n : State). bytes_of h.version entries ++ n.taken) is ∙ sym (append_assoc (bytes_of h.version entries) r.taken piece) ∙ ap (λ t. t ++ piece) h.same;
  stand = ap (λ (n : State). n.stand) is ∙ h.stand;
  no_fault = ap (λ (n : State). n.fault) is;
  pending = let P : State → Type 0 = λ n. IsPending n.stand n.taken in subst P (sym is) pending;
}

reads_to : (entries : List Timed) (bytes piece : List ℕ) (r new : State) (used : ℕ) (entry : Option Timed) → HasRead entries bytes r → FeedsTo r.stand r.taken piece used entry new
    → ReadsTo entries bytes piece used entry new
reads_to entries bytes piece r new used None h f = all_read entries bytes piece r new h f.1 f.2
reads_to entries bytes piece r new used (Some t) h f = entry_more entries bytes piece r new used t h f.0 f.1

-- what a piece makes of what was read
pub reads_on : (entries : List Timed) (bytes piece : List ℕ) (r new : State) (result : Result LogFed LogFault) → HasRead entries bytes r → Feeds r.stand r.taken piece result new
    → ReadsOn entries bytes piece result new
reads_on entries bytes piece r new (Ok fed) h f = reads_to entries bytes piece r new fed.used fed.entry h f.0
reads_on entries bytes piece r new (Err g) h f = (f.0.0, f.0.1.within, dead entries bytes piece r f.0.0 g h f.0.1)

-- in a log each entry is the next
pub log_begins : (entries all : List Timed) (v : Version) (bytes more : List ℕ) (r : State) → HasRead entries bytes r → LogOpens all v (bytes ++ more) → Subsequent v entries all (r.taken ++ more)
log_begins entries all v bytes more r h o =
    let first = sym (append_assoc (bytes_of h.version entries) r.taken more) ∙ ap (λ t. t ++ more) h.same in
    let alike = read_as h.version v entries all (r.taken ++ more) (bytes ++ more) first o in
    following v entries all (r.taken ++ more) (bytes ++ more) h.order alike.same o

split_at : (bytes piece more : List ℕ) (k : ℕ) → bytes ++ (piece ++ more) ≡ (bytes ++ take k piece) ++ (drop k piece ++ more)
split_at bytes piece more k =
    ap (λ t. bytes ++ (t ++ more)) (sym (take-append-drop k piece)) ∙ ap (λ t. bytes ++ t) (append_assoc (take k piece) (drop k piece) more)
    ∙ sym (append_assoc bytes (take k piece) (drop k piece ++ more))

next_to : (entries all : List Timed) (v : Version) (bytes piece more : List ℕ) (used : ℕ) (entry : Option Timed) (new : State) → ReadsTo entries bytes piece used entry new
    → LogOpens all v (bytes ++ (piece ++ more)) → IsNext all entries entry
next_to entries all v bytes piece more used None new h o = tt
next_to entries all v bytes piece more used (Some t) new h o =
    let P : List ℕ → Type 0 = LogOpens all v in
    let b = log_begins (entries ++ t ∷ []) all v (bytes ++ take used piece) (drop used piece ++ more) new h (subst P (split_at bytes piece more used) o) in
    (b.rest, b.all_is)

pub gives_next : (entries all : List Timed) (v : Version) (bytes piece more : List ℕ) (result : Result LogFed LogFault) (new : State) → ReadsOn entries bytes piece result new
    → LogOpens all v (bytes ++ (piece ++ more)) → GivesNext all entries result
gives_next entries all v bytes piece more (Ok fed) new h o = next_to entries all v bytes piece more fed.used fed.entry new h o
gives_next entries all v bytes piece more (Err f) new h o = let P : List ℕ → Type 0 = LogOpens all v in h.2 all v (drop (h.0 + 1) piece ++ more) (subst P (split_at bytes piece more (h.0 + 1)) o)
