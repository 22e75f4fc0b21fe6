-- What the end of the input makes of what was read.
use Rattle.fw_log.proofs.Common.{◌≡◌, ℕ, ◌+◌, ◌≤◌, List, [], ◌∷◌, ◌++◌, ◌==◌, length, Bool, true, false, Option, Some, None, Result, Ok, Err, arith, refl, ap, sym, subst, ◌∙◌, append_assoc}
use Rattle.fw_log.proofs.Common.{length-append, if◌then◌else◌, nat_tests, append-nil, header_bytes, epoch_after, Version, IsPending, skip, fault_at, Position, State, Timed, LogFault, AfterEnd}
use Rattle.std.proofs.lemmas.List.{nil_from_length}
use Rattle.std.specs.Result.{result_err}
use Rattle.fw_log_entry.specs.Log.{latest_epoch, entry_bytes, entries_bytes, is_end, InOrder, HasEnd, LogOpens}
use Rattle.fw_log.specs.Reading.{header_at}
use Rattle.fw_log.specs.Reader.{finish_of, finish_by}
use Rattle.fw_log.specs.History.{bytes_of, last_cycle, ended_by, stand_after, IsLog, HasRead, Finishes}
use Rattle.fw_log.specs.declared.LogWhy.TheVariants.{Cut, NoEnd}
use Rattle.fw_log.proofs.StayLaws.{no_complete_prefix}
use Rattle.fw_log.proofs.SameLaws.{spelled_complete}
use Rattle.fw_log.proofs.FollowingLaws.{read_as, next_spells}
use Rattle.fw_log.proofs.HistoryLaws.{log_begins}

-- the end of the input
end_of : (b : Bool) (ts : List Timed) → ended_by b ts ≡ true → 1 ≤ length ts → HasEnd ts
end_of b [] e some = absurd (omega (arith, some))
end_of b (t ∷ []) e some = e
end_of b (t ∷ u ∷ us) e some = end_of (is_end t.what) (u ∷ us) e (omega arith)

has_end : (b : Bool) (ts : List Timed) → HasEnd ts → ended_by b ts ≡ true
has_end b [] h = absurd h
has_end b (t ∷ []) h = h
has_end b (t ∷ u ∷ us) h = has_end (is_end t.what) (u ∷ us) h

nothing_more : (s : Position) (taken : List ℕ) → IsPending s taken → s.ended ≡ true → taken ≡ []
nothing_more s taken pending e = nil_from_length taken (by s.ended (length taken) _ (fault_at s.start AfterEnd) e pending.no_fault)
  where
    by : (b : Bool) (n : ℕ) (x : Option LogFault) (f : LogFault) → b ≡ true → (if b then (if n == 0 then None else Some f) else x) ≡ None → n ≡ 0
    by b n x f e h = grind (arith, nat_tests)

some_entry : (entries : List Timed) → ended_by false entries ≡ true → 1 ≤ length entries
some_entry [] e = cc e
some_entry (t ∷ ts) e = omega arith

header_too : (v : Version) (entries : List Timed) → 1 ≤ length entries → bytes_of v entries ≡ header_bytes v ++ entries_bytes v 0 entries
header_too v [] some = absurd (omega (arith, some))
header_too v (t ∷ ts) some = refl

log_spelled : (entries : List Timed) (bytes : List ℕ) (r : State) → HasRead entries bytes r → r.stand.ended ≡ true → IsLog entries bytes
log_spelled entries bytes r h e =
    let v : Version = h.version in
    let ended : ended_by false entries ≡ true = sym (ap (λ (s : Position). s.ended) h.stand) ∙ e in
    let some = some_entry entries ended in
    let none = nothing_more r.stand r.taken h.pending e in
    record {
      version = v;
      spells = record {
        opens = record { order = h.order; same = sym (header_too v entries some) ∙ sym (append-nil (bytes_of v entries)) ∙ ap (λ t. bytes_of v entries ++ t) (sym none) ∙ h.same };
        ends = end_of false entries ended some;
      };
    }

only_by : (v : Version) (entries rest : List Timed) (taken : List ℕ) → InOrder 0 entries → IsPending (stand_after v entries) taken → InOrder (last_cycle 0 entries) rest
    → (ended_by false entries ≡ true → rest ≡ [])
    → header_at v (length (bytes_of v entries)) ++ entries_bytes v (latest_epoch 0 entries) rest ≡ taken → rest ≡ []
only_by v entries [] taken before pending order ends same = refl
only_by v entries (t ∷ rest) taken before pending order ends same =
    let s = next_spells v entries rest t before order ends in
    let epoch : ℕ = epoch_after (latest_epoch 0 entries) t.what in
    let first : List ℕ = header_at v (length (bytes_of v entries)) ++ entry_bytes v epoch t in
    let line : taken ≡ first ++ entries_bytes v epoch rest = sym same ∙ sym (append_assoc (header_at v (length (bytes_of v entries))) (entry_bytes v epoch t) (entries_bytes v epoch rest)) in
    let P : List ℕ → Type 0 = IsPending (stand_after v entries) in
    no_complete_prefix (stand_after v entries) first (entries_bytes v epoch rest) (subst P line pending) (spelled_complete (stand_after v entries) t _ s)

only_log : (entries all : List Timed) (v : Version) (bytes : List ℕ) (r : State) → HasRead entries bytes r → LogOpens all v bytes → all ≡ entries
only_log entries all v bytes r h o =
    let P : List ℕ → Type 0 = LogOpens all v in
    let opens = subst P (sym (append-nil bytes)) o in
    let b = log_begins entries all v bytes [] r h opens in
    let first = sym (append_assoc (bytes_of h.version entries) r.taken []) ∙ ap (λ t. t ++ []) h.same in
    let alike = read_as h.version v entries all (r.taken ++ []) (bytes ++ []) first opens in
    let I : Position → Type 0 = λ s. IsPending s r.taken in
    b.all_is ∙ ap (λ t. entries ++ t) (only_by v entries b.rest r.taken h.order (subst I (h.stand ∙ alike.stand) h.pending) b.order b.ends (b.same ∙ append-nil r.taken)) ∙ append-nil entries

abbrev get_place : Option LogFault → ℕ
get_place None = 0
get_place (Some f) = f.place

place_by : (ended : Bool) (n k l : ℕ) (f : LogFault) → (if ended then None else if k == l then Some (fault_at n NoEnd) else Some (fault_at n Cut)) ≡ Some f → f.place ≡ n
place_by true n k l f h = cc h
place_by false n k l f h = by (k == l) h
  where
    by : (b : Bool) → (if b then Some (fault_at n NoEnd) else Some (fault_at n Cut)) ≡ Some f → f.place ≡ n
    by true h = sym (ap (λ o. get_place o) h)
    by false h = sym (ap (λ o. get_place o) h)

finish_clear : (r : State) (x : Option LogFault) → r.fault ≡ None → x ≡ finish_of r → finish_by None r.stand r.taken ≡ x
finish_clear r x none e = ap (λ o. finish_by o r.stand r.taken) (sym none) ∙ sym e

ended_from : (ended : Bool) (n k l : ℕ) → (if ended then None else if k == l then Some (fault_at n NoEnd) else Some (fault_at n Cut)) ≡ None → ended ≡ true
ended_from true n k l h = refl
ended_from false n k l h = by (k == l) h
  where
    by : (b : Bool) → (if b then Some (fault_at n NoEnd) else Some (fault_at n Cut)) ≡ None → false ≡ true
    by true h = cc h
    by false h = cc h

ended_none : (ended : Bool) (x : Option LogFault) (f : LogFault) → ended ≡ true → (if ended then None else x) ≡ Some f → ⊥
ended_none true x f e h = cc h
ended_none false x f e h = cc e

-- what the end of the input makes of what was read
pub finishes : (entries : List Timed) (bytes : List ℕ) (r : State) (result : Result (Unit {0}) LogFault) → HasRead entries bytes r → result_err result ≡ finish_of r → Finishes entries bytes result
finishes entries bytes r (Ok x) h e = record {
  complete = log_spelled entries bytes r h (ended_from r.stand.ended (r.stand.start + length r.taken) (length r.taken) (skip r.stand.start) (finish_clear r None h.no_fault e));
  only = λ all v o. only_log entries all v bytes r h o;
  spelled = λ s. refl;
  place = tt;
}
finishes entries bytes r (Err f) h e =
    let is = finish_clear r (Some f) h.no_fault e in
    record {
      complete = tt;
      only = λ all v o. only_log entries all v bytes r h o;
      spelled = λ s. absurd (ended_none r.stand.ended _ f (ap (λ (s : Position). s.ended) h.stand ∙ has_end false entries s.spells.ends) is);
      place = place_by r.stand.ended (r.stand.start + length r.taken) (length r.taken) (skip r.stand.start) f is
          ∙ omega (arith, ap (λ (s : Position). s.start) h.stand, ap length h.same, length-append (bytes_of h.version entries) r.taken);
    }
