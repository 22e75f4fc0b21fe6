-- How the bytes of entries are counted.
use Rattle.std.proofs.Common.{◌≡◌, ℕ, suc, ◌+◌, ◌^◌, ◌≤◌, List, [], ◌∷◌, ◌++◌, length, take, drop, flat_map}
use Rattle.std.proofs.Common.{Option, Some, None, Bool, true, false, if◌then◌else◌, refl, ap, sym, subst, ◌∙◌, arith, length-append, append-nil, append_assoc}
use Rattle.std.proofs.lemmas.Grind.{flat_map-append}
use Rattle.std.proofs.lemmas.List.Sums.{sum_by-append}
use Rattle.std.proofs.Math.Seq.{take-append_seam, drop-append_seam}
use Rattle.std.specs.List.{All, count_by}
use Rattle.fw_log_entry.specs.Log.{epoch_after, entry_bytes, entries_bytes, TimedFits}
use Rattle.fw_log_entry.specs.declared.version.Version.TheVariants.{Two}
use Rattle.fw_log_entry.specs.declared.entry.Entry.{Entry}
use Rattle.fw_log_entry.specs.declared.entry.Entry.TheVariants as Entries
use Rattle.fw_log_entry.specs.declared.entry.Timed.{Timed}
use Rattle.fw_script_gen.specs.declared.tally.Counted.{Counted}
use Rattle.fw_script_gen.specs.declared.tally.Counted.TheVariants.{Connected, Restored, Refused, Shown}
use Rattle.fw_script_gen.specs.declared.tally.Tally.{Tally}
use Rattle.fw_script_gen.specs.Counted.{is_reset, is_outcome, is_connected, is_restored, is_other, words_in, last_of}
use Rattle.fw_script_gen.specs.Summary.{Counts, counted_in, counted_outcome}

-- ---- one entry more

last_after : (ws : List ℕ) (w : ℕ) → last_of (ws ++ w ∷ []) ≡ w
last_after [] w = refl
last_after (v ∷ []) w = refl
last_after (v ∷ u ∷ us) w = last_after (u ∷ us) w

-- an entry that shows a word is no other that is counted
record IsShown (e : Entry) (w : ℕ) : Type 0 where
  pub words : words_in e ≡ w ∷ []
  pub reset : is_reset e ≡ false
  pub outcome : (test : ℕ → Bool) → is_outcome test e ≡ false

no_outcome : (code w : ℕ) → Shown w ≡ counted_outcome code → ⊥
no_outcome code w e = by (is_connected code) (is_restored code) e
  where
    by : (a b : Bool) → Shown w ≡ (if a then Connected else if b then Restored else Refused) → ⊥
    by true b e = cc
    by false true e = cc
    by false false e = cc

is_shown : (e : Entry) (w : ℕ) → Shown w ≡ counted_in e → IsShown e w
is_shown (Entries.Reset r) w e = absurd cc
is_shown (Entries.Async p) w e = absurd cc
is_shown (Entries.Iso p) w e = absurd cc
is_shown (Entries.Event v) w e = absurd cc
is_shown (Entries.Outcome o) w e = absurd (no_outcome o.code w e)
is_shown (Entries.Shown s) w e = let same : s.word ≡ w = cc in record { words = ap (λ (n : ℕ). n ∷ []) same; reset = refl; outcome = λ test. refl }
is_shown Entries.End w e = absurd cc

none_more : (test : Timed → Bool) (log : List Timed) (t : Timed) → test t ≡ false → count_by test log ≡ count_by test (log ++ t ∷ [])
none_more test log t e =
    let sum : count_by test (log ++ t ∷ []) ≡ count_by test log + count_by test (t ∷ []) = sum_by-append _ log (t ∷ []) in
    let none : count_by test (t ∷ []) ≡ 0 = rw e refl in
    omega (arith, sum, none)

pub counts_shown : (log : List Timed) (t : Timed) (w : ℕ) (old new : Tally) → Shown w ≡ counted_in t.what → Counts log old
    → new ≡ record { resets = old.resets; connected = old.connected; restored = old.restored; refused = old.refused; remainder = w } → Counts (log ++ t ∷ []) new
counts_shown log t w old new e h is =
    let s = is_shown t.what w e in
    rw is (record {
      resets = h.resets ∙ none_more (λ (x : Timed). is_reset x.what) log t s.reset;
      connected = h.connected ∙ none_more (λ (x : Timed). is_outcome is_connected x.what) log t (s.outcome is_connected);
      restored = h.restored ∙ none_more (λ (x : Timed). is_outcome is_restored x.what) log t (s.outcome is_restored);
      refused = h.refused ∙ none_more (λ (x : Timed). is_outcome is_other x.what) log t (s.outcome is_other);
      remainder = sym (ap last_of (flat_map-append (λ (x : Timed). words_in x.what) log (t ∷ [])
          ∙ ap (λ (ws : List ℕ). flat_map (λ (x : Timed). words_in x.what) log ++ ws) (append-nil (words_in t.what) ∙ s.words)) ∙ last_after (flat_map (λ (x : Timed). words_in x.what) log) w);
    })

-- ---- entry after entry

-- Part of the way through the bytes of entries: those after the first are still to be counted.
pub record Walked (log more : List Timed) (rest : List ℕ) (tally : Tally) : Type 0 where
  pub done : List Timed
  pub left : List Timed
  pub epoch : ℕ
  pub parts : more ≡ done ++ left
  pub fit : All TimedFits left
  pub bytes : rest ≡ entries_bytes Two epoch left
  pub counts : Counts (log ++ done) tally

first_fits : (t : Timed) (ts : List Timed) → All TimedFits (t ∷ ts) → TimedFits t
first_fits t ts fit = fit 0 t (omega arith)

others_fit : (t : Timed) (ts : List Timed) → All TimedFits (t ∷ ts) → All TimedFits ts
others_fit t ts fit = λ k d h. fit (suc k) d (omega (arith, h))

-- the next entry was counted
pub walked_more : {log more : List Timed} {rest : List ℕ} {tally : Tally} (o : Option ℕ) (size : ℕ) (prefix back : List ℕ) (counted : Counted) (next : Tally) (w : Walked log more rest tally)
    → o ≡ Some size → ((n : ℕ) (t : Timed) (x : List ℕ) → TimedFits t → rest ≡ entry_bytes Two n t ++ x → o ≡ Some (length (entry_bytes Two n t))) → (rest ≡ [] → o ≡ None)
    → prefix ≡ take size rest → back ≡ drop size rest → ((n : ℕ) (t : Timed) → TimedFits t → prefix ≡ entry_bytes Two n t → counted ≡ counted_in t.what)
    → ((so : List Timed) (t : Timed) → counted ≡ counted_in t.what → Counts so tally → Counts (so ++ t ∷ []) next) → Walked log more back next
walked_more {log} {more} {rest} {tally} o size prefix back counted next w is first none cut_prefix cut_back reads counts = by w.left w.parts w.fit w.bytes
  where
    by : (left : List Timed) → more ≡ w.done ++ left → All TimedFits left → rest ≡ entries_bytes Two w.epoch left → Walked log more back next
    by [] parts fit bytes = let wrong : Some size ≡ None = sym is ∙ none bytes in cc wrong
    by (t ∷ ts) parts fit bytes =
        let n : ℕ = epoch_after w.epoch t.what in
        let same : Some size ≡ Some (length (entry_bytes Two n t)) = sym is ∙ first n t (entries_bytes Two n ts) (first_fits t ts fit) bytes in
        let long : size ≡ length (entry_bytes Two n t) = cc same in
        let head : prefix ≡ entry_bytes Two n t = cut_prefix ∙ ap (λ (k : ℕ). take k rest) long ∙ ap (λ (l : List ℕ). take (length (entry_bytes Two n t)) l) bytes
        ∙ take-append_seam (entry_bytes Two n t) (entries_bytes Two n ts) in
        let following : back ≡ entries_bytes Two n ts = cut_back ∙ ap (λ (k : ℕ). drop k rest) long ∙ ap (λ (l : List ℕ). drop (length (entry_bytes Two n t)) l) bytes
        ∙ drop-append_seam (entry_bytes Two n t) (entries_bytes Two n ts) in
        record {
          done = w.done ++ t ∷ [];
          left = ts;
          epoch = n;
          parts = parts ∙ sym (append_assoc w.done (t ∷ []) ts);
          fit = others_fit t ts fit;
          bytes = following;
          counts = subst (λ (l : List Timed). Counts l next) (append_assoc log w.done (t ∷ [])) (counts (log ++ w.done) t (reads n t (first_fits t ts fit) head) w.counts);
        }

-- no entry is left
pub walked_all : {log more : List Timed} {rest : List ℕ} {tally : Tally} (o : Option ℕ) (w : Walked log more rest tally)
    → o ≡ None → ((n : ℕ) (t : Timed) (x : List ℕ) → TimedFits t → rest ≡ entry_bytes Two n t ++ x → o ≡ Some (length (entry_bytes Two n t))) → Counts (log ++ more) tally
walked_all {log} {more} {rest} {tally} o w is first = by w.left w.parts w.fit w.bytes
  where
    by : (left : List Timed) → more ≡ w.done ++ left → All TimedFits left → rest ≡ entries_bytes Two w.epoch left → Counts (log ++ more) tally
    by [] parts fit bytes = subst (λ (l : List Timed). Counts (log ++ l) tally) (sym (parts ∙ append-nil w.done)) w.counts
    by (t ∷ ts) parts fit bytes = let n : ℕ = epoch_after w.epoch t.what in
        let wrong : None ≡ Some (length (entry_bytes Two n t)) = sym is ∙ first n t (entries_bytes Two n ts) (first_fits t ts fit) bytes in cc wrong

-- a count is full only after so many entries
pub walked_full : {log more : List Timed} {rest : List ℕ} {tally : Tally} (o : Option ℕ) (size : ℕ) (prefix : List ℕ) (counted : Counted) (w : Walked log more rest tally)
    → o ≡ Some size → ((n : ℕ) (t : Timed) (x : List ℕ) → TimedFits t → rest ≡ entry_bytes Two n t ++ x → o ≡ Some (length (entry_bytes Two n t))) → (rest ≡ [] → o ≡ None)
    → prefix ≡ take size rest → ((n : ℕ) (t : Timed) → TimedFits t → prefix ≡ entry_bytes Two n t → counted ≡ counted_in t.what)
    → ((so : List Timed) (t : Timed) → counted ≡ counted_in t.what → Counts so tally → 2 ^ 64 ≤ length so + 1) → 2 ^ 64 ≤ length (log ++ more)
walked_full {log} {more} {rest} {tally} o size prefix counted w is first none cut_prefix reads full = by w.left w.parts w.fit w.bytes
  where
    by : (left : List Timed) → more ≡ w.done ++ left → All TimedFits left → rest ≡ entries_bytes Two w.epoch left → 2 ^ 64 ≤ length (log ++ more)
    by [] parts fit bytes = let wrong : Some size ≡ None = sym is ∙ none bytes in cc wrong
    by (t ∷ ts) parts fit bytes =
        let n : ℕ = epoch_after w.epoch t.what in
        let same : Some size ≡ Some (length (entry_bytes Two n t)) = sym is ∙ first n t (entries_bytes Two n ts) (first_fits t ts fit) bytes in
        let long : size ≡ length (entry_bytes Two n t) = cc same in
        let head : prefix ≡ entry_bytes Two n t = cut_prefix ∙ ap (λ (k : ℕ). take k rest) long ∙ ap (λ (l : List ℕ). take (length (entry_bytes Two n t)) l) bytes
        ∙ take-append_seam (entry_bytes Two n t) (entries_bytes Two n ts) in
        let many = full (log ++ w.done) t (reads n t (first_fits t ts fit) head) w.counts in
        let size : length more ≡ length (w.done ++ t ∷ ts) = ap (λ (l : List Timed). length l) parts in
        omega (arith, many, size, length-append log more, length-append log w.done, length-append w.done (t ∷ ts))
