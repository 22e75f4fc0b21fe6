-- How the bytes of entries are told of.
use Rattle.std.proofs.Common.{◌≡◌, ℕ, suc, List, [], ◌∷◌, ◌++◌, length, take, drop, Option, Some, None, refl, ap, sym, ◌∙◌, arith, append-nil, append_assoc}
use Rattle.std.proofs.lemmas.List.Concat.{flat_map-append}
use Rattle.std.proofs.Math.Seq.{take-append_seam, drop-append_seam}
use Rattle.std.specs.List.{All}
use Rattle.fw_log_entry.specs.Log.{epoch_after, entry_bytes, entries_bytes, TimedFits}
use Rattle.fw_log_entry.specs.declared.version.Version.TheVariants.{Two}
use Rattle.fw_log_entry.specs.declared.entry.Entry.{Entry}
use Rattle.fw_log_entry.specs.declared.entry.Entry.TheVariants as Entries
use Rattle.fw_log_entry.specs.declared.entry.Timed.{Timed}
use Rattle.fw_explore_told.specs.declared.past.ToldEntry.{ToldEntry}
use Rattle.fw_explore_told.specs.Histories.{told_in, first_of, told_entries, with_one}

-- ---- one entry more

one_more : (said : List ToldEntry) (e : Entry) → with_one said (first_of (told_in e)) ≡ said ++ told_in e
one_more said (Entries.Reset r) = sym (append-nil said)
one_more said (Entries.Async p) = sym (append-nil said)
one_more said (Entries.Iso p) = sym (append-nil said)
one_more said (Entries.Event e) = refl
one_more said (Entries.Outcome o) = refl
one_more said (Entries.Shown s) = refl
one_more said Entries.End = sym (append-nil said)

more_told : (done : List Timed) (t : Timed) → told_entries (done ++ t ∷ []) ≡ told_entries done ++ told_in t.what
more_told done t = flat_map-append (λ (u : Timed). told_in u.what) done (t ∷ []) ∙ ap (λ z. told_entries done ++ z) (append-nil (told_in t.what))

-- ---- entry after entry

-- Part of the way through the bytes of entries: those after the first are still to be told of.
pub record Walked (said : List ToldEntry) (more : List Timed) (rest : List ℕ) (now : List ToldEntry) : Type 0 where
  pub done : List Timed
  pub left : List Timed
  pub epoch : ℕ
  pub parts : more ≡ done ++ left
  pub fit : All TimedFits left
  pub bytes : rest ≡ entries_bytes Two epoch left
  pub told : now ≡ said ++ told_entries done

pub walked_none : (said : List ToldEntry) (more : List Timed) (epoch : ℕ) (rest : List ℕ) → All TimedFits more → rest ≡ entries_bytes Two epoch more → Walked said more rest said
walked_none said more epoch rest fit e = record { done = []; left = more; epoch = epoch; parts = refl; fit = fit; bytes = e; told = sym (append-nil said) }

first_fits : (t : Timed) (ts : List Timed) → All TimedFits (t ∷ ts) → TimedFits t
first_fits t ts fit = fit 0 t (omega arith)

others_fit : (t : Timed) (ts : List Timed) → All TimedFits (t ∷ ts) → All TimedFits ts
others_fit t ts fit = λ k d h. fit (suc k) d (omega (arith, h))

-- the next entry was told of
pub walked_more : {said : List ToldEntry} {more : List Timed} {rest : List ℕ} {now : List ToldEntry} (o : Option ℕ) (size : ℕ) (prefix back : List ℕ) (told : Option ToldEntry) (next : List ToldEntry)
    (w : Walked said more rest now)
    → o ≡ Some size → ((n : ℕ) (t : Timed) (x : List ℕ) → TimedFits t → rest ≡ entry_bytes Two n t ++ x → o ≡ Some (length (entry_bytes Two n t))) → (rest ≡ [] → o ≡ None)
    → prefix ≡ take size rest → back ≡ drop size rest → ((n : ℕ) (t : Timed) → TimedFits t → prefix ≡ entry_bytes Two n t → told ≡ first_of (told_in t.what)) → next ≡ with_one now told
    → Walked said more back next
walked_more {said} {more} {rest} {now} o size prefix back told next w is first none cut_prefix cut_back reads adds = by w.left w.parts w.fit w.bytes
  where
    by : (left : List Timed) → more ≡ w.done ++ left → All TimedFits left → rest ≡ entries_bytes Two w.epoch left → Walked said more back next
    by [] parts fit bytes = let wrong : Some size ≡ None = sym is ∙ none bytes in cc wrong
    by (t ∷ ts) parts fit bytes =
        let n : ℕ = epoch_after w.epoch t.what in
        let same : Some size ≡ Some (length (entry_bytes Two n t)) = sym is ∙ first n t (entries_bytes Two n ts) (first_fits t ts fit) bytes in
        let long : size ≡ length (entry_bytes Two n t) = cc same in
        let head : prefix ≡ entry_bytes Two n t =
        cut_prefix ∙ ap (λ (k : ℕ). take k rest) long ∙ ap (λ (l : List ℕ). take (length (entry_bytes Two n t)) l) bytes
        ∙ take-append_seam (entry_bytes Two n t) (entries_bytes Two n ts) in
        let following : back ≡ entries_bytes Two n ts =
        cut_back ∙ ap (λ (k : ℕ). drop k rest) long ∙ ap (λ (l : List ℕ). drop (length (entry_bytes Two n t)) l) bytes
        ∙ drop-append_seam (entry_bytes Two n t) (entries_bytes Two n ts) in
        record {
          done = w.done ++ t ∷ [];
          left = ts;
          epoch = n;
          parts = parts ∙ sym (append_assoc w.done (t ∷ []) ts);
          fit = others_fit t ts fit;
          bytes = following;
          told = adds ∙ ap (with_one now) (reads n t (first_fits t ts fit) head) ∙ one_more now t.what ∙ ap (λ z. z ++ told_in t.what) w.told
              ∙ append_assoc said (told_entries w.done) (told_in t.what) ∙ ap (λ z. said ++ z) (sym (more_told w.done t));
        }

-- no entry is left
pub walked_all : {said : List ToldEntry} {more : List Timed} {rest : List ℕ} {now : List ToldEntry} (o : Option ℕ) (w : Walked said more rest now)
    → o ≡ None → ((n : ℕ) (t : Timed) (x : List ℕ) → TimedFits t → rest ≡ entry_bytes Two n t ++ x → o ≡ Some (length (entry_bytes Two n t))) → now ≡ said ++ told_entries more
walked_all {said} {more} {rest} {now} o w is first = by w.left w.parts w.fit w.bytes
  where
    by : (left : List Timed) → more ≡ w.done ++ left → All TimedFits left → rest ≡ entries_bytes Two w.epoch left → now ≡ said ++ told_entries more
    by [] parts fit bytes = w.told ∙ ap (λ (l : List Timed). said ++ told_entries l) (sym (parts ∙ append-nil w.done))
    by (t ∷ ts) parts fit bytes =
        let n : ℕ = epoch_after w.epoch t.what in
        let wrong : None ≡ Some (length (entry_bytes Two n t)) = sym is ∙ first n t (entries_bytes Two n ts) (first_fits t ts fit) bytes in
        cc wrong
