-- Converting there and back.
use Rattle.std.proofs.Common.{◌≡◌, ℕ, List, ◌++◌, ap, sym, subst, ◌∙◌}
use Rattle.std.proofs.lemmas.List.{append-nil}
use Rattle.fw_log_entry.specs.Log.{header_bytes, entries_bytes, LogOpens, LogSpells}
use Rattle.fw_log_entry.specs.declared.entry.Timed.{Timed}
use Rattle.fw_log_entry.specs.declared.version.Version.{Version}
use Rattle.fw_log.specs.History.{IsLog}
use Rattle.fw_log.proofs.FollowingLaws.{one_log}
use Rattle.fw_log_loop.proofs.Completions.{told_end}
use Rattle.fw_log_words.specs.Converting.{Converts}

-- what was written is the log of the entries in the version
wrote : (v : Version) (bytes out : List ℕ) → Converts v bytes out → (entries : List Timed) × IsLog entries bytes × (out ≡ header_bytes v ++ entries_bytes v 0 entries)
wrote v bytes out (left, d) =
    let same = told_end bytes d.read.bytes left d.read.taken d.read.end in
    let P : List ℕ → Type 0 = IsLog d.entries in
    (d.entries, subst P same d.read.log, d.grew ∙ (ap (λ (x : List ℕ). (header_bytes v ++ entries_bytes v 0 d.entries) ++ x) d.closed ∙ append-nil (header_bytes v ++ entries_bytes v 0 d.entries)))

pub converts_back : (v w : Version) (entries : List Timed) (bytes out back : List ℕ) → LogSpells entries w bytes → Converts v bytes out → Converts w out back → back ≡ bytes
converts_back v w entries bytes out back s there again =
    let a = wrote v bytes out there in
    let b = wrote w out back again in
    let first : entries ≡ a.0 = (one_log w a.1.version entries a.0 bytes s.opens a.1.spells.opens).1 in
    let opens : LogOpens a.0 v out = record { order = a.1.spells.opens.order; same = sym a.2 } in
    let second : a.0 ≡ b.0 = (one_log v b.1.version a.0 b.0 out opens b.1.spells.opens).1 in
    b.2 ∙ (ap (λ (es : List Timed). header_bytes w ++ entries_bytes w 0 es) (sym (first ∙ second)) ∙ s.opens.same)
