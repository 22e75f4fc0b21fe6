-- What `holders` makes of a log.
use Rattle.std.proofs.Common.{◌≡◌, List, [], ◌∷◌, ◌++◌, refl, ap, sym, ◌∙◌, append_assoc}
use Rattle.std.proofs.lemmas.List.{append-nil}
use Rattle.fw_log_entry.specs.declared.entry.Timed.{Timed}
use Rattle.fw_model_account.specs.Fold.{entries_of, account_of}
use Rattle.fw_audit.specs.Unjudged.{Tallies}
use Rattle.fw_holders.specs.Told.{Holds, holders, table_of, entry_line}
use Rattle.fw_log_loop.specs.Readings.{Form, Rules, IsAccepted, IsEach, bare_form}
use Rattle.fw_log_reports.specs.Verdicts.{IsSoundLog, RejectsUnsound, sound_unrefused}
use Rattle.fw_log_reports.specs.declared.holding.Holding.{Holding}
use Rattle.fw_log_reports.specs.declared.refusal.LogRefusal.{LogRefusal}

-- the lines of entries as they end, after these
abbrev pub holders_form : Form
holders_form = bare_form [] holders

-- it refuses what an audit refuses, and closes with the table
abbrev pub holders_rules : Rules LogRefusal
holders_rules = record { accepts = IsSoundLog; rejects = RejectsUnsound; closes = λ entries text. text ≡ table_of entries; refuses = λ entries refusal. ⊥; completes = IsSoundLog }

-- these entries were taken, and none has a fault
pub record Takes (v : Holding) (entries : List Timed) : Type 0 where
  pub tally : Tallies v.tally entries
  pub holds : Holds entries v.holders

-- one entry more was taken, and its line was appended, if it has one
pub record TakesText (entries : List Timed) (t : Timed) (old new : Holding) : Type 0 where
  pub takes : Takes new (entries ++ t ∷ [])
  pub text : new.holders.text ≡ old.holders.text ++ holders entries (t ∷ [])

pub takes_accepted : (v : Holding) (entries : List Timed) → Takes v entries → IsSoundLog entries
takes_accepted v entries t = t.holds.audited

pub held_unrefused : (entries : List Timed) → IsSoundLog entries → IsAccepted holders_rules entries
held_unrefused entries sound = let inner = sound_unrefused entries sound in record { entry = inner.entry; end = λ refusal r. r }

holders_more : (xs ys zs : List Timed) → holders xs (ys ++ zs) ≡ holders xs ys ++ holders (xs ++ ys) zs
holders_more xs [] zs = ap (λ before. holders before zs) (sym (append-nil xs))
holders_more xs (y ∷ ys) zs =
    let rest = holders_more (xs ++ y ∷ []) ys zs in
    let before : (xs ++ y ∷ []) ++ ys ≡ xs ++ y ∷ ys = append_assoc xs (y ∷ []) ys in
    let first = entry_line (account_of (entries_of xs)) y in
    ap (λ l. first ++ l) (rest ∙ ap (λ b. holders (xs ++ y ∷ []) ys ++ holders b zs) before)
    ∙ sym (append_assoc first (holders (xs ++ y ∷ []) ys) (holders (xs ++ y ∷ ys) zs))

-- what `holders` writes is a line for each entry that has one, over the account of the entries before it
pub holders_each : IsEach (holders_form.text)
holders_each = record { none = λ xs. refl; more = holders_more }
