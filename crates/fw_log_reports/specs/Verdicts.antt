-- What an audit makes of a log.
use Rattle.std.proofs.Common.{◌≡◌, ◌+◌, List, [], ◌∷◌, ◌++◌, Option, Some, None, length, refl, ap, subst, ◌∙◌}
use Rattle.fw_log_entry.specs.declared.entry.Timed.{Timed}
use Rattle.fw_model_account.specs.Fold.{entries_of}
use Rattle.fw_model_audit.specs.Audited.{IsAudited, EndsFaulty}
use Rattle.fw_audit.specs.Found.{Found}
use Rattle.fw_audit.proofs.Audits.{never_audited}
use Rattle.fw_log_loop.specs.Readings.{Rules, IsAccepted}
use Rattle.fw_audit.specs.Unjudged.{unjudged, Tallies}
use Rattle.fw_log_reports.specs.Texts.{sound_text}
use Rattle.fw_log_reports.specs.declared.refusal.Unsound.{Unsound}
use Rattle.fw_log_reports.specs.declared.refusal.LogRefusal.{LogRefusal}
use Rattle.fw_log_reports.specs.declared.refusal.LogRefusal.TheVariants.{Audit}
use Rattle.fw_log_reports.specs.declared.verdict.Verdict.{Verdict}

-- no entry has a fault
abbrev pub IsSoundLog : List Timed → Type 0
IsSoundLog entries = IsAudited (entries_of entries)

-- the last entry is the first that has a fault, with its number, the first fault that it has, and how many locks up to it no audit judges
pub record IsUnsound (entries : List Timed) (u : Unsound) : Type 0 where
  pub last : length entries ≡ u.entry + 1
  pub faulty : EndsFaulty (entries_of entries) u.fault
  pub locks : u.unjudged ≡ unjudged entries

-- an audit refuses a log with that, and with nothing else
abbrev pub RejectsUnsound : List Timed → LogRefusal → Type 0
RejectsUnsound entries (Audit unsound) = IsUnsound entries unsound
RejectsUnsound entries _ = ⊥

-- the first entry that has a fault refuses the log, and at the end of one in which none has their number is written, with that of the locks
-- that no audit judges
abbrev pub audit_rules : Rules LogRefusal
audit_rules = record { accepts = IsSoundLog; rejects = RejectsUnsound; closes = λ entries text. text ≡ sound_text (length entries) (unjudged entries); refuses = λ entries refusal. ⊥; completes = IsSoundLog }

-- these entries were taken, and none has a fault
pub record Audits (v : Verdict) (entries : List Timed) : Type 0 where
  pub tally : Tallies v.tally entries
  pub sound : v.audit.fault ≡ None
  pub found : Found (entries_of entries) v.audit None

-- of the entries none has a fault, or the last has the first
abbrev pub Judges : Verdict → List Timed → Option LogRefusal → Type 0
Judges v entries None = Audits v entries
Judges v entries (Some refusal) = RejectsUnsound entries refusal

-- the entries that were taken have no fault
pub audits_accepted : (v : Verdict) (entries : List Timed) → Audits v entries → IsSoundLog entries
audits_accepted v entries a = a.found.audited

pub entries_more : (xs ys : List Timed) → entries_of (xs ++ ys) ≡ entries_of xs ++ entries_of ys
entries_more [] ys = refl
entries_more (x ∷ xs) ys = ap (λ es. x.what ∷ es) (entries_more xs ys)

never_rejected : (entries prefix rest : List Timed) (refusal : LogRefusal) → IsSoundLog entries → entries ≡ prefix ++ rest → RejectsUnsound prefix refusal → ⊥
never_rejected entries prefix rest (Audit u) sound is r =
    let parts : entries_of entries ≡ entries_of prefix ++ entries_of rest = ap entries_of is ∙ entries_more prefix rest in
    never_audited (entries_of prefix) (entries_of rest) u.fault r.faulty (subst IsAudited parts sound)
never_rejected entries prefix rest _ sound is r = r

-- a log in which no entry has a fault is not refused
pub sound_unrefused : (entries : List Timed) → IsSoundLog entries → IsAccepted audit_rules entries
sound_unrefused entries sound = record { entry = λ prefix rest refusal is r. never_rejected entries prefix rest refusal sound is r; end = λ refusal r. r }
