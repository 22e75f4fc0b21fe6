-- The first fault of an entry after which the account goes on.
use Rattle.fw_log_entry.specs.declared.entry.Entry.{Entry}
use Rattle.fw_log_entry.specs.declared.entry.Entry.TheVariants.{Reset, Async, Iso, Event, Outcome, Shown, End}
use Rattle.fw_async.specs.declared.packet.Packet.{Packet}
use Rattle.fw_async.specs.declared.packet.Packet.TheVariants.{WriteQuadlet, WriteBlock, WriteReply, ReadQuadlet, ReadBlock, ReadQuadletReply, ReadBlockReply, CycleStart, Lock, LockReply}
use Rattle.fw_terms.specs.declared.label.Label.TheVariants.{Procedure}
use Rattle.fw_terms.specs.Labels.{label_code}
use Rattle.fw_log_entry.specs.declared.entry.ShownEntry.{ShownEntry}
use Rattle.std.proofs.Common.{◌≡◌, ℕ, ◌==◌, Bool, true, false, Option, Some, None, refl, ap, sym, subst, ◌∙◌, cond}
use Rattle.std.proofs.lemmas.Option.{same_Some}
use Rattle.fw_model_account.specs.Account.{Account}
use Rattle.fw_model_account.specs.Fold.{next_account}
use Rattle.fw_model_account.specs.Sound.{IsSound}
use Rattle.fw_account_tables.specs.Stands.{StandsFor}
use Rattle.fw_ledger.specs.Refused.{IsAnswered, ShowsAnswer, GoesOn}
use Rattle.fw_ledger.specs.declared.answer.Answer.{Answer}
use Rattle.fw_account_tables.specs.declared.tables.Tables.{Tables}
use Rattle.fw_model_audit.specs.Looked.{Response, Looked, Asks, Replies, Shows, Happens, Other, looked, looked_packet, ShowsWords}
use Rattle.fw_model_audit.specs.Faults.{HasNoFault, IsVerdict}
use Rattle.fw_model_audit.specs.Judged.{judged, unmoved, found_after}
use Rattle.fw_model_audit.specs.declared.fault.AuditFault.{AuditFault}
use Rattle.fw_model_audit.proofs.Verdicts.{first_verdict, no_fault}
use Rattle.fw_audit.specs.Found.{StandsAfter}
use Rattle.fw_audit.proofs.AnswerLaws.{clash}

found_on : (o : Option AuditFault) (m : Account) (last : Option AuditFault) → found_after o (Some m) last ≡ o
found_on None m last = refl
found_on (Some f) m last = refl

-- the account goes on, and the tables with it
pub goes_after : (new : Tables) (l : Account) (e : Entry) → GoesOn new (next_account l e) → StandsAfter new l e
goes_after new l e goes = go (next_account l e) refl goes
  where
    go : (o : Option Account) → next_account l e ≡ o → GoesOn new o → (m : Account) × (next_account l e ≡ Some m) × StandsFor new m
    go None is h = absurd h
    go (Some m) is h = (m, is, h)

-- the verdict is the one on what is looked at
pub goes_verdict : (l : Account) (e : Entry) (o : Option AuditFault) (m : Account) → IsSound l → next_account l e ≡ Some m → o ≡ judged l (looked e) → IsVerdict l (looked e) o
goes_verdict l e o m s next is =
    subst (IsVerdict l (looked e)) (sym (is ∙ sym (ap (λ n. found_after (judged l (looked e)) n (unmoved l (looked e))) next ∙ found_on (judged l (looked e)) m (unmoved l (looked e)))))
    (first_verdict l e s)

pub shown_verdict : (l : Account) (s : ShownEntry) (o : Option AuditFault) → IsSound l → o ≡ judged l (Shows s) → IsVerdict l (Shows s) o
shown_verdict l s o sound is = goes_verdict l (Shown s) o l sound refl is

pub answer_verdict : (l : Account) (e : Entry) (a : Answer) (o : Option AuditFault) (new : Tables) → IsSound l → GoesOn new (next_account l e) → ShowsAnswer l (looked e) (Some a)
    → ((r : Response) → IsAnswered l r a → o ≡ judged l (Replies r)) → IsVerdict l (looked e) o
answer_verdict l e a o new s goes shows says = let y = goes_after new l e goes in goes_verdict l e o y.0 s y.1 (go (looked e) shows)
  where
    go : (x : Looked) → ShowsAnswer l x (Some a) → o ≡ judged l x
    go (Asks id) h = absurd (clash a (sym h))
    go (Replies r) h = let one : a ≡ h.0 = same_Some a h.0 h.1 in says r (subst (IsAnswered l r) (sym one) h.2)
    go (Shows k) h = absurd (clash a (sym h))
    go (Happens k) h = absurd (clash a (sym h))
    go Other h = absurd (clash a (sym h))

-- a packet that is no answer shows no word
packet_words : (l : Account) (p : Packet) → ShowsAnswer l (looked_packet p) None → ShowsWords l (looked_packet p)
packet_words l p h = go p h
  where
    asks : (id : ℕ) (b : Bool) → ShowsWords l (cond b (Asks id) Other)
    asks id true = tt
    asks id false = tt

    replies : (r : Response) (b : Bool) → ShowsAnswer l (cond b (Replies r) Other) None → ShowsWords l (cond b (Replies r) Other)
    replies r true h = absurd (clash h.0 h.1)
    replies r false h = tt

    go : (p : Packet) → ShowsAnswer l (looked_packet p) None → ShowsWords l (looked_packet p)
    go (WriteQuadlet h offset value) n = tt
    go (WriteBlock h offset bytes) n = tt
    go (WriteReply h rcode) n = tt
    go (ReadQuadlet h offset) n = asks h.source (h.tl == label_code Procedure)
    go (ReadBlock h offset len) n = tt
    go (ReadQuadletReply h rcode value) n = replies _ (h.tl == label_code Procedure) n
    go (ReadBlockReply h rcode bytes) n = tt
    go (CycleStart h offset time) n = tt
    go (Lock h offset function bytes) n = asks h.source (h.tl == label_code Procedure)
    go (LockReply h rcode function bytes) n = replies _ (h.tl == label_code Procedure) n

-- an entry that is no answer and no shown word has no fault
pub no_answer_verdict : (l : Account) (e : Entry) (new : Tables) → IsSound l → GoesOn new (next_account l e) → ShowsAnswer l (looked e) None → ((s : ShownEntry) → e ≡ Shown s → ⊥)
    → HasNoFault l (looked e)
no_answer_verdict l e new s goes shows other = let y = goes_after new l e goes in (no_fault l e s).1 ((y.0, y.1), words e other shows)
  where
    words : (x : Entry) → ((k : ShownEntry) → x ≡ Shown k → ⊥) → ShowsAnswer l (looked x) None → ShowsWords l (looked x)
    words (Reset r) not h = tt
    words (Async p) not h = packet_words l p h
    words (Iso p) not h = tt
    words (Event v) not h = tt
    words (Outcome o) not h = tt
    words (Shown k) not h = absurd (not k refl)
    words End not h = tt
