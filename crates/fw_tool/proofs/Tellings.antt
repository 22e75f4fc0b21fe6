-- What a status tells of the ending.
use Rattle.std.proofs.Common.{◌≡◌, ◌≢◌, ◌⊎◌, inl, inr, ℕ, List, Option, ap, sym, subst, ◌∙◌, arith}
use Rattle.fw_outside.specs.Outside.{Rose}
use Rattle.fw_tool.specs.declared.ending.Ending.{Ending}
use Rattle.fw_outside.specs.declared.stop.Stop.TheVariants.{ReadFault, WriteFault, TooLong, NoMemory}
use Rattle.fw_tool.specs.declared.ending.Ending.TheVariants.{Done, Usage, Refused, NoLog, Stopped, Unsound, NoMap, Unexplored}
use Rattle.fw_tool.specs.About.{IsSaid}
use Rattle.fw_tool.specs.Faults.{FirstFault, IsFirstFaults}
use Rattle.fw_tool.specs.Notes.{IsTold, IsPassedOn, note_of, status_of}
use Rattle.fw_tool.specs.Completing.{IsDoneOrUnmet}

module _ {N : Type 0} (held : N → Option (List ℕ)) (faults : N → ℕ) (old new : N) (status read read' written written' : ℕ) where
  abbrev First : Type 0
  First = IsFirstFaults status read read' written written' (faults old) (faults new)

  abbrev Told : Ending → Type 0
  Told e = IsTold held faults old new e status

  -- after an ending that is no fault
  no_fault : (note : List ℕ) (k : ℕ) → k ≢ 5 → k ≢ 6 → (read' ≡ read) × (written' ≡ written) → IsPassedOn held faults old new note k status → First
  no_fault note k five six f (inl a) = record {
    no_fault = λ p q. (f.0, f.1, a.2);
    read_fault = λ s. absurd (five (sym a.0 ∙ s));
    write_fault = λ s. absurd (six (sym a.0 ∙ s));
  }
  no_fault note k five six f (inr a) = record {
    no_fault = λ p q. absurd (q a.0);
    read_fault = λ s. absurd (omega (arith, a.0, s));
    write_fault = λ s. inr (a.2, inl f.0);
  }

  pub first_by_status : (e : Ending) → FirstFault read read' written written' e → Told e → First
  first_by_status Done f t = record {
    no_fault = λ p q. (f.0, f.1, ap faults t.1);
    read_fault = λ s. absurd (omega (arith, t.0, s));
    write_fault = λ s. absurd (omega (arith, t.0, s));
  }
  first_by_status Usage f t = no_fault (note_of Usage) 2 (λ x. cc x) (λ x. cc x) f t
  first_by_status (Refused r) f t = no_fault (note_of (Refused r)) 3 (λ x. cc x) (λ x. cc x) f t
  first_by_status (NoLog l) f t = no_fault (note_of (NoLog l)) 4 (λ x. cc x) (λ x. cc x) f t
  first_by_status (Unsound u) f t = no_fault (note_of (Unsound u)) 9 (λ x. cc x) (λ x. cc x) f t
  first_by_status (NoMap m) f t = no_fault (note_of (NoMap m)) 10 (λ x. cc x) (λ x. cc x) f t
  first_by_status (Unexplored u) f t = no_fault (note_of (Unexplored u)) 11 (λ x. cc x) (λ x. cc x) f t
  first_by_status (Stopped TooLong) f t = no_fault (note_of (Stopped TooLong)) 7 (λ x. cc x) (λ x. cc x) f t
  first_by_status (Stopped NoMemory) f t = no_fault (note_of (Stopped NoMemory)) 8 (λ x. cc x) (λ x. cc x) f t
  first_by_status (Stopped ReadFault) f (inl a) = record {
    no_fault = λ p q. absurd (p a.0);
    read_fault = λ s. (f.0, f.1, a.2);
    write_fault = λ s. absurd (omega (arith, a.0, s));
  }
  first_by_status (Stopped ReadFault) f (inr a) = record {
    no_fault = λ p q. absurd (q a.0);
    read_fault = λ s. absurd (omega (arith, a.0, s));
    write_fault = λ s. inr (a.2, inr f.1);
  }
  first_by_status (Stopped WriteFault) f (inl a) = record {
    no_fault = λ p q. absurd (q a.0);
    read_fault = λ s. absurd (omega (arith, a.0, s));
    write_fault = λ s. inl (f.0, f.1, a.2);
  }
  first_by_status (Stopped WriteFault) f (inr a) = record {
    no_fault = λ p q. absurd (q a.0);
    read_fault = λ s. absurd (omega (arith, a.0, s));
    write_fault = λ s. inr (a.2, inl f.0);
  }

  -- if the source's count did not rise no read failed
  unread : (e : Ending) → FirstFault read read' written written' e → (Rose read read' → ⊥) → e ≢ Stopped ReadFault
  unread e f none is = let R : Ending → Type 0 = FirstFault read read' written written' in none (subst R is f).0

  unwritten : (e : Ending) → FirstFault read read' written written' e → (Rose written written' → ⊥) → e ≢ Stopped WriteFault
  unwritten e f none is = let R : Ending → Type 0 = FirstFault read read' written written' in none (subst R is f).1

  -- if the notes did not fail the status is the ending's
  its_own : (e : Ending) → Told e → (Rose (faults old) (faults new) → ⊥) → status ≡ status_of e
  its_own Done t none = t.0
  its_own Usage (inl a) none = a.0
  its_own Usage (inr a) none = absurd (none a.2)
  its_own (Refused r) (inl a) none = a.0
  its_own (Refused r) (inr a) none = absurd (none a.2)
  its_own (NoLog l) (inl a) none = a.0
  its_own (NoLog l) (inr a) none = absurd (none a.2)
  its_own (Unsound u) (inl a) none = a.0
  its_own (Unsound u) (inr a) none = absurd (none a.2)
  its_own (NoMap m) (inl a) none = a.0
  its_own (NoMap m) (inr a) none = absurd (none a.2)
  its_own (Unexplored u) (inl a) none = a.0
  its_own (Unexplored u) (inr a) none = absurd (none a.2)
  its_own (Stopped ReadFault) (inl a) none = a.0
  its_own (Stopped ReadFault) (inr a) none = absurd (none a.2)
  its_own (Stopped WriteFault) (inl a) none = a.0
  its_own (Stopped WriteFault) (inr a) none = absurd (none a.2)
  its_own (Stopped TooLong) (inl a) none = a.0
  its_own (Stopped TooLong) (inr a) none = absurd (none a.2)
  its_own (Stopped NoMemory) (inl a) none = a.0
  its_own (Stopped NoMemory) (inr a) none = absurd (none a.2)

  completes : (e : Ending) → IsDoneOrUnmet e → Told e → (Rose (faults old) (faults new) → ⊥) → (status ≡ 0) ⊎ (status ≡ 8)
  completes e (inl z) t none = inl (its_own e t none ∙ z)
  completes e (inr z) t none = inr (its_own e t none ∙ z)

  -- if no write failed, of a call that reads nothing
  pub quiet_writes : (e : Ending) → FirstFault read read' written written' e → (e ≢ Stopped WriteFault → IsDoneOrUnmet e) → Told e
      → (Rose written written' → ⊥) → (Rose (faults old) (faults new) → ⊥) → (status ≡ 0) ⊎ (status ≡ 8)
  quiet_writes e f done t w n = completes e (done (unwritten e f w)) t n

  -- if no count rose
  pub quiet_status : (e : Ending) → FirstFault read read' written written' e → (e ≢ Stopped ReadFault → e ≢ Stopped WriteFault → IsDoneOrUnmet e) → Told e
      → (Rose read read' → ⊥) → (Rose written written' → ⊥) → (Rose (faults old) (faults new) → ⊥) → (status ≡ 0) ⊎ (status ≡ 8)
  quiet_status e f done t r w n = completes e (done (unread e f r) (unwritten e f w)) t n

  -- a text was written if no write failed, and nothing is noted
  pub said_status : (held held' : Option (List ℕ)) (text : List ℕ) (e : Ending) → IsSaid held held' text e → FirstFault read read' written written' e → Told e → (Rose written written' → ⊥)
      → status ≡ 0
  said_status held held' text e (inl said) f t none = (subst Told said.0 t).0
  said_status held held' text e (inr said) f t none = absurd (unwritten e f none said.0)
