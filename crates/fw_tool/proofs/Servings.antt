-- What the last flush makes of an ending.
use Rattle.std.proofs.Common.{◌≡◌, ◌≢◌, ◌⊎◌, inl, inr, ℕ, List, [], true, false, Option, Some, None, Result, Ok, Err, IsOk, OnOk, OnErr, sym, subst, ◌∙◌, arith}
use Rattle.fw_outside.specs.Outside.{Rose}
use Rattle.fw_outside.specs.Stops.{WriteCount}
use Rattle.fw_outside.specs.declared.stop.Stop.{Stop}
use Rattle.fw_tool.specs.declared.ending.Ending.{Ending}
use Rattle.fw_outside.specs.declared.stop.Stop.TheVariants.{ReadFault, WriteFault, TooLong, NoMemory}
use Rattle.fw_tool.specs.declared.ending.Ending.TheVariants.{Stopped}
use Rattle.fw_tool.specs.About.{IsSaid}
use Rattle.fw_tool.specs.Completing.{IsDoneOrUnmet}
use Rattle.fw_tool.specs.Faults.{FirstFault, IsFirstFaults, IsToldByStatus, stop_of}
use Rattle.fw_tool.specs.Notes.{IsTold}
use Rattle.fw_tool.specs.Closing.{closed, IsClosed}
use Rattle.fw_tool.proofs.Tellings.{first_by_status, quiet_status, quiet_writes, said_status}

pub closes : {T E at_once : Type 0} (r : Result T E) (ending came told : Ending) (kept : List ℕ) (mid written : ℕ) → ending ≡ came → told ≡ closed ending r
    → OnOk r (kept ≡ []) → OnOk r (written ≡ mid) → OnErr r (Rose mid written) → (at_once → IsOk r)
    → ((told ≡ came) × (written ≡ mid) × (kept ≡ [])) ⊎ ((told ≡ Stopped WriteFault) × Rose mid written × (at_once → ⊥))
closes (Ok x) ending came told kept mid written is t k s r o = inl (t ∙ is, s, k)
closes (Err x) ending came told kept mid written is t k s r o = inr (t, r, λ a. let wrong : false ≡ true = o a in cc wrong)

-- a flush that did nothing leaves what is told
pub same_told : {T E : Type 0} (r : Result T E) (ending told : Ending) → told ≡ closed ending r → IsOk r → told ≡ ending
same_told (Ok x) ending told is ok = is
same_told (Err x) ending told is ok = absurd (let wrong : false ≡ true = ok in cc wrong)

-- ---- what a status tells after the last flush

rose_twice : (written before now : ℕ) → Rose written before → Rose before now → Rose written now
rose_twice written before now r n = omega (arith, r, n)

-- the flush failed, after writes that did or did not
rose_on : (written before now : ℕ) (stop : Option Stop) → WriteCount written before stop → Rose before now → Rose written now
rose_on written before now None w r = subst (λ (k : ℕ). Rose k now) w r
rose_on written before now (Some ReadFault) w r = subst (λ (k : ℕ). Rose k now) w r
rose_on written before now (Some WriteFault) w r = rose_twice written before now w r
rose_on written before now (Some TooLong) w r = subst (λ (k : ℕ). Rose k now) w r
rose_on written before now (Some NoMemory) w r = subst (λ (k : ℕ). Rose k now) w r

module _ {N : Type 0} (held : N → Option (List ℕ)) (faults : N → ℕ) (old new : N) (status read read' written written' : ℕ) where
  -- all that the last flush leaves of an ending, of which this is told
  abbrev Told : Ending → Type 0
  Told e = IsTold held faults old new e status

  by_first : IsFirstFaults status read read' written written' (faults old) (faults new) → IsToldByStatus status read read' written written' (faults old) (faults new)
  by_first f = record {
    no_fault = f.no_fault;
    read_fault = f.read_fault;
    write_fault = λ s. noted (f.write_fault s);
  }
    where
      noted : ((read' ≡ read) × Rose written written' × (faults new ≡ faults old)) ⊎ (Rose (faults old) (faults new) × ((read' ≡ read) ⊎ (written' ≡ written)))
          → (Rose written written' × (faults new ≡ faults old)) ⊎ Rose (faults old) (faults new)
      noted (inl a) = inl (a.1, a.2)
      noted (inr a) = inr a.0

  of_flush : Rose written written' → Told (Stopped WriteFault) → IsToldByStatus status read read' written written' (faults old) (faults new)
  of_flush rose (inl a) = record {
    no_fault = λ p q. absurd (q a.0);
    read_fault = λ s. absurd (omega (arith, a.0, s));
    write_fault = λ s. inl (rose, a.2);
  }
  of_flush rose (inr a) = record {
    no_fault = λ p q. absurd (q a.0);
    read_fault = λ s. absurd (omega (arith, a.0, s));
    write_fault = λ s. inr a.2;
  }

  module _ {at_once : Type 0} {kept : List ℕ} {ending told : Ending} (c : IsClosed at_once read read' written written' kept ending told) (t : Told told) where
    -- nothing failed in the flush
    calm : told ≡ ending → written' ≡ c.before → FirstFault read read' written written' ending × Told ending
    calm is same =
        let F : ℕ → Type 0 = λ w. FirstFault read read' written w ending in
        (subst F (sym same) c.first, subst Told is t)

    -- it failed, so the sink's count has risen
    risen : Rose c.before written' → Rose written written'
    risen rose = rose_on written c.before written' (stop_of ending) c.first.1 rose

    pub told_by_status : IsToldByStatus status read read' written written' (faults old) (faults new)
    told_by_status = go c.flushed
      where
        go : ((told ≡ ending) × (written' ≡ c.before) × (kept ≡ [])) ⊎ ((told ≡ Stopped WriteFault) × Rose c.before written' × (at_once → ⊥))
            → IsToldByStatus status read read' written written' (faults old) (faults new)
        go (inl a) =
            let (f, e) = calm a.0 a.1 in
            by_first (first_by_status held faults old new status read read' written written' ending f e)
        go (inr a) = of_flush (risen a.1) (subst Told a.0 t)

    pub closed_quiet : (ending ≢ Stopped ReadFault → ending ≢ Stopped WriteFault → IsDoneOrUnmet ending)
        → (Rose read read' → ⊥) → (Rose written written' → ⊥) → (Rose (faults old) (faults new) → ⊥) → (status ≡ 0) ⊎ (status ≡ 8)
    closed_quiet done r w n = go c.flushed
      where
        go : ((told ≡ ending) × (written' ≡ c.before) × (kept ≡ [])) ⊎ ((told ≡ Stopped WriteFault) × Rose c.before written' × (at_once → ⊥)) → (status ≡ 0) ⊎ (status ≡ 8)
        go (inl a) =
            let (f, e) = calm a.0 a.1 in
            quiet_status held faults old new status read read' written written' ending f done e r w n
        go (inr a) = absurd (w (risen a.1))

    pub closed_writes : (ending ≢ Stopped WriteFault → IsDoneOrUnmet ending)
        → (Rose written written' → ⊥) → (Rose (faults old) (faults new) → ⊥) → (status ≡ 0) ⊎ (status ≡ 8)
    closed_writes done w n = go c.flushed
      where
        go : ((told ≡ ending) × (written' ≡ c.before) × (kept ≡ [])) ⊎ ((told ≡ Stopped WriteFault) × Rose c.before written' × (at_once → ⊥)) → (status ≡ 0) ⊎ (status ≡ 8)
        go (inl a) =
            let (f, e) = calm a.0 a.1 in
            quiet_writes held faults old new status read read' written written' ending f done e w n
        go (inr a) = absurd (w (risen a.1))

    pub closed_said : (before after : Option (List ℕ)) (text : List ℕ) → IsSaid before after text ending → (Rose written written' → ⊥) → status ≡ 0
    closed_said before after text said w = go c.flushed
      where
        go : ((told ≡ ending) × (written' ≡ c.before) × (kept ≡ [])) ⊎ ((told ≡ Stopped WriteFault) × Rose c.before written' × (at_once → ⊥)) → status ≡ 0
        go (inl a) =
            let (f, e) = calm a.0 a.1 in
            said_status held faults old new status read read' written written' before after text ending said f e w
        go (inr a) = absurd (w (risen a.1))
