-- Which slots are to be restored after a bus reset, and why.
use Rattle.fw_model_reclaim.proofs.Common.{◌≡◌, ◌≢◌, ◌⊎◌, inl, inr, ℕ, ◌<◌, false, length, refl, sym, ap}
use Rattle.fw_model_reclaim.proofs.Common.{◌∙◌, arith, cases_eq, nat_tests, Connection, Flow, Slot, Free, Making, Established, Restoring, Gone}
use Rattle.fw_model_reclaim.proofs.Common.{Current, Nothing, Asking, Hearing, Overtaken, Job, Purpose, Make, Restore, Break, Stage, Made, Ended, ControllerState, slot_at, is_current_slot, overtaken}
use Rattle.fw_model_reclaim.proofs.Common.{current_reset, lost_reset, slot_reset, after_reset, after_lost_reset, IsAtSlot, IsAtWork, MatchesFor, CurrentMatches}
use Rattle.fw_cmp.specs.Resets.{interrupted, decided}
use Rattle.fw_model_reclaim.proofs.Slots.{slot_set_same, slot_set_other, slot_mapped}

-- ---- the current job's slot, and the others

pub interrupted_other : (epoch : ℕ) (c : ControllerState) (j : Job) (why : Purpose) (i : ℕ) → j.purpose ≡ why → i ≢ j.slot → slot_at (interrupted epoch c j) i ≡ slot_at c i
interrupted_other epoch c j Make i e ne = rw e (slot_set_other c j.slot i Free ne)
interrupted_other epoch c j Restore i e ne = rw e refl
interrupted_other epoch c j Break i e ne = rw e (slot_set_other c j.slot i Free ne)

decided_other : (c : ControllerState) (j : Job) (why : Purpose) (i : ℕ) → j.purpose ≡ why → i ≢ j.slot → slot_at (decided c j) i ≡ slot_at c i
decided_other c j Make i e ne = rw e refl
decided_other c j Restore i e ne = rw e refl
decided_other c j Break i e ne = rw e (slot_set_other c j.slot i (Gone j.connection) ne)

pub overtaken_other : (epoch : ℕ) (c : ControllerState) (j : Job) (s : Stage) (i : ℕ) → i ≢ j.slot → slot_at (overtaken epoch c j s) i ≡ slot_at c i
overtaken_other epoch c j (Made f) i ne = slot_set_other c j.slot i (Restoring j.connection f false) ne
overtaken_other epoch c j (Ended e) i ne = decided_other c j j.purpose i refl ne
overtaken_other epoch c j _ i ne = interrupted_other epoch c j j.purpose i refl ne

-- Why a slot is to be restored in its own second after a reset: its connection stood, or was to be restored in its own
-- second before the reset, or was just made.
pub data Origin (c : ControllerState) (i : ℕ) (conn : Connection) (f : Flow) : Type 0 where
  Stood : slot_at c i ≡ Established conn f → is_current_slot c.current i ≡ false → Origin c i conn f
  WasOwn : slot_at c i ≡ Restoring conn f false → Origin c i conn f
  JustMade : (j : Job) → (c.current ≡ Asking j (Made f)) ⊎ (c.current ≡ Hearing j (Made f)) → j.slot ≡ i → j.connection ≡ conn → Origin c i conn f

-- the slot of the current job
abbrev pub IsBack : ControllerState → Job → Stage → Connection → Flow → Type 0
IsBack c j s conn f = (slot_at c j.slot ≡ Restoring conn f false) ⊎ ((s ≡ Made f) × (j.connection ≡ conn))

reset_twice : (x : Slot) (conn : Connection) (f : Flow) → slot_reset x ≡ Restoring conn f false → (x ≡ Established conn f) ⊎ (x ≡ Restoring conn f false)
reset_twice Free conn f e = absurd (grind arith)
reset_twice (Making k a o) conn f e = absurd (grind arith)
reset_twice (Established k g) conn f e = inl (grind arith)
reset_twice (Restoring k g o) conn f e = inr e
reset_twice (Gone k) conn f e = absurd (grind arith)

restored_back : (c : ControllerState) (j : Job) (s : Stage) (conn : Connection) (f : Flow) → MatchesFor Restore j (slot_at c j.slot) → slot_reset (slot_at c j.slot) ≡ Restoring conn f false
    → IsBack c j s conn f
restored_back c j s conn f m e = inl (m.2 ∙ (sym (ap slot_reset m.2) ∙ e))

interrupted_own : (epoch : ℕ) (c : ControllerState) (j : Job) (s : Stage) (why : Purpose) (conn : Connection) (f : Flow) → j.purpose ≡ why → j.slot < length c.slots
    → MatchesFor why j (slot_at c j.slot) → slot_reset (slot_at (interrupted epoch c j) j.slot) ≡ Restoring conn f false → IsBack c j s conn f
interrupted_own epoch c j s Make conn f e lt m is = let at : slot_at (interrupted epoch c j) j.slot ≡ Free = rw e (slot_set_same c j.slot Free lt) in
    let free : Free ≡ Restoring conn f false = sym (ap slot_reset at) ∙ is in absurd (grind (arith, free))
interrupted_own epoch c j s Restore conn f e lt m is = let at : slot_at (interrupted epoch c j) j.slot ≡ slot_at c j.slot = rw e refl in restored_back c j s conn f m (sym (ap slot_reset at) ∙ is)
interrupted_own epoch c j s Break conn f e lt m is = let at : slot_at (interrupted epoch c j) j.slot ≡ Free = rw e (slot_set_same c j.slot Free lt) in
    let free : Free ≡ Restoring conn f false = sym (ap slot_reset at) ∙ is in absurd (grind (arith, free))

decided_own : (c : ControllerState) (j : Job) (s : Stage) (why : Purpose) (conn : Connection) (f : Flow) → j.purpose ≡ why → j.slot < length c.slots → MatchesFor why j (slot_at c j.slot)
    → slot_reset (slot_at (decided c j) j.slot) ≡ Restoring conn f false → IsBack c j s conn f
decided_own c j s Make conn f e lt m is = let at : slot_at (decided c j) j.slot ≡ Making j.connection j.asked j.overhead = rw e m in
    let making : Making j.connection j.asked j.overhead ≡ Restoring conn f false = sym (ap slot_reset at) ∙ is in absurd (grind (arith, making))
decided_own c j s Restore conn f e lt m is = let at : slot_at (decided c j) j.slot ≡ slot_at c j.slot = rw e refl in restored_back c j s conn f m (sym (ap slot_reset at) ∙ is)
decided_own c j s Break conn f e lt m is = let at : slot_at (decided c j) j.slot ≡ Gone j.connection = rw e (slot_set_same c j.slot (Gone j.connection) lt) in
    let gone : Gone j.connection ≡ Restoring conn f false = sym (ap slot_reset at) ∙ is in absurd (grind (arith, gone))

overtaken_own : (epoch : ℕ) (c : ControllerState) (j : Job) (s : Stage) (conn : Connection) (f : Flow) → j.slot < length c.slots → MatchesFor j.purpose j (slot_at c j.slot)
    → slot_reset (slot_at (overtaken epoch c j s) j.slot) ≡ Restoring conn f false → IsBack c j s conn f
overtaken_own epoch c j (Made g) conn f lt m is = let made : Restoring j.connection g false ≡ Restoring conn f false =
    sym (ap slot_reset (slot_set_same c j.slot (Restoring j.connection g false) lt)) ∙ is in inr (grind (arith, made), grind (arith, made))
overtaken_own epoch c j (Ended e) conn f lt m is = decided_own c j (Ended e) j.purpose conn f refl lt m is
overtaken_own epoch c j s conn f lt m is = interrupted_own epoch c j s j.purpose conn f refl lt m is

-- ---- all slots

idle_slot : (cur : Current) (j : Job) (s : Stage) (i : ℕ) → IsAtWork cur j s → i ≢ j.slot → is_current_slot cur i ≡ false
idle_slot cur j s i (inl e) ne = ap (λ x. is_current_slot x i) e ∙ grind (arith, nat_tests)
idle_slot cur j s i (inr e) ne = ap (λ x. is_current_slot x i) e ∙ grind (arith, nat_tests)

made_at_work : (cur : Current) (j : Job) (s : Stage) (f : Flow) → IsAtWork cur j s → s ≡ Made f → IsAtWork cur j (Made f)
made_at_work cur j s f (inl e) is = inl (e ∙ ap (λ x. Asking j x) is)
made_at_work cur j s f (inr e) is = inr (e ∙ ap (λ x. Hearing j x) is)

working_origin : (epoch : ℕ) (c : ControllerState) (j : Job) (s : Stage) (i : ℕ) (conn : Connection) (f : Flow) → IsAtWork c.current j s → j.slot < length c.slots
    → MatchesFor j.purpose j (slot_at c j.slot) → slot_reset (slot_at (overtaken epoch c j s) i) ≡ Restoring conn f false → Origin c i conn f
working_origin epoch c j s i conn f at lt m is = go (cases_eq i j.slot)
  where
    own : i ≡ j.slot → IsBack c j s conn f → Origin c i conn f
    own e (inl was) = WasOwn (ap (slot_at c) e ∙ was)
    own e (inr made) = JustMade j (made_at_work c.current j s f at made.0) (sym e) made.1

    other : i ≢ j.slot → (slot_at c i ≡ Established conn f) ⊎ (slot_at c i ≡ Restoring conn f false) → Origin c i conn f
    other ne (inl stood) = Stood stood (idle_slot c.current j s i at ne)
    other ne (inr was) = WasOwn was

    go : (i ≡ j.slot) ⊎ (i ≢ j.slot) → Origin c i conn f
    go (inl e) = own e (overtaken_own epoch c j s conn f lt m (ap (λ k. slot_reset (slot_at (overtaken epoch c j s) k)) (sym e) ∙ is))
    go (inr ne) = other ne (reset_twice (slot_at c i) conn f (ap slot_reset (sym (overtaken_other epoch c j s i ne)) ∙ is))

resting_origin : (c : ControllerState) (i : ℕ) (conn : Connection) (f : Flow) → is_current_slot c.current i ≡ false → slot_reset (slot_at c i) ≡ Restoring conn f false → Origin c i conn f
resting_origin c i conn f idle is = go (reset_twice (slot_at c i) conn f is)
  where
    go : (slot_at c i ≡ Established conn f) ⊎ (slot_at c i ≡ Restoring conn f false) → Origin c i conn f
    go (inl stood) = Stood stood idle
    go (inr was) = WasOwn was

pub origin : (epoch : ℕ) (c : ControllerState) (i : ℕ) (conn : Connection) (f : Flow) → length c.slots ≡ 32 → IsAtSlot c.current → CurrentMatches c c.current
    → slot_at (after_reset epoch c) i ≡ Restoring conn f false → Origin c i conn f
origin epoch c i conn f few at m is = go c.current refl at m (sym (slot_mapped (current_reset epoch c c.current) slot_reset i refl) ∙ is)
  where
    go : (cur : Current) → c.current ≡ cur → IsAtSlot cur → CurrentMatches c cur → slot_reset (slot_at (current_reset epoch c cur) i) ≡ Restoring conn f false → Origin c i conn f
    go Nothing e at m is = resting_origin c i conn f (ap (λ x. is_current_slot x i) e) is
    go (Asking j s) e at m is = working_origin epoch c j s i conn f (inl e) (omega arith) m is
    go (Hearing j s) e at m is = working_origin epoch c j s i conn f (inr e) (omega arith) m is
    go (Overtaken k o) e at m is = resting_origin c i conn f (ap (λ x. is_current_slot x i) e) is

-- ---- the same if the response to the request was lost

lost_working : (epoch : ℕ) (c : ControllerState) (j : Job) (s : Stage) (i : ℕ) (conn : Connection) (f : Flow) → IsAtWork c.current j s → j.slot < length c.slots
    → MatchesFor j.purpose j (slot_at c j.slot) → slot_reset (slot_at (interrupted epoch c j) i) ≡ Restoring conn f false → Origin c i conn f
lost_working epoch c j s i conn f at lt m is = go (cases_eq i j.slot)
  where
    own : i ≡ j.slot → IsBack c j s conn f → Origin c i conn f
    own e (inl was) = WasOwn (ap (slot_at c) e ∙ was)
    own e (inr made) = JustMade j (made_at_work c.current j s f at made.0) (sym e) made.1

    other : i ≢ j.slot → (slot_at c i ≡ Established conn f) ⊎ (slot_at c i ≡ Restoring conn f false) → Origin c i conn f
    other ne (inl stood) = Stood stood (idle_slot c.current j s i at ne)
    other ne (inr was) = WasOwn was

    go : (i ≡ j.slot) ⊎ (i ≢ j.slot) → Origin c i conn f
    go (inl e) = own e (interrupted_own epoch c j s j.purpose conn f refl lt m (ap (λ k. slot_reset (slot_at (interrupted epoch c j) k)) (sym e) ∙ is))
    go (inr ne) = other ne (reset_twice (slot_at c i) conn f (ap slot_reset (sym (interrupted_other epoch c j j.purpose i refl ne)) ∙ is))

pub lost_origin : (epoch : ℕ) (c : ControllerState) (i : ℕ) (conn : Connection) (f : Flow) → length c.slots ≡ 32 → IsAtSlot c.current → CurrentMatches c c.current
    → slot_at (after_lost_reset epoch c) i ≡ Restoring conn f false → Origin c i conn f
lost_origin epoch c i conn f few at m is = go c.current refl at m (sym (slot_mapped (lost_reset epoch c c.current) slot_reset i refl) ∙ is)
  where
    go : (cur : Current) → c.current ≡ cur → IsAtSlot cur → CurrentMatches c cur → slot_reset (slot_at (lost_reset epoch c cur) i) ≡ Restoring conn f false → Origin c i conn f
    go Nothing e at m is = resting_origin c i conn f (ap (λ x. is_current_slot x i) e) is
    go (Asking j s) e at m is = lost_working epoch c j s i conn f (inl e) (omega arith) m is
    go (Hearing j s) e at m is = lost_working epoch c j s i conn f (inr e) (omega arith) m is
    go (Overtaken k o) e at m is = resting_origin c i conn f (ap (λ x. is_current_slot x i) e) is
