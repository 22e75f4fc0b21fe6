-- The numbers of a place, and what is read by them.
use Rattle.fw_explore.proofs.Common.{ℕ, ◌≡◌, ◌-◌, ◌<◌, ◌≤◌, List, ◌++◌, Bool, Option, Some, None, false, true, IsFalse, take, drop, get_or, length, refl, sym, ap, subst, ◌∙◌, arith, Command, Machine}
use Rattle.fw_explore.proofs.Common.{DeskRelations, Mover, History, Had}
use Rattle.std.proofs.Common.{inr, is_some, not}
use Rattle.std.proofs.lemmas.List.{take_rest}
use Rattle.std.proofs.lemmas.Option.{same_Some, slice_get_read}
use Rattle.fw_order.specs.declared.rule.RuleFault.{RuleFault}
use Rattle.fw_explore_movers.specs.declared.mover.Explored.{Explored}
use Rattle.fw_explore_movers.specs.declared.mover.MoverKind.TheVariants.{Once}
use Rattle.fw_explore_movers.specs.Explored.{IsMover}
use Rattle.fw_explore_told.specs.declared.past.ToldEntry.{ToldEntry}
use Rattle.fw_explore_meaning.specs.Finishing.{Writes, WritesMore}
use Rattle.fw_explore_meaning.specs.Pasts.{LeadsAt}
use Rattle.fw_explore_meaning.specs.Steps.{IsNext, IsPlaced, IsThere, past_in}

-- ---- movers

-- the mover that was read is the one at its place
pub mover_read : (x : Explored) (p : ℕ) (here : Mover) → p < length x.movers.items → here ≡ get_or x.movers.items p here → IsMover x p here
mover_read x p here less at = slice_get_read x.movers.items (length x.movers.items) p here refl less at

pub same_mover : (x : Explored) (p : ℕ) (here m : Mover) → p < length x.movers.items → here ≡ get_or x.movers.items p here → IsMover x p m → here ≡ m
same_mover x p here m less at is = same_Some here m (sym (mover_read x p here less at) ∙ is)

-- whether it is there, by whether each before it with its line came
pub there_by : (x : Explored) (done : List Bool) (p : ℕ) (m : Mover) (r : Bool) → m.kind ≡ Once → IsFalse (get_or done p false) → IsNext x done p m r → IsThere x done p m r
there_by x done p m true once still came = λ e. record { still = still; earlier = came }
there_by x done p m false once still earlier = record { once = once; why = inr earlier }

-- ---- rules

-- what is some rule is one
pub ruled : (o : Option RuleFault) → is_some o ≡ true → (rule : RuleFault) × (o ≡ Some rule)
ruled (Some rule) e = (rule, refl)
ruled None e = absurd (cc e)

pub not_ruled : (o : Option RuleFault) → is_some o ≡ false → o ≡ None
not_ruled (Some rule) e = absurd (cc e)
not_ruled None e = refl

-- ---- half steps

pub writes_by : (D : DeskRelations) (script : List Command) (x : Explored) (w : List ℕ) (p : ℕ) (silent : Bool) → (silent ≡ true → WritesMore D script x w p → ⊥)
    → (silent ≡ false → WritesMore D script x w p) → Writes D script x w p (not silent)
writes_by D script x w p true none some = none refl
writes_by D script x w p false none some = some refl

-- ---- places

module _ (pasts : List History) (Kept : List ℕ → Machine → Type 0) (words : List ℕ) (p : IsPlaced (Had pasts) Kept words) where
  pub two_numbers : 2 ≤ length words
  two_numbers = let size = ap length p.words_are in omega (arith, size)

  pub had_here : Had pasts (past_in words) p.past
  had_here = subst (λ n. Had pasts n p.past) (sym (ap past_in p.words_are)) p.had

  pub machine_kept : (m : Machine) × Kept (drop 2 words) m
  machine_kept = (p.machine, subst (λ n. Kept n p.machine) (sym (ap (drop 2) p.words_are)) p.kept)

module _ (D : DeskRelations) (script : List Command) (x : Explored) (pasts : List History) (Kept : List ℕ → Machine → Type 0)
    (w words : List ℕ) (l : LeadsAt D script x (Had pasts) Kept w words) where
  pub had_led : Had pasts (past_in words) l.past
  had_led = subst (λ n. Had pasts n l.past) (sym (ap past_in l.words_are)) l.had

  -- what is said of the lines that were carried out
  pub there_led : (done : List Bool) (p : ℕ) (m : Mover) (b o : Bool) → ((past : History) → Had pasts (past_in words) past → done ≡ past.done) → o ≡ b → IsThere x done p m o
      → IsThere x l.past.done p m b
  there_led done p m b o same is t = subst (λ d. IsThere x d p m b) (same l.past had_led) (subst (IsThere x done p m) is t)

  pub size_led : (done : List Bool) → ((past : History) → Had pasts (past_in words) past → done ≡ past.done) → length done ≡ 32 → length l.past.done ≡ 32
  size_led done same size = sym (ap length (same l.past had_led)) ∙ size

  pub kept_led : Kept (drop 2 words) l.machine
  kept_led = subst (λ n. Kept n l.machine) (sym (ap (drop 2) l.words_are)) l.kept

-- ---- histories

abbrev made : List Bool → List ToldEntry → History
made done said = record { done = done; said = said }

pub history_by : (h past : History) (more : List ToldEntry) → h.done ≡ past.done → h.said ≡ past.said ++ more → h ≡ record { done = past.done; said = past.said ++ more }
history_by h past more e f = ap (λ (d : List Bool). made d h.said) e ∙ ap (λ (s : List ToldEntry). made past.done s) f

-- ---- what is kept

-- a machine's numbers, read from all numbers of its place
pub kept_at : (Kept : List ℕ → Machine → Type 0) (words read : List ℕ) → read ≡ words → (m : Machine) → Kept (drop 2 words) m → Kept (take (length read - 2) (drop 2 read)) m
kept_at Kept words read e m k = subst (λ (h : List ℕ). Kept h m) (sym (take_rest read 2 ∙ ap (drop 2) e)) k

-- what is said of tables is said of those that are the same
pub kept_as : {P : Type 0} (Kept : P → List ℕ → Machine → Type 0) (Q : (ℕ → History → Type 0) → (List ℕ → Machine → Type 0) → Type 0) (pasts pasts' : List History) (places places' : P)
    → pasts' ≡ pasts → places' ≡ places → Q (Had pasts) (Kept places) → Q (Had pasts') (Kept places')
kept_as {P} Kept Q pasts pasts' places places' a b q = subst (λ (z : P). Q (Had pasts') (Kept z)) (sym b) (subst (λ (z : List History). Q (Had z) (Kept places)) (sym a) q)

-- what leads to a place leads to it if nothing has changed
pub led_as : {P : Type 0} (Kept : P → List ℕ → Machine → Type 0) (D : DeskRelations) (script : List Command) (x : Explored) (w : List ℕ) (pasts pasts' : List History)
    (places places' : P) (here here' : List ℕ)
    → pasts' ≡ pasts → places' ≡ places → here' ≡ here → LeadsAt D script x (Had pasts) (Kept places) w here → LeadsAt D script x (Had pasts') (Kept places') w here'
led_as {P} Kept D script x w pasts pasts' places places' here here' a b e p =
    subst (λ (h : List ℕ). LeadsAt D script x (Had pasts') (Kept places') w h) (sym e)
    (subst (λ (q : P). LeadsAt D script x (Had pasts') (Kept q) w here) (sym b) (subst (λ (q : List History). LeadsAt D script x (Had q) (Kept places) w here) (sym a) p))
