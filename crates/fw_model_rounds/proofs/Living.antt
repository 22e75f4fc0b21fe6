-- Since the reset only living controllers have Pending allocations.
use Rattle.fw_model_rounds.proofs.Common.{◌≡◌, ◌≢◌, ℕ, ◌<◌, Bool, true, false, Option, Some, None, eqb, arith, cond, PlugAt, Account}
use Rattle.fw_terms.specs.Tables.{update}
use Rattle.fw_log_entry.specs.declared.entry.ResetEntry.{ResetEntry}
use Rattle.fw_model_account.specs.Account.{Allocation, Pending, Connected, Orphaned, has_connection, allocated}
use Rattle.fw_model_account.specs.Events.{after_reset}
use Rattle.fw_model_account.specs.Moves.{Move, AllocateChannel, AllocateUnits, ConnectFirst, ConnectOverlaid, ConnectInput, DisconnectInput}
use Rattle.fw_model_account.specs.Moves.{DisconnectOutput, ReleaseUnits, ReleaseChannel, after, made_pending, drop_connection}
use Rattle.fw_model_rounds.specs.Accounts.{OnlyLiving}

pub living_after_reset : (r : ResetEntry) (l : Account) → OnlyLiving (after_reset r l).allocations
living_after_reset r l = record { devices = λ ch k p u e. absurd (grind arith); none_died = λ ch p u e. grind arith }

-- what stands at one channel
abbrev Lives : Option Allocation → Type 0
Lives o = ((k : ℕ) (p : PlugAt) (u : ℕ) → o ≡ Some (record { holder = Pending k p; units = u }) → k < 63) × ((p : PlugAt) (u : ℕ) → o ≢ Some (record { holder = Orphaned p; units = u }))

changed : (f : ℕ → Option Allocation) (ch : ℕ) (o : Option Allocation) → OnlyLiving f → Lives o → OnlyLiving (update f ch o)
changed f ch o living x = record {
  devices = λ i k p u e. go_devices i (eqb i ch) k p u e;
  none_died = λ i p u e. go_died i (eqb i ch) p u e;
}
  where
    go_devices : (i : ℕ) (b : Bool) (k : ℕ) (p : PlugAt) (u : ℕ) → cond b o (f i) ≡ Some (record { holder = Pending k p; units = u }) → k < 63
    go_devices i true k p u e = x.0 k p u e
    go_devices i false k p u e = living.devices i k p u e

    go_died : (i : ℕ) (b : Bool) (p : PlugAt) (u : ℕ) → cond b o (f i) ≢ Some (record { holder = Orphaned p; units = u })
    go_died i true p u = x.1 p u
    go_died i false p u = living.none_died i p u

pending_lives : (k : ℕ) (p : PlugAt) (u : ℕ) → k < 63 → Lives (Some (record { holder = Pending k p; units = u }))
pending_lives k p u lt = ((λ i q v e. grind (arith, e)), (λ q v e. grind (arith, e)))

connected_lives : (p : PlugAt) (u : ℕ) → Lives (Some (record { holder = Connected p; units = u }))
connected_lives p u = ((λ i q v e. absurd (grind (arith, e))), (λ q v e. grind (arith, e)))

none_lives : Lives None
none_lives = ((λ i q v e. absurd (grind (arith, e))), (λ q v e. grind (arith, e)))

pub living_after : (k : ℕ) (p : PlugAt) (m : Move) (l : Account) → k < 63 → OnlyLiving l.allocations → OnlyLiving (after k p m l).allocations
living_after k p (AllocateChannel ch) l lt living = changed l.allocations ch _ living (pending_lives k p 0 lt)
living_after k p (AllocateUnits ch u) l lt living = changed l.allocations ch _ living (pending_lives k p u lt)
living_after k p (ConnectFirst kind ch overhead) l lt living = changed l.allocations ch _ living (connected_lives p (allocated (l.allocations ch)))
living_after k p (ConnectOverlaid kind) l lt living = living
living_after k p (ConnectInput kind ch) l lt living = living
living_after k p (DisconnectInput kind) l lt living = living
living_after k p (DisconnectOutput kind) l lt living = go (has_connection (drop_connection k kind (l.outputs p)))
  where
    go : (b : Bool) → OnlyLiving (cond b l.allocations (made_pending k p (l.settings p).channel l))
    go true = living
    go false = changed l.allocations (l.settings p).channel _ living (pending_lives k p (allocated (l.allocations (l.settings p).channel)) lt)
living_after k p (ReleaseUnits ch u) l lt living = changed l.allocations ch _ living (pending_lives k p 0 lt)
living_after k p (ReleaseChannel ch) l lt living = changed l.allocations ch _ living none_lives
