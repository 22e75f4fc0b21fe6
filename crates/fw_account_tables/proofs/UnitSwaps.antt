-- Swaps of BANDWIDTH_AVAILABLE.
use Rattle.fw_account_tables.proofs.Common.{◌≡◌, ◌≢◌, ◌<◌, ◌≤◌, ◌-◌, ◌||◌, not, ℕ, Bool, true, false, nat_lt, Some, length, slice_set, Vec, Global, cond, refl, sym, ◌∙◌, ap, subst, arith, length-set}
use Rattle.fw_account_tables.proofs.Common.{nat_tests, find_to, Account, is_pending, word_of, IsMove, decoded, allowed, move_at}
use Rattle.fw_account_tables.proofs.Common.{IsSound, StandsFor, Follows, allocation_of, charge_at, moved_by, Charge, Free}
use Rattle.fw_account_tables.proofs.Common.{Connected, Tables, moves_keep}
use Rattle.fw_terms.proofs.Tables.{find_to_is, IsFirst}
use Rattle.fw_model_account.specs.Account.{Pending, allocated}
use Rattle.fw_model_account.specs.Moves.{AllocateUnits, ReleaseUnits, with_allocation}
use Rattle.fw_model_account.specs.Words.{BandwidthAvailable}
use Rattle.fw_model_account.specs.Decode.{is_flow, units_move}
use Rattle.fw_account_tables.specs.Swaps.{IsHeld, held_of}
use Rattle.fw_account_tables.specs.declared.held.PendingAllocation.{PendingAllocation}
use Rattle.fw_account_tables.specs.declared.tables.Charge.TheVariants.{Pending as PendingCharge, Orphaned}
use Rattle.fw_model_account.proofs.Allocations.{total_changed}
use Rattle.fw_model_account.proofs.Decode.{pending_is}
use Rattle.fw_model_account.proofs.Tests.{is_flow-true}
use Rattle.fw_account_tables.proofs.Swapping.{swap_taken, swap_decoded, charge_set}

-- ---- what a controller holds

-- the first place that passes does
pub found_at : (n ch : ℕ) (test : ℕ → Bool) → find_to n test ≡ Some ch → (ch < n) × (test ch ≡ true)
found_at n ch test e = let f : IsFirst n test (Some ch) = subst (λ o. IsFirst n test o) e (find_to_is n test) in (f.0, f.1)

-- the charge that was found is what controller c holds
pub held_is : (t : Tables) (l : Account) (c ch : ℕ) → StandsFor t l → ch < 64 → is_pending c (allocation_of (charge_at t.charges.items ch)) ≡ true
    → IsHeld c (held_of ch (charge_at t.charges.items ch)) l
held_is t l c ch h lt found = go (charge_at t.charges.items ch) (h.resources.charges ch lt) found
  where
    go : (x : Charge) → allocation_of x ≡ l.allocations ch → is_pending c (allocation_of x) ≡ true → IsHeld c (held_of ch x) l
    go Free e f = absurd (grind arith)
    go (PendingCharge d p u) e f = let same : c ≡ d = grind (arith, nat_tests) in (lt, rw same (sym e))
    go (Connected p u) e f = absurd (grind arith)
    go (Orphaned p u) e f = absurd (grind arith)

-- the move that a swap can be, if controller c holds a channel
pub units_decoded : (l : Account) (c : ℕ) (x : PendingAllocation) (arg new : ℕ) → IsSound l → IsHeld c (Some x) l
    → decoded l c BandwidthAvailable arg new ≡ Some (x.plug, units_move arg new x.channel)
units_decoded l c x arg new s h = rw (pending_is l c x.plug x.channel x.units s h.1, s.for_addressed c x.channel x.plug x.units h.1) refl

-- ---- the tables after the move

units_stand : (t : Tables) (l : Account) (c new u : ℕ) (x : PendingAllocation) (charges : Vec Charge Global) → StandsFor t l → IsHeld c (Some x) l
    → IsSound (with_allocation x.channel (Some (record { holder = Pending c x.plug; units = u })) l)
    → word_of (with_allocation x.channel (Some (record { holder = Pending c x.plug; units = u })) l) BandwidthAvailable ≡ new
    → charges.items ≡ slice_set t.charges.items x.channel (PendingCharge c x.plug u)
    → StandsFor (record t { left = new; charges = charges }) (with_allocation x.channel (Some (record { holder = Pending c x.plug; units = u })) l)
units_stand t l c new u x charges h held sound later e = record {
  sizes = record {
    charges = ap length e ∙ length-set t.charges.items x.channel (PendingCharge c x.plug u) ∙ h.sizes.charges;
    reclaimable = h.sizes.reclaimable;
    addressed = h.sizes.addressed;
    asked = h.sizes.asked;
    outputs = h.sizes.outputs;
    inputs = h.sizes.inputs;
    output_seats = h.sizes.output_seats;
    input_seats = h.sizes.input_seats;
    continues = h.sizes.continues;
  };
  latest = h.latest;
  plugs = h.plugs;
  withheld = h.withheld;
  resources = rw e (charge_set l.withheld t.left t.high t.low new t.charges.items l.allocations x.channel (PendingCharge c x.plug u)
      (record { holder = Pending c x.plug; units = u }) h.sizes.charges (rw held.1 refl) refl (sym later) h.resources);
  second = record { runs = h.second.runs; reclaimable = h.second.reclaimable; continues = h.second.continues };
  outputs = h.outputs;
  inputs = h.inputs;
  controllers = h.controllers;
  sound = sound;
}

-- ---- units are allocated

pub allocates : (t : Tables) (l : Account) (c new : ℕ) (x : PendingAllocation) → StandsFor t l → IsHeld c (Some x) l → new < t.left → x.units ≡ 0
    → (not l.reclaiming || is_flow x.plug (t.left - new) (l.reclaimable x.channel)) ≡ true
    → IsMove c x.plug (AllocateUnits x.channel (t.left - new)) BandwidthAvailable t.left new l
allocates t l c new x h held less none test =
    let e = total_changed l.allocations x.channel (Some (record { holder = Pending c x.plug; units = t.left - new })) held.0 in
    let had : allocated (l.allocations x.channel) ≡ x.units = rw held.1 refl in
    let left = h.resources.left in
    let load = h.sound.load in
    record {
      can = record {
        addressed = h.sound.for_addressed c x.channel x.plug x.units held.1;
        within = held.0;
        some = omega arith;
        fits = omega arith;
        channel = held.1 ∙ ap (λ u. Some (record { holder = Pending c x.plug; units = u })) none;
        reclaims = λ runs. is_flow-true x.plug (t.left - new) (l.reclaimable x.channel) (grind arith);
      };
      place = refl;
      before = sym left;
      later = omega arith;
    }

pub allocated_follows : (t : Tables) (l : Account) (c new : ℕ) (x : PendingAllocation) (charges : Vec Charge Global) → StandsFor t l → c < 63 → IsHeld c (Some x) l
    → new < t.left → x.units ≡ 0 → (not l.reclaiming || is_flow x.plug (t.left - new) (l.reclaimable x.channel)) ≡ true
    → charges.items ≡ slice_set t.charges.items x.channel (PendingCharge c x.plug (t.left - new))
    → Follows true t (record t { left = new; charges = charges })
    (moved_by c (allowed l c BandwidthAvailable t.left new (Some (x.plug, AllocateUnits x.channel (t.left - new)))) l)
allocated_follows t l c new x charges h lt held less none test e =
    let k = allocates t l c new x h held less none test in
    swap_taken t _ l c x.plug (AllocateUnits x.channel (t.left - new)) BandwidthAvailable t.left new k
    (units_stand t l c new (t.left - new) x charges h held (moves_keep c x.plug (AllocateUnits x.channel (t.left - new)) l lt h.sound k.can) k.later e)

-- ---- units are given back

releases : (t : Tables) (l : Account) (c new : ℕ) (x : PendingAllocation) → StandsFor t l → IsHeld c (Some x) l → t.left ≤ new → x.units ≢ 0 → x.units ≡ new - t.left
    → IsMove c x.plug (ReleaseUnits x.channel (new - t.left)) BandwidthAvailable t.left new l
releases t l c new x h held more some same =
    let e = total_changed l.allocations x.channel (Some (record { holder = Pending c x.plug; units = 0 })) held.0 in
    let had : allocated (l.allocations x.channel) ≡ x.units = rw held.1 refl in
    let left = h.resources.left in
    let load = h.sound.load in
    record {
      can = record {
        addressed = h.sound.for_addressed c x.channel x.plug x.units held.1;
        within = held.0;
        some = omega arith;
        held = held.1 ∙ ap (λ u. Some (record { holder = Pending c x.plug; units = u })) same;
      };
      place = refl;
      before = sym left;
      later = omega arith;
    }

pub released_follows : (t : Tables) (l : Account) (c new : ℕ) (x : PendingAllocation) (charges : Vec Charge Global) → StandsFor t l → c < 63 → IsHeld c (Some x) l
    → t.left ≤ new → x.units ≢ 0 → x.units ≡ new - t.left
    → charges.items ≡ slice_set t.charges.items x.channel (PendingCharge c x.plug 0)
    → Follows true t (record t { left = new; charges = charges })
    (moved_by c (allowed l c BandwidthAvailable t.left new (Some (x.plug, ReleaseUnits x.channel (new - t.left)))) l)
released_follows t l c new x charges h lt held more some same e =
    let k = releases t l c new x h held more some same in
    swap_taken t _ l c x.plug (ReleaseUnits x.channel (new - t.left)) BandwidthAvailable t.left new k
    (units_stand t l c new 0 x charges h held (moves_keep c x.plug (ReleaseUnits x.channel (new - t.left)) l lt h.sound k.can) k.later e)

-- ---- what the words decide

pub less_decoded : (t : Tables) (l : Account) (c arg new : ℕ) (x : PendingAllocation) (taken : Bool) (made : Tables) → StandsFor t l → arg ≡ t.left → IsHeld c (Some x) l
    → new < arg → Follows taken t made (moved_by c (allowed l c BandwidthAvailable t.left new (Some (x.plug, AllocateUnits x.channel (t.left - new)))) l)
    → Follows taken t made (moved_by c (move_at l c BandwidthAvailable arg new) l)
less_decoded t l c arg new x taken made h same held less follows =
    let test : nat_lt new arg ≡ true = grind (arith, nat_tests) in
    swap_decoded taken t made l c BandwidthAvailable arg new (Some (x.plug, AllocateUnits x.channel (arg - new)))
    (units_decoded l c x arg new h.sound held ∙ ap
    (λ b. Some (x.plug, cond b (AllocateUnits x.channel (arg - new)) (ReleaseUnits x.channel (new - arg)))) test)
    (subst (λ k. Follows taken t made (moved_by c (allowed l c BandwidthAvailable k new (Some (x.plug, AllocateUnits x.channel (k - new)))) l)) (sym same)
    follows)

pub more_decoded : (t : Tables) (l : Account) (c arg new : ℕ) (x : PendingAllocation) (taken : Bool) (made : Tables) → StandsFor t l → arg ≡ t.left → IsHeld c (Some x) l
    → arg ≤ new → Follows taken t made (moved_by c (allowed l c BandwidthAvailable t.left new (Some (x.plug, ReleaseUnits x.channel (new - t.left)))) l)
    → Follows taken t made (moved_by c (move_at l c BandwidthAvailable arg new) l)
more_decoded t l c arg new x taken made h same held more follows =
    let test : nat_lt new arg ≡ false = grind (arith, nat_tests) in
    swap_decoded taken t made l c BandwidthAvailable arg new (Some (x.plug, ReleaseUnits x.channel (new - arg)))
    (units_decoded l c x arg new h.sound held ∙ ap
    (λ b. Some (x.plug, cond b (AllocateUnits x.channel (arg - new)) (ReleaseUnits x.channel (new - arg)))) test)
    (subst (λ k. Follows taken t made (moved_by c (allowed l c BandwidthAvailable k new (Some (x.plug, ReleaseUnits x.channel (new - k)))) l)) (sym same)
    follows)
