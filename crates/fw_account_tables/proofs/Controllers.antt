-- What the tables tell of controllers: the device of a node ID, what it holds, has asked and addressed.
use Rattle.fw_account_tables.proofs.Common.{PlugAt, ◌≡◌, ◌<◌, ℕ, Bool, true, false, Option, Some, None, cond}
use Rattle.fw_account_tables.proofs.Common.{is_some, refl, sym, ◌∙◌, ap, rules, Account, Request, is_pending, StandsFor, AskedFor, allocation_of, charge_at, Tables, Asked, update, find_to}
use Rattle.fw_account_tables.proofs.Common.{false≢true, NotAsked, option_map, NodeRow}
use Rattle.std.proofs.Common.{IfSome}
use Rattle.fw_model_account.specs.Account.{has_pending}
use Rattle.fw_model_account.specs.Packets.{addressed_after}
use Rattle.fw_model_account.specs.Decode.{is_plug}
use Rattle.fw_terms.proofs.Tables.{same_plug-true}
use Rattle.fw_account_tables.specs.Stands.{is_asked, device_at}
use Rattle.fw_account_tables.specs.declared.tables.Asked.TheVariants.{Read, Swap, Lock}
use Rattle.fw_log_entry.specs.Network.{device_of_id}
use Rattle.fw_account_tables.proofs.Plugs.{row_is, pending_is_found}
use Rattle.fw_account_tables.proofs.Related.{update_same}
use Rattle.fw_model_account.proofs.Packets.{device_below}

-- the device of a node ID, by the nodes that are kept
pub device_is : (t : Tables) (l : Account) (id : ℕ) → StandsFor t l → device_at t.nodes id ≡ device_of_id l.latest id
device_is t l id h = ap (option_map (λ (r : NodeRow). r.device)) (row_is t.started t.manager t.nodes l.latest id h.latest)

-- it is below 63
pub device_within : (o : Option ℕ) (t : Tables) (l : Account) (id : ℕ) → StandsFor t l → o ≡ device_of_id l.latest id → IfSome o (λ d. d < 63)
device_within None t l id h e = search rules
device_within (Some d) t l id h e = device_below l.latest id d h.sound.range (sym e)

-- a controller has a Pending allocation
pub holds_is : (t : Tables) (l : Account) (c : ℕ) → StandsFor t l → is_some (find_to 64 (λ ch. is_pending c (allocation_of (charge_at t.charges.items ch)))) ≡ has_pending c l.allocations
holds_is t l c h = ap is_some (pending_is_found t l c h)

-- a request is outstanding exactly if the table has one
pub outstanding_is : (a : Asked) (o : Option Request) → AskedFor a o → is_asked a ≡ is_some o
outstanding_is NotAsked o h = rw h refl
outstanding_is (Read target address) o h = rw h refl
outstanding_is (Swap target address swap) o h = rw h.1 refl
outstanding_is (Lock target address function) o h = rw h.1 refl

-- what c addressed: the plug, if c has no Pending allocation
pub addressed_plug : (c : ℕ) (o : Option PlugAt) (p : PlugAt) (l : Account) → o ≡ Some p → has_pending c l.allocations ≡ false → Some p ≡ addressed_after c o l c
addressed_plug c o p l e none = rw e (rw none (sym (update_same l.addressed c c (Some p) refl)))

pub addressed_held : (c : ℕ) (o : Option PlugAt) (l : Account) → has_pending c l.allocations ≡ true → l.addressed c ≡ addressed_after c o l c
addressed_held c None l some = refl
addressed_held c (Some p) l some = rw some refl

-- the same plug again
pub addressed_again : (c : ℕ) (o : Option PlugAt) (p : PlugAt) (before : Option PlugAt) (l : Account) → o ≡ Some p → before ≡ l.addressed c → is_plug p before ≡ true → before ≡ addressed_after c o l c
addressed_again c o p None l e is same = absurd (false≢true same)
addressed_again c o p (Some q) l e is same =
    let one : q ≡ p = same_plug-true q p same in
    rw e (go (has_pending c l.allocations) one)
  where
    go : (b : Bool) → q ≡ p → Some q ≡ (cond b l.addressed (update l.addressed c (Some p))) c
    go true one = is
    go false one = ap (λ r. Some r) one ∙ sym (update_same l.addressed c c (Some p) refl)

pub addressed_none : (c : ℕ) (o : Option PlugAt) (l : Account) → o ≡ None → l.addressed c ≡ addressed_after c o l c
addressed_none c o l e = rw e refl
