-- The bus only grows: what a reset entry shows of plugs, links and a manager is shown by the next one, if devices stay on the bus.
use Rattle.fw_model_run.proofs.Common.{◌≡◌, ℕ, ◌<◌, List, length, slice_get, cond, true, false, Bool, Option, Some, None, is_some, refl, ap, sym, ◌∙◌, arith, IsTrue, DeviceKind, PlugAt, is_contender}
use Rattle.fw_model_run.proofs.Common.{ResetEntry, NodeRow, IsOnBus, number_at, Topology, Made, Account, is_output}
use Rattle.fw_model_run.proofs.Common.{is_input, is_output_of, is_input_of, any_at, kind_at, IsResetEntry, node_number, row_of}
use Rattle.fw_model_run.proofs.Common.{Shows, on_bus_declared, with_link, linked_number}
use Rattle.fw_terms.proofs.KindLaws.{contender_linked}
use Rattle.fw_tree.specs.Numbering.{IsManager, Contends}
use Rattle.fw_model_controllers.specs.Registers.{has_manager}
use Rattle.fw_devices.specs.Network.{AreKinds}
use Rattle.fw_devices.specs.Entries.{number_of}
use Rattle.fw_devices.proofs.EntryLaws.{rows_of}
use Rattle.fw_devices.proofs.RowLaws.{number_in}
use Rattle.fw_model_reclaim.specs.Worlds.{Grows}
use Rattle.fw_model_run.specs.State.{is_relay}
use Rattle.fw_model_run.specs.Good.{ManagerContends}
use Rattle.fw_model_run.proofs.Buses.{row_place}
use Rattle.fw_model_run.proofs.Directories.{linked_number_is}

-- ---- one device

-- a number that is there
pub record Number (o : Option ℕ) : Type 0 where
  pub number : ℕ
  pub is : o ≡ Some number

pub number_there : (o : Option ℕ) → IsTrue (is_some o) → Number o
number_there None on = absurd (grind (arith, on))
number_there (Some n) on = record { number = n; is = refl }

-- what two entries show of devices of the same kinds, of which all that were on the bus are on it
pub record Follows (t u : Topology) (kinds : List DeviceKind) (e f : ResetEntry) : Type 0 where
  pub made : Made u
  pub some : 0 < length u.devices
  pub before : Shows t kinds e
  pub after : Shows u kinds f
  pub stays : (d : ℕ) → IsOnBus t.cables d → IsOnBus u.cables d

-- a node is one after the bus reset
pub stays_node : (t u : Topology) (kinds : List DeviceKind) (e f : ResetEntry) → Follows t u kinds e f → (d n : ℕ) → node_number e.nodes d ≡ Some n → Number (node_number f.nodes d)
stays_node t u kinds e f h d n at =
    let there : d < length t.devices = h.before.declared n (row_of d (kind_at kinds d)) (h.before.numbers d n at) in
    let walk : IsOnBus u.cables d = h.stays d ((h.before.nodes d there).0 (ap is_some at)) in
    number_there (node_number f.nodes d) ((h.after.nodes d (on_bus_declared u h.made h.some d walk)).1 walk)

-- so is one with a link
pub stays_linked : (t u : Topology) (kinds : List DeviceKind) (e f : ResetEntry) → Follows t u kinds e f → (d n : ℕ) → linked_number (Some e) d ≡ Some n → Number (linked_number (Some f) d)
stays_linked t u kinds e f h d n at = record {
  number = m.number;
  is = ap (with_link f.nodes) m.is ∙ (ap (λ o. cond (is_relay o) None (Some m.number)) (h.after.numbers d m.number m.is) ∙ ap (λ b. cond b None (Some m.number)) quiet);
}
  where
    number : node_number e.nodes d ≡ Some n
    number = linked_number_is e d n at

    m : Number (node_number f.nodes d)
    m = stays_node t u kinds e f h d n number

    test : (b : Bool) → is_relay (slice_get e.nodes n) ≡ b → b ≡ false
    test false x = refl
    test true x = let none : linked_number (Some e) d ≡ None = ap (with_link e.nodes) number ∙ ap (λ b. cond b None (Some n)) x in absurd (grind (arith, none, at))

    quiet : is_relay (Some (row_of d (kind_at kinds d))) ≡ false
    quiet = sym (ap is_relay (h.before.numbers d n number)) ∙ test (is_relay (slice_get e.nodes n)) refl

-- ---- plugs

grows_row : (test : NodeRow → Bool) (t u : Topology) (kinds : List DeviceKind) (e f : ResetEntry) → Follows t u kinds e f → (n : ℕ) (row : NodeRow) → slice_get e.nodes n ≡ Some row → test row ≡ true
    → (m : ℕ) × (x : NodeRow) × (slice_get f.nodes m ≡ Some x) × (test x ≡ true)
grows_row test t u kinds e f h n row at passes =
    let shape = h.before.rows n row at in
    let m = stays_node t u kinds e f h row.device n shape.1 in
    (m.number, row_of row.device (kind_at kinds row.device), h.after.numbers row.device m.number m.is, sym (ap test shape.0) ∙ passes)

grows_output : (t u : Topology) (kinds : List DeviceKind) (e f : ResetEntry) → Follows t u kinds e f → (p : PlugAt) → is_output (Some e) p ≡ true → is_output (Some f) p ≡ true
grows_output t u kinds e f h p on =
    let w = row_place (is_output_of p) e.nodes on in
    let x = grows_row (is_output_of p) t u kinds e f h w.0 w.1 w.2 w.3 in
    any_at (is_output_of p) f.nodes x.0 x.1 x.2 x.3

grows_input : (t u : Topology) (kinds : List DeviceKind) (e f : ResetEntry) → Follows t u kinds e f → (p : PlugAt) → is_input (Some e) p ≡ true → is_input (Some f) p ≡ true
grows_input t u kinds e f h p on =
    let w = row_place (is_input_of p) e.nodes on in
    let x = grows_row (is_input_of p) t u kinds e f h w.0 w.1 w.2 w.3 in
    any_at (is_input_of p) f.nodes x.0 x.1 x.2 x.3

-- ---- the manager

-- a device of the bus that contends is there at the manager's choice
contends : (u : Topology) (kinds : List DeviceKind) (epoch initiator : ℕ) (f : ResetEntry) (r : IsResetEntry u kinds epoch initiator f) → AreKinds u.devices kinds → (d n : ℕ) → d < length u.devices
    → node_number f.nodes d ≡ Some n → is_contender (kind_at kinds d) ≡ true → Contends u.devices r.numbering.number d n
contends u kinds epoch initiator f r are d n low at is = record {
  numbered = sym (number_in r.numbering.number kinds f.nodes (rows_of u kinds epoch initiator f r) d) ∙ at;
  link = are.link d low ∙ contender_linked (kind_at kinds d) is;
  contender = are.contender d low ∙ is;
}

-- if a device of the bus contends there is a manager
pub manager_there : (u : Topology) (kinds : List DeviceKind) (epoch initiator : ℕ) (f : ResetEntry) (r : IsResetEntry u kinds epoch initiator f) → AreKinds u.devices kinds → (d n : ℕ)
    → d < length u.devices → node_number f.nodes d ≡ Some n → is_contender (kind_at kinds d) ≡ true → has_manager (Some f) ≡ true
manager_there u kinds epoch initiator f r are d n low at is = go r.manager r.manages r.manager_is
  where
    go : (o : Option ℕ) → IsManager u.devices r.numbering.number o → f.manager ≡ number_of r.numbering.number o → has_manager (Some f) ≡ true
    go None none e = absurd (none d n (contends u kinds epoch initiator f r are d n low at is))
    go (Some k) m e = ap is_some (e ∙ m.1.numbered)

-- the manager contends
pub manager_contends : (u : Topology) (kinds : List DeviceKind) (epoch initiator : ℕ) (f : ResetEntry) → IsResetEntry u kinds epoch initiator f → Shows u kinds f → AreKinds u.devices kinds
    → ManagerContends kinds f
manager_contends u kinds epoch initiator f r shows are n is = go r.manager r.manages (sym r.manager_is ∙ is)
  where
    place : (d : ℕ) → node_number f.nodes d ≡ number_at r.numbering.number d
    place d = number_in r.numbering.number kinds f.nodes (rows_of u kinds epoch initiator f r) d

    go : (o : Option ℕ) → IsManager u.devices r.numbering.number o → number_of r.numbering.number o ≡ Some n → (d : ℕ) × (node_number f.nodes d ≡ Some n) × IsTrue (is_contender (kind_at kinds d))
    go None none e = absurd (grind (arith, e))
    go (Some d) m e =
        let at : node_number f.nodes d ≡ Some n = place d ∙ e in
        (d, at, sym (are.contender d (shows.declared n (row_of d (kind_at kinds d)) (shows.numbers d n at))) ∙ m.1.contender)

-- ---- the entry of the next bus reset

pub grows : (l : Account) (t u : Topology) (kinds : List DeviceKind) (epoch initiator : ℕ) (e f : ResetEntry) → l.latest ≡ Some e → Follows t u kinds e f → IsResetEntry u kinds epoch initiator f
    → AreKinds u.devices kinds → ManagerContends kinds e → Grows l f
grows l t u kinds epoch initiator e f is h r are manages = record {
  outputs = λ p on. grows_output t u kinds e f h p (sym (ap (λ o. is_output o p) is) ∙ on);
  inputs = λ q on. grows_input t u kinds e f h q (sym (ap (λ o. is_input o q) is) ∙ on);
  manager = λ on. let m = number_there e.manager (sym (ap has_manager is) ∙ on) in
      let w = manages m.number m.is in
      let k = stays_node t u kinds e f h w.0 m.number w.1 in
      manager_there u kinds epoch initiator f r are w.0 k.number (h.after.declared k.number (row_of w.0 (kind_at kinds w.0)) (h.after.numbers w.0 k.number k.is)) k.is w.2;
}

-- the first one
pub grows_first : (l : Account) (f : ResetEntry) → l.latest ≡ None → Grows l f
grows_first l f is = record {
  outputs = λ p on. absurd (let off = ap (λ o. is_output o p) is in grind (arith, off, on));
  inputs = λ q on. absurd (let off = ap (λ o. is_input o q) is in grind (arith, off, on));
  manager = λ on. absurd (let off = ap has_manager is in grind (arith, off, on));
}
