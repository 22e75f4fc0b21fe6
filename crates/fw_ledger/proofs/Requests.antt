-- The tables after a request.
use Rattle.fw_ledger.proofs.Common.{PlugAt, ◌≡◌, ◌≢◌, ◌<◌, ℕ, Bool, true, false, not, Option, Some, None, length, slice_set, Vec, Global, cond, get_or-set_same, get_or-set_other, ◌⊎◌, inl, inr}
use Rattle.fw_ledger.proofs.Common.{is_some, refl, sym, ◌∙◌, ap, length-set, Account, Request, GoesOn, StandsFor, AskedFor, Tables, Asked, update}
use Rattle.fw_ledger.proofs.Common.{cases_eq, false≢true}
use Rattle.std.proofs.Common.{is_none}
use Rattle.fw_model_account.specs.Account.{has_pending}
use Rattle.fw_model_account.specs.Packets.{asked, asked_by, addressed_after}
use Rattle.fw_model_account.specs.Words.{output_addressed}
use Rattle.fw_model_audit.specs.Looked.{Asks}
use Rattle.fw_ledger.specs.Refused.{IsRefusedFor}
use Rattle.fw_ledger.specs.declared.refused.Refused.TheVariants.{Overlap}
use Rattle.fw_account_tables.specs.Stands.{plug_of, addressed_at}
use Rattle.fw_account_tables.specs.declared.tables.Addressed.{Addressed}
use Rattle.fw_account_tables.specs.declared.tables.Addressed.TheVariants.{Nowhere}
use Rattle.fw_log_entry.specs.Network.{device_of_id}
use Rattle.fw_account_tables.proofs.Related.{related_set, update_other}
use Rattle.fw_model_account.proofs.Packets.{asked_keeps}

-- a request of controller c at this output plug changes what c addressed, and nothing else
addressed_else : (c d : ℕ) (o : Option PlugAt) (l : Account) → d ≢ c → addressed_after c o l d ≡ l.addressed d
addressed_else c d None l ne = refl
addressed_else c d (Some p) l ne = go (has_pending c l.allocations)
  where
    go : (b : Bool) → (cond b l.addressed (update l.addressed c (Some p))) d ≡ l.addressed d
    go true = refl
    go false = update_other l.addressed c d (Some p) ne

-- the tables after a request of controller c that has none outstanding
pub asked_stands : (t : Tables) (l : Account) (c : ℕ) (request : Request) (a : Asked) (x : Addressed) (plugs : Vec Addressed Global) (requests : Vec Asked Global) → StandsFor t l → c < 63
    → l.latest ≢ None
    → plugs.items ≡ slice_set t.addressed.items c x → requests.items ≡ slice_set t.asked.items c a → AskedFor a (Some request)
    → plug_of x ≡ addressed_after c (output_addressed l.latest request.target request.address) l c
    → StandsFor (record t { addressed = plugs; asked = requests }) (asked c request l)
asked_stands t l c request a x plugs requests h lt started at_plugs at_requests is here = record {
  sizes = record {
    charges = h.sizes.charges;
    reclaimable = h.sizes.reclaimable;
    outputs = h.sizes.outputs;
    inputs = h.sizes.inputs;
    output_seats = h.sizes.output_seats;
    input_seats = h.sizes.input_seats;
    continues = h.sizes.continues;
    addressed = ap length at_plugs ∙ length-set t.addressed.items c x ∙ h.sizes.addressed;
    asked = ap length at_requests ∙ length-set t.asked.items c a ∙ h.sizes.asked;
  };
  latest = h.latest;
  plugs = h.plugs;
  withheld = h.withheld;
  resources = h.resources;
  second = record { runs = h.second.runs; reclaimable = h.second.reclaimable; continues = h.second.continues };
  outputs = h.outputs;
  inputs = h.inputs;
  controllers = record {
    addressed = λ d dlt. at_place d (cases_eq d c) dlt;
    asked = λ d dlt. rw at_requests (related_set AskedFor t.asked.items c a _ 63 l.outstanding (Some request) h.sizes.asked is h.controllers.asked d dlt);
  };
  sound = asked_keeps c request l started h.sound;
}
  where
    at_place : (d : ℕ) → (d ≡ c) ⊎ (d ≢ c) → d < 63 → plug_of (addressed_at plugs.items d) ≡ addressed_after c (output_addressed l.latest request.target request.address) l d
    at_place d (inl e) dlt = rw e (rw at_plugs (rw (get_or-set_same t.addressed.items c x Nowhere (rw h.sizes.addressed lt)) here))
    at_place d (inr ne) dlt = rw at_plugs (rw (get_or-set_other t.addressed.items c d x Nowhere ne)
        (h.controllers.addressed d dlt ∙ sym (addressed_else c d (output_addressed l.latest request.target request.address) l ne)))

-- no request is outstanding if not one is
none_is : (o : Option Request) → is_none o ≡ not (is_some o)
none_is None = refl
none_is (Some r) = refl

-- a request by no device is refused
pub refused_none : (l : Account) (o : Option ℕ) (request : Request) → o ≡ None → asked_by o request l ≡ None
refused_none l o request e = rw e refl

-- there is one
request_there : (o : Option Request) → is_some o ≡ true → (q : Request) × (o ≡ Some q)
request_there None busy = absurd (false≢true busy)
request_there (Some q) busy = (q, refl)

-- a request by this device is refused beside another
pub refused_beside : (l : Account) (c id : ℕ) (request : Request) → device_of_id l.latest id ≡ Some c → is_some (l.outstanding c) ≡ true
    → (asked_by (device_of_id l.latest id) request l ≡ None) × IsRefusedFor l (Asks id) (Overlap id)
refused_beside l c id request e busy =
    let q = request_there (l.outstanding c) busy in
    (rw (e, none_is (l.outstanding c), busy) refl, (refl, (c, q.0, e, q.1)))

pub asked_follows : (new : Tables) (l : Account) (c : ℕ) (o : Option ℕ) (request : Request) → o ≡ Some c → is_some (l.outstanding c) ≡ false → StandsFor new (asked c request l)
    → GoesOn new (asked_by o request l)
asked_follows new l c o request e free h = rw (e, none_is (l.outstanding c), free) h
