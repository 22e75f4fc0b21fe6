-- An outstanding request on a wire: its bytes, and the device that they go to.
use Rattle.fw_bus_engine.proofs.Common.{◌≡◌, ◌%◌, ℕ, List, option_map, Option, Some, None, refl, ap, sym, ◌∙◌, same_Some, none-some, spelling, Pairs, bytes_from, Packet, node_device, Network}
use Rattle.fw_async.specs.Heads.{head_of}
use Rattle.fw_async.specs.Reader.{Spells}
use Rattle.fw_bus_engine.specs.Exchanging.{IsOutstanding}

-- some bytes are found there
pub some_stand : {A : Type 0} {n : Network} {wire : Pairs} {from device : ℕ} {p : Packet} (f : A → List ℕ) (o : Option A) → IsOutstanding n wire from device p
    → option_map f o ≡ bytes_from from wire → (x : A) × (o ≡ Some x)
some_stand {p = p} f None x e = absurd (none-some (spelling p) (e ∙ x.stands))
some_stand f (Some b) x e = (b, refl)

-- they are the packet's
pub spells_it : {n : Network} {wire : Pairs} {from device : ℕ} {p : Packet} {bytes : List ℕ} → IsOutstanding n wire from device p → Some bytes ≡ bytes_from from wire → Spells p bytes
spells_it {bytes = bytes} x e = record { fits = x.fits; same = same_Some _ bytes (sym x.stands ∙ sym e) }

-- the device of the node whose number was read in them
pub goes_to : {n : Network} {wire : Pairs} {from device : ℕ} {p : Packet} (number id : ℕ) → IsOutstanding n wire from device p → number ≡ id % 64 → id ≡ (head_of p).destination
    → node_device n.latest.nodes number ≡ Some device
goes_to {n} number id x is at = ap (node_device n.latest.nodes) (is ∙ ap (λ (i : ℕ). i % 64) at) ∙ x.goes
