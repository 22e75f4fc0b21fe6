-- The wire of the machine against a state of the run: pairs that are put and taken, and what stands if a controller is another one.
use Rattle.fw_bus_state.proofs.Common.{◌≡◌, ◌≢◌, ◌⊎◌, inl, inr, ℕ, List, [], ◌∷◌, ◌++◌, Bool, true, false, cond, option_map, Option, Some, None, refl, ap, sym, subst, ◌∙◌, cases_eq, same_Some, update}
use Rattle.fw_bus_state.proofs.Common.{ControllerState, ResetEntry, NodeRow, State, directory_of, number_in, IsGood, IsLatest}
use Rattle.std.proofs.Common.{not, eqb, slice_get}
use Rattle.std.proofs.lemmas.Bool.{eq-eqb, eqb-true, cases_Bool}
use Rattle.std.proofs.lemmas.Option.{none-some}
use Rattle.std.proofs.lemmas.Map.Entries.{lookup-filter-keys}
use Rattle.fw_async.specs.declared.packet.Packet.{Packet}
use Rattle.fw_async.specs.Async.{spelling}
use Rattle.fw_async.specs.Wire.{Pairs, bytes_from, without}
use Rattle.fw_cmp.specs.Works.{standing_in}
use Rattle.fw_model_run.specs.State.{device_in}
use Rattle.fw_model_run.proofs.Turns.{update_new, update_others}
use Rattle.fw_model_run.proofs.Words.{device_of_number}
use Rattle.fw_bus_state.specs.Wires.{HasRequests, HasWire, controller_asks, packet_for}
use Rattle.std.specs.Option.{option_and_then}

-- ---- pairs

apart : (a b : ℕ) → a ≢ b → eqb a b ≡ false
apart a b ne = elim (cases_Bool (eqb a b)) [ inl y ↦ absurd (ne (eqb-true a b y)) | inr n ↦ n ]

-- one more, of a sender that has none
pub put_own : (w : Pairs) (q : ℕ) (b : List ℕ) → bytes_from q w ≡ None → bytes_from q (w ++ (q, b) ∷ []) ≡ Some b
put_own [] q b e = ap (λ t. cond t (Some b) None) (eq-eqb q q refl)
put_own (p ∷ w) q b e = go (eqb q p.0) (bytes_from q w) e (put_own w q b)
  where
    go : (t : Bool) (o : Option (List ℕ)) → cond t (Some p.1) o ≡ None → (o ≡ None → bytes_from q (w ++ (q, b) ∷ []) ≡ Some b)
        → cond t (Some p.1) (bytes_from q (w ++ (q, b) ∷ [])) ≡ Some b
    go true o e more = absurd (none-some p.1 (sym e))
    go false o e more = more e

-- the others have theirs still
pub put_other : (w : Pairs) (q n : ℕ) (b : List ℕ) → n ≢ q → bytes_from n (w ++ (q, b) ∷ []) ≡ bytes_from n w
put_other [] q n b ne = ap (λ t. cond t (Some b) None) (apart n q ne)
put_other (p ∷ w) q n b ne = ap (cond (eqb n p.0) (Some p.1)) (put_other w q n b ne)

-- one less
pub take_own : (w : Pairs) (q : ℕ) → bytes_from q (without q w) ≡ None
take_own w q = lookup-filter-keys (eqb q) (λ x. not (eqb q x)) false (λ k e. ap not e) w

pub take_other : (w : Pairs) (q n : ℕ) → n ≢ q → bytes_from n (without q w) ≡ bytes_from n w
take_other w q n ne = lookup-filter-keys (eqb n) (λ x. not (eqb q x)) true (λ k e. ap not (apart q k (λ same. ne (eqb-true n k e ∙ sym same)))) w

-- ---- requests that stand, whoever asks

-- nothing lies on a wire if nobody asks
pub no_requests : (latest : Option ResetEntry) (asked : ℕ → Option Packet) → ((d : ℕ) → asked d ≡ None) → HasRequests [] latest asked
no_requests latest asked none = record { each = λ n. sym (ap (option_map spelling) (go (device_in latest n))) }
  where
    go : (o : Option ℕ) → option_and_then asked o ≡ None
    go None = refl
    go (Some d) = none d

-- the same requests stand if all ask what they asked
pub requests_same : (w : Pairs) (latest : Option ResetEntry) (asked now : ℕ → Option Packet) → ((d : ℕ) → now d ≡ asked d) → HasRequests w latest asked → HasRequests w latest now
requests_same w latest asked now same h = record { each = λ n. h.each n ∙ (λ i. option_map spelling (option_and_then (λ d. sym (same d) i) (device_in latest n))) }

-- the device of a node has its number
pub number_of_device : (s : State) (d n : ℕ) → IsGood s → device_in s.account.latest n ≡ Some d → number_in s.account.latest d ≡ Some n
number_of_device s d n g at = go s.account.latest g.latest at
  where
    row : (e : ResetEntry) → IsLatest (Some e) s.declared s.account → (o : Option NodeRow) → slice_get e.nodes n ≡ o → option_map (λ (r : NodeRow). r.device) o ≡ Some d
        → number_in (Some e) d ≡ Some n
    row e h None is x = absurd (none-some d x)
    row e h (Some r) is x = ap (number_in (Some e)) (sym (same_Some r.device d x)) ∙ (h.1.rows n r is).1

    go : (o : Option ResetEntry) → IsLatest o s.declared s.account → device_in o n ≡ Some d → number_in o d ≡ Some n
    go None h x = absurd (none-some d x)
    go (Some e) h x = row e h (slice_get e.nodes n) refl x

-- what stands of a node, by its device
pub stands_at : (w : Pairs) (s : State) (asked : ℕ → Option Packet) (d own : ℕ) → IsGood s → number_in s.account.latest d ≡ Some own → HasRequests w s.account.latest asked
    → bytes_from own w ≡ option_map spelling (asked d)
stands_at w s asked d own g at h = h.each own ∙ ap (λ o. option_map spelling (option_and_then asked o)) (device_of_number s d own g at)

-- v are the pairs w, but that this request of node own stands, or none
pub record WithRequest (w v : Pairs) (own : ℕ) (o : Option Packet) : Type 0 where
  pub here : bytes_from own v ≡ option_map spelling o
  pub others : (n : ℕ) → n ≢ own → bytes_from n v ≡ bytes_from n w

-- it goes out
pub put_request : (w : Pairs) (own : ℕ) (p : Packet) → bytes_from own w ≡ None → WithRequest w (w ++ (own, spelling p) ∷ []) own (Some p)
put_request w own p free = record { here = put_own w own (spelling p) free; others = λ n ne. put_other w own n (spelling p) ne }

-- it is carried out
pub take_request : (w : Pairs) (own : ℕ) → WithRequest w (without own w) own None
take_request w own = record { here = take_own w own; others = λ n ne. take_other w own n ne }

-- it is what it was
pub keep_request : (w : Pairs) (own : ℕ) (o : Option Packet) → bytes_from own w ≡ option_map spelling o → WithRequest w w own o
keep_request w own o is = record { here = is; others = λ n ne. refl }

-- one device asks another thing, or nothing
pub requests_change : (w v : Pairs) (s : State) (asked now : ℕ → Option Packet) (d own : ℕ) → IsGood s → number_in s.account.latest d ≡ Some own → WithRequest w v own (now d)
    → ((k : ℕ) → k ≢ d → now k ≡ asked k) → HasRequests w s.account.latest asked → HasRequests v s.account.latest now
requests_change w v s asked now d own g at x same h = record { each = λ n. go n (cases_eq n own) }
  where
    r : Option ResetEntry
    r = s.account.latest

    elsewhere : (n : ℕ) → n ≢ own → (o : Option ℕ) → device_in r n ≡ o → option_and_then now o ≡ option_and_then asked o
    elsewhere n ne None is = refl
    elsewhere n ne (Some k) is = same k (λ e. ne (same_Some n own (sym (number_of_device s k n g is) ∙ (ap (number_in r) e ∙ at))))

    go : (n : ℕ) → (n ≡ own) ⊎ (n ≢ own) → bytes_from n v ≡ option_map spelling (option_and_then now (device_in r n))
    go n (inl is) =
        subst (λ k. bytes_from k v ≡ option_map spelling (option_and_then now (device_in r k))) (sym is)
        (x.here ∙ sym (ap (λ o. option_map spelling (option_and_then now o)) (device_of_number s d own g at)))
    go n (inr ne) = x.others n ne ∙ (h.each n ∙ sym (ap (option_map spelling) (elsewhere n ne (device_in r n) refl)))

-- ---- the requests of controllers

-- the same stand if the bus, what controllers are told, and what they are at is the same
pub wire_same : (w : Pairs) (s t : State) → t.account.latest ≡ s.account.latest → directory_of t ≡ directory_of s
    → ((d : ℕ) → (t.controllers d).current ≡ (s.controllers d).current) → HasWire w s → HasWire w t
wire_same w s t latest told currents h = record {
  each = λ n. h.each n
      ∙ (λ i. option_map spelling (option_and_then (λ d. packet_for (sym latest i) (sym told i) d (standing_in (sym (currents d) i))) (device_in (sym latest i) n)));
}

-- the state with this controller of device d, and the same bus
pub record Becomes (s t : State) (d : ℕ) (c : ControllerState) : Type 0 where
  pub latest : t.account.latest ≡ s.account.latest
  pub told : directory_of t ≡ directory_of s
  pub controllers : t.controllers ≡ update s.controllers d c

-- one controller is another one
pub changed_wire : (w v : Pairs) (s t : State) (d own : ℕ) (c : ControllerState) → IsGood s → Becomes s t d c → number_in s.account.latest d ≡ Some own
    → WithRequest w v own (packet_for s.account.latest (directory_of s) d (standing_in c.current)) → HasWire w s → HasWire v t
changed_wire w v s t d own c g b at x h =
    wire_same v (record s { controllers = update s.controllers d c }) t b.latest b.told (λ k. ap (λ (f : ℕ → ControllerState). (f k).current) b.controllers)
    (requests_change w v s (controller_asks s) (λ k. asks k (update s.controllers d c k)) d own g at
    (subst (WithRequest w v own) (sym (ap (asks d) (update_new s.controllers d c))) x) (λ k ne. ap (asks k) (update_others s.controllers d c k ne)) h)
  where
    asks : ℕ → ControllerState → Option Packet
    asks k y = packet_for s.account.latest (directory_of s) k (standing_in y.current)
