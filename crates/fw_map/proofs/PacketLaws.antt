-- What the packets of a numbering say of its nodes' ports.
use Rattle.fw_map.proofs.Common.{◌≡◌, inl, inr, ℕ, zero, suc, ◌+◌, ◌-◌, ◌<◌, ◌≤◌, ◌==◌, ◌&&◌, nat_lt, List, [], ◌∷◌, ◌++◌, Option, Some, None, Bool, true, false, slice_get, slice_index_or, unwrap_or}
use Rattle.fw_map.proofs.Common.{if◌then◌else◌, arith, refl, sym, ap, ◌∙◌, cases_eq, cases_lt, eq-eqb, ne_eqb, nat_tests, PhyPacket, number_at, field_in, field_of}
use Rattle.std.proofs.Common.{nat_le}
use Rattle.std.proofs.lemmas.Option.{slice_get_past}
use Rattle.fw_tree.specs.declared.facts.End.{End}
use Rattle.fw_tree.specs.declared.facts.PhyFacts.{PhyFacts}
use Rattle.fw_tree.specs.Cables.{Peers}
use Rattle.fw_tree.specs.SelfIds.{cable_code, port_code, first_port, first_packet, more_packet, further_packet, node_packets, facts_at, ArePackets, node, no_node}

-- the field of a port in packets, or another if none has it
field_or : ℕ → ℕ → List PhyPacket → ℕ → ℕ
field_or d p [] z = z
field_or d p (q ∷ qs) z = unwrap_or (field_in q d p) (field_or d p qs z)

field_is : (d p : ℕ) (qs : List PhyPacket) → field_of qs d p ≡ field_or d p qs 0
unfolding field_or
field_is d p [] = refl
field_is d p (q ∷ qs) = ap (λ z. unwrap_or (field_in q d p) z) (field_is d p qs)

no_packet : (d p z : ℕ) → field_or d p [] z ≡ z
unfolding field_or
no_packet d p z = refl

field_append : (d p : ℕ) (ps qs : List PhyPacket) (z : ℕ) → field_or d p (ps ++ qs) z ≡ field_or d p ps (field_or d p qs z)
unfolding field_or
field_append d p [] qs z = refl
field_append d p (q ∷ ps) qs z = ap (λ y. unwrap_or (field_in q d p) y) (field_append d p ps qs z)

if_false : (b : Bool) (o : Option ℕ) → b ≡ false → (if b then o else None) ≡ None
if_false b o h = rw h refl

if_true : (b : Bool) (o : Option ℕ) → b ≡ true → (if b then o else None) ≡ o
if_true b o h = rw h refl

and_false : (a b : Bool) → a ≡ false → (a && b) ≡ false
and_false a b h = rw h refl

second_false : (a b : Bool) → b ≡ false → (a && b) ≡ false
second_false true b h = h
second_false false b h = refl

-- the packets of another node
first_other : (f : PhyFacts) (cables : List (Option End)) (parent : Option ℕ) (k : ℕ) (b : Bool) (d p : ℕ) → (k ≡ d → ⊥) → field_in (first_packet f cables parent k b) d p ≡ None
first_other f cables parent k b d p differ = if_false (k == d) _ (ne_eqb k d differ)

more_other : (f : PhyFacts) (cables : List (Option End)) (parent : Option ℕ) (k number d p : ℕ) → (k ≡ d → ⊥) → field_in (more_packet f cables parent k number) d p ≡ None
more_other f cables parent k number d p differ = if_false ((k == d) && nat_le (first_port number) p) _ (and_false (k == d) (nat_le (first_port number) p) (ne_eqb k d differ))

further_none : (f : PhyFacts) (cables : List (Option End)) (parent : Option ℕ) (k number d p z : ℕ) → field_in (more_packet f cables parent k number) d p ≡ None
    → field_or d p (further_packet f cables parent k number) z ≡ z
unfolding field_or
further_none f cables parent k number d p z h = step (nat_lt (first_port number) f.ports)
  where
    step : (b : Bool) → field_or d p (if b then more_packet f cables parent k number ∷ [] else []) z ≡ z
    step true = ap (λ o. unwrap_or o z) h
    step false = refl

node_append : (d p : ℕ) (a : PhyPacket) (x y w : List PhyPacket) (z : ℕ) → field_or d p (a ∷ [] ++ x ++ y ++ w) z ≡ unwrap_or (field_in a d p) (field_or d p x (field_or d p y (field_or d p w z)))
unfolding field_or
node_append d p a x y w z = ap (λ v. unwrap_or (field_in a d p) v) (field_append d p (x ++ y) w z ∙ field_append d p x y (field_or d p w z))

-- the packets of another node have no field of this one
node_other : (f : PhyFacts) (cables : List (Option End)) (parent : Option ℕ) (k : ℕ) (b : Bool) (d p z : ℕ) → (k ≡ d → ⊥) → field_or d p (node_packets f cables parent k b) z ≡ z
node_other f cables parent k b d p z differ =
    let n : (number y : ℕ) → field_or d p (further_packet f cables parent k number) y ≡ y = λ number y. further_none f cables parent k number d p y (more_other f cables parent k number d p differ) in
    node_append d p (first_packet f cables parent k b) (further_packet f cables parent k 0) (further_packet f cables parent k 1) (further_packet f cables parent k 2) z
    ∙ (ap (λ o. unwrap_or o (field_or d p (further_packet f cables parent k 0) (field_or d p (further_packet f cables parent k 1) (field_or d p (further_packet f cables parent k 2) z))))
    (first_other f cables parent k b d p differ)
    ∙ (n 0 (field_or d p (further_packet f cables parent k 1) (field_or d p (further_packet f cables parent k 2) z))
    ∙ (n 1 (field_or d p (further_packet f cables parent k 2) z) ∙ n 2 z)))

-- a list of eight, and of three
eight : (f : ℕ → ℕ) (at k : ℕ) → k < 8 → slice_get (f at ∷ f (at + 1) ∷ f (at + 2) ∷ f (at + 3) ∷ f (at + 4) ∷ f (at + 5) ∷ f (at + 6) ∷ f (at + 7) ∷ []) k ≡ Some (f (at + k))
eight f at zero l = let e : at ≡ at + 0 = omega arith in ap (λ n. Some (f n)) e
eight f at (suc zero) l = refl
eight f at (suc (suc zero)) l = refl
eight f at (suc (suc (suc zero))) l = refl
eight f at (suc (suc (suc (suc zero)))) l = refl
eight f at (suc (suc (suc (suc (suc zero))))) l = refl
eight f at (suc (suc (suc (suc (suc (suc zero)))))) l = refl
eight f at (suc (suc (suc (suc (suc (suc (suc zero))))))) l = refl
eight f at (suc (suc (suc (suc (suc (suc (suc (suc k)))))))) l = absurd (omega arith)

three : (f : ℕ → ℕ) (k : ℕ) → k < 3 → slice_get (f 0 ∷ f 1 ∷ f 2 ∷ []) k ≡ Some (f k)
three f zero l = refl
three f (suc zero) l = refl
three f (suc (suc zero)) l = refl
three f (suc (suc (suc k))) l = absurd (omega arith)

-- the packets of the node itself
first_own : (f : PhyFacts) (cables : List (Option End)) (parent : Option ℕ) (d : ℕ) (b : Bool) (p : ℕ) → p < 3
    → field_in (first_packet f cables parent d b) d p ≡ Some (port_code f.ports cables parent p)
first_own f cables parent d b p l = if_true (d == d) _ (eq-eqb d d refl) ∙ three (port_code f.ports cables parent) p l

first_past : (f : PhyFacts) (cables : List (Option End)) (parent : Option ℕ) (d : ℕ) (b : Bool) (p : ℕ) → 3 ≤ p → field_in (first_packet f cables parent d b) d p ≡ None
first_past f cables parent d b p l = if_true (d == d) _ (eq-eqb d d refl)
    ∙ slice_get_past (port_code f.ports cables parent 0 ∷ port_code f.ports cables parent 1 ∷ port_code f.ports cables parent 2 ∷ []) p l

more_own : (f : PhyFacts) (cables : List (Option End)) (parent : Option ℕ) (d number p : ℕ) → first_port number ≤ p → p < first_port number + 8
    → field_in (more_packet f cables parent d number) d p ≡ Some (port_code f.ports cables parent p)
more_own f cables parent d number p l m =
    let g = port_code f.ports cables parent in
    let at = first_port number in
    let e : at + (p - at) ≡ p = omega arith in
    if_true ((d == d) && nat_le at p) _ (both d at p l) ∙ (eight g at (p - at) (omega arith) ∙ ap (λ n. Some (g n)) e)
  where
    both : (d at p : ℕ) → at ≤ p → ((d == d) && nat_le at p) ≡ true
    both d at p l = grind (arith, nat_tests)

more_before : (f : PhyFacts) (cables : List (Option End)) (parent : Option ℕ) (d number p : ℕ) → p < first_port number → field_in (more_packet f cables parent d number) d p ≡ None
more_before f cables parent d number p l = if_false ((d == d) && nat_le (first_port number) p) _ (second_false (d == d) (nat_le (first_port number) p) (over (first_port number) p l))
  where
    over : (at p : ℕ) → p < at → nat_le at p ≡ false
    over at p l = grind (arith, nat_tests)

more_past : (f : PhyFacts) (cables : List (Option End)) (parent : Option ℕ) (d number p : ℕ) → first_port number + 8 ≤ p → field_in (more_packet f cables parent d number) d p ≡ None
more_past f cables parent d number p l =
    let g = port_code f.ports cables parent in
    let at = first_port number in
    let k : 8 ≤ p - at = omega arith in
    past ((d == d) && nat_le at p) (slice_get_past (g at ∷ g (at + 1) ∷ g (at + 2) ∷ g (at + 3) ∷ g (at + 4) ∷ g (at + 5) ∷ g (at + 6) ∷ g (at + 7) ∷ []) (p - at) k)
  where
    past : (b : Bool) {o : Option ℕ} → o ≡ None → (if b then o else None) ≡ None
    past true h = h
    past false h = refl

-- a port that the device lacks has field 0
no_port : (n : ℕ) (cables : List (Option End)) (parent : Option ℕ) (p : ℕ) → n ≤ p → port_code n cables parent p ≡ 0
no_port n cables parent p l = step (nat_lt p n) (cable_code (slice_index_or cables p None) parent p) (over p n l)
  where
    over : (p n : ℕ) → n ≤ p → nat_lt p n ≡ false
    over p n l = grind (arith, nat_tests)

    step : (b : Bool) (x : ℕ) → b ≡ false → (if b then x else 0) ≡ 0
    step b x h = rw h refl

further_own : (f : PhyFacts) (cables : List (Option End)) (parent : Option ℕ) (d number p z : ℕ) → z ≡ 0 → first_port number ≤ p → p < first_port number + 8
    → field_or d p (further_packet f cables parent d number) z ≡ port_code f.ports cables parent p
unfolding field_or
further_own f cables parent d number p z blank l m = elim (cases_lt (first_port number) f.ports) [
  | inl has ↦ step (nat_lt (first_port number) f.ports) (low (first_port number) f.ports has)
  | inr lacks ↦ none (nat_lt (first_port number) f.ports) (over (first_port number) f.ports lacks) lacks
]
  where
    low : (a n : ℕ) → a < n → nat_lt a n ≡ true
    low a n h = grind (arith, nat_tests)

    over : (a n : ℕ) → n ≤ a → nat_lt a n ≡ false
    over a n h = grind (arith, nat_tests)

    step : (b : Bool) → b ≡ true → field_or d p (if b then more_packet f cables parent d number ∷ [] else []) z ≡ port_code f.ports cables parent p
    step true h = ap (λ o. unwrap_or o z) (more_own f cables parent d number p l m)
    step false h = absurd (let k : ⊥ = cc in k)

    none : (b : Bool) → b ≡ false → f.ports ≤ first_port number → field_or d p (if b then more_packet f cables parent d number ∷ [] else []) z ≡ port_code f.ports cables parent p
    none true h lacks = absurd (let k : ⊥ = cc in k)
    none false h lacks = blank ∙ sym (no_port f.ports cables parent p (omega arith))

node_own : (f : PhyFacts) (cables : List (Option End)) (parent : Option ℕ) (d : ℕ) (b : Bool) (p : ℕ) → f.ports ≤ 27
    → field_or d p (node_packets f cables parent d b) 0 ≡ port_code f.ports cables parent p
node_own f cables parent d b p few =
    node_append d p (first_packet f cables parent d b) (further_packet f cables parent d 0) (further_packet f cables parent d 1) (further_packet f cables parent d 2) 0 ∙ elim (cases_lt p 3) [
      | inl l ↦ ap (λ o. unwrap_or o (x 0 (x 1 (x 2 0)))) (first_own f cables parent d b p l)
      | inr l ↦ ap (λ o. unwrap_or o (x 0 (x 1 (x 2 0)))) (first_past f cables parent d b p l) ∙ elim (cases_lt p 11) [
        | inl m ↦ further_own f cables parent d 0 p (x 1 (x 2 0)) (before 1 (x 2 0) (omega arith) ∙ before 2 0 (omega arith)) (omega arith) (omega arith)
        | inr m ↦ past 0 (x 1 (x 2 0)) (omega arith) ∙ elim (cases_lt p 19) [
          | inl k ↦ further_own f cables parent d 1 p (x 2 0) (before 2 0 (omega arith)) (omega arith) (omega arith)
          | inr k ↦ past 1 (x 2 0) (omega arith) ∙ elim (cases_lt p 27) [
            | inl j ↦ further_own f cables parent d 2 p 0 refl (omega arith) (omega arith)
            | inr j ↦ past 2 0 (omega arith) ∙ sym (no_port f.ports cables parent p (omega arith))
          ]
        ]
      ]
    ]
  where
    x : ℕ → ℕ → ℕ
    x number z = field_or d p (further_packet f cables parent d number) z

    before : (number z : ℕ) → p < first_port number → field_or d p (further_packet f cables parent d number) z ≡ z
    before number z l = further_none f cables parent d number d p z (more_before f cables parent d number p l)

    past : (number z : ℕ) → first_port number + 8 ≤ p → field_or d p (further_packet f cables parent d number) z ≡ z
    past number z l = further_none f cables parent d number d p z (more_past f cables parent d number p l)

none_from : (fs : List PhyFacts) (g : Peers) (number parents : List (Option ℕ)) (i n v p z : ℕ) (ps : List PhyPacket) → n ≤ v → ArePackets fs g number parents i n ps → field_or v p ps z ≡ z
none_from fs g number parents i n v p z ps l no_node = no_packet v p z
none_from fs g number parents i n v p z ps l (node {n = k} {ps = qs} a d h e) =
    ap (λ xs. field_or v p xs z) e ∙ (field_append v p qs (node_packets (facts_at fs d) (slice_index_or g d []) (number_at parents d) k (d == i)) z
    ∙ (none_from fs g number parents i k v p (field_or v p (node_packets (facts_at fs d) (slice_index_or g d []) (number_at parents d) k (d == i)) z) qs (omega arith) a
    ∙ node_other (facts_at fs d) (slice_index_or g d []) (number_at parents d) k (d == i) v p z (λ s. omega arith)))

-- the field of a node's port is the code of its device's port
pub fields_are : (fs : List PhyFacts) (g : Peers) (number parents : List (Option ℕ)) (i n v d p : ℕ) (ps : List PhyPacket)
    → ((d e n : ℕ) → number_at number d ≡ Some n → number_at number e ≡ Some n → d ≡ e) → (facts_at fs d).ports ≤ 27 → v < n → number_at number d ≡ Some v → ArePackets fs g number parents i n ps
    → field_of ps v p ≡ port_code (facts_at fs d).ports (slice_index_or g d []) (number_at parents d) p
fields_are fs g number parents i n v d p ps one few l at no_node = absurd (omega arith)
fields_are fs g number parents i n v d p ps one few l at (node {n = k} {ps = qs} a c h e) =
    field_is v p ps ∙ (ap (λ xs. field_or v p xs 0) e ∙ (field_append v p qs (node_packets (facts_at fs c) (slice_index_or g c []) (number_at parents c) k (c == i)) 0 ∙ elim (cases_eq k v) [
      | inl same ↦
          let here : c ≡ d = one c d v (h ∙ ap (λ m. Some m) same) at in
          none_from fs g number parents i k v p (field_or v p (node_packets (facts_at fs c) (slice_index_or g c []) (number_at parents c) k (c == i)) 0) qs (omega arith) a
          ∙ (ap (λ m. field_or v p (node_packets (facts_at fs c) (slice_index_or g c []) (number_at parents c) m (c == i)) 0) same
          ∙ (ap (λ x. field_or v p (node_packets (facts_at fs x) (slice_index_or g x []) (number_at parents x) v (c == i)) 0) here
          ∙ node_own (facts_at fs d) (slice_index_or g d []) (number_at parents d) v (c == i) p few))
      | inr differ ↦
          ap (λ z. field_or v p qs z) (node_other (facts_at fs c) (slice_index_or g c []) (number_at parents c) k (c == i) v p 0 differ)
          ∙ (sym (field_is v p qs) ∙ fields_are fs g number parents i k v d p qs one few (omega arith) at a)
    ]))
