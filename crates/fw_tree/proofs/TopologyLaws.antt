-- What is true of each cabling stays true.
use Rattle.fw_tree.proofs.Common.{◌≡◌, inl, inr, ℕ, zero, suc, ◌<◌, ◌≤◌, ◌==◌, ◌&&◌, ◌||◌, nat_lt, List, [], ◌∷◌, ◌++◌, length, Option, Some, None, IfSome, Bool, true, false, slice_index_or}
use Rattle.fw_tree.proofs.Common.{slice_set, take, replicate, arith, refl, sym, ap, subst, ◌∙◌, length-set, get_or-set_same, get_or-set_other, cases_eq, nat_tests, End, PhyFacts, Peers, peer, InRange}
use Rattle.fw_tree.proofs.Common.{is_seen, is_open, AreCables, IsSound}
use Rattle.std.proofs.Common.{length-append}
use Rattle.std.proofs.lemmas.List.{length-replicate}
use Rattle.std.proofs.lemmas.Grind.{common_steps}
use Rattle.fw_tree.specs.Cables.{IsClosed}
use Rattle.fw_tree.specs.Forest.{Splits, IsAdded}
use Rattle.fw_tree.specs.Topology.{ports_of, has_cable, are_used, put, with_cable, AreDevices, Separates}
use Rattle.fw_tree.proofs.ForestLaws.{first_of, second_of, still_no_loop, still_cables, is_at}

-- a store in a list of lists
pub peer_same : (g : Peers) (e : End) (o : Option End) → e.device < length g → e.port < length (slice_index_or g e.device []) → peer (put g e o) e.device e.port ≡ o
peer_same g e o h k = ap (λ row. slice_index_or row e.port None) (get_or-set_same g e.device (slice_set (slice_index_or g e.device []) e.port o) [] h)
    ∙ get_or-set_same (slice_index_or g e.device []) e.port o None k

pub peer_other : (g : Peers) (e : End) (o : Option End) (d p : ℕ) → e.device < length g → ((d ≡ e.device) × (p ≡ e.port) → ⊥) → peer (put g e o) d p ≡ peer g d p
peer_other g e o d p h differ = elim (cases_eq d e.device) [
  | inl same ↦ rw same (ap (λ row. slice_index_or row p None) (get_or-set_same g e.device (slice_set (slice_index_or g e.device []) e.port o) [] h)
      ∙ get_or-set_other (slice_index_or g e.device []) e.port p o None (λ q. differ (same, q)))
  | inr apart ↦ ap (λ row. slice_index_or row p None) (get_or-set_other g e.device d (slice_set (slice_index_or g e.device []) e.port o) [] apart)
]

abbrev Within : Option End → Type 0
Within o = IfSome o (λ e. (e.device < 63) × (e.port < 27))

alike : (o u : Option End) → o ≡ u → Within u → Within o
alike o u e h = subst Within (sym e) h

put_row : (g : Peers) (e : End) (o : Option End) (k : ℕ) → InRange g → e.device < 63 → k < 63 → length (slice_index_or (put g e o) k []) ≡ 27
put_row g e o k r h l = elim (cases_eq k e.device) [
  | inl same ↦ rw same (ap length (get_or-set_same g e.device (slice_set (slice_index_or g e.device []) e.port o) [] (omega (arith, r.devices))) ∙ length-set (slice_index_or g e.device []) e.port o
      ∙ r.ports e.device h)
  | inr apart ↦ ap length (get_or-set_other g e.device k (slice_set (slice_index_or g e.device []) e.port o) [] apart) ∙ r.ports k l
]

put_ends : (g : Peers) (e f : End) (k p : ℕ) → InRange g → e.device < 63 → e.port < 27 → f.device < 63 → f.port < 27 → Within (peer (put g e (Some f)) k p)
put_ends g e f k p r a b c d = elim (is_at k p e.device e.port) [
  | inl w ↦ alike (peer (put g e (Some f)) k p) (Some f) (rw (w.0, w.1) (peer_same g e (Some f) (omega (arith, r.devices)) (omega (arith, r.ports e.device a)))) (c, d)
  | inr n ↦ alike (peer (put g e (Some f)) k p) (peer g k p) (peer_other g e (Some f) k p (omega (arith, r.devices)) n) (r.ends k p)
]

pub put_range : (g : Peers) (e f : End) → InRange g → e.device < 63 → e.port < 27 → f.device < 63 → f.port < 27 → InRange (put g e (Some f))
put_range g e f r a b c d = record {
  devices = length-set g e.device (slice_set (slice_index_or g e.device []) e.port (Some f)) ∙ r.devices;
  ports = λ k h. put_row g e (Some f) k r a h;
  ends = λ k p. put_ends g e f k p r a b c d;
}

no_cable : (o : Option End) → has_cable o ≡ false → o ≡ None
no_cable None h = refl
no_cable (Some e) h = cc

free_first : (x y z : Bool) → (x || y || z) ≡ false → x ≡ false
free_first true y z h = h
free_first false y z h = refl

free_second : (x y z : Bool) → (x || y || z) ≡ false → y ≡ false
free_second true y z h = cc
free_second false true z h = h
free_second false false z h = refl

-- the four ends of a new cable are within
pub record Ends (a b : End) : Type 0 where
  pub a_device : a.device < 63
  pub a_port : a.port < 27
  pub b_device : b.device < 63
  pub b_port : b.port < 27

pub is_added : (g : Peers) (a b : End) → InRange g → Ends a b → are_used g a b ≡ false → (a.device ≡ b.device → ⊥) → IsAdded g (with_cable g a b) a b
is_added g a b r w free differ =
    let r1 = put_range g a b r w.a_device w.a_port w.b_device w.b_port in
    let x : a.device < length g = let e = r.devices in let h = w.a_device in omega arith in
    let y : b.device < length (put g a (Some b)) = let e = r1.devices in let h = w.b_device in omega arith in
    let u : a.port < length (slice_index_or g a.device []) = let e = r.ports a.device w.a_device in let h = w.a_port in omega arith in
    let v : b.port < length (slice_index_or (put g a (Some b)) b.device []) = let e = r1.ports b.device w.b_device in let h = w.b_port in omega arith in
    record {
      first = peer_other (put g a (Some b)) b (Some a) a.device a.port y (λ q. differ q.0) ∙ peer_same g a (Some b) x u;
      second = peer_same (put g a (Some b)) b (Some a) y v;
      others = λ d p m n. peer_other (put g a (Some b)) b (Some a) d p y n ∙ peer_other g a (Some b) d p x m;
      free_first = no_cable (peer g a.device a.port) (free_first (has_cable (peer g a.device a.port)) (has_cable (peer g b.device b.port)) ((a.device == b.device) && (a.port == b.port)) free);
      free_second = no_cable (peer g b.device b.port) (free_second (has_cable (peer g a.device a.port)) (has_cable (peer g b.device b.port)) ((a.device == b.device) && (a.port == b.port)) free);
    }

-- ports are within a device's
pub ports_within : (fs : List PhyFacts) (d q : ℕ) → AreDevices fs → q < ports_of fs d → (d < length fs) × (q < 27)
ports_within [] d q a h = absurd (omega arith)
ports_within (f ∷ fs) zero q a h = let most = a.1 in (omega arith, omega arith)
ports_within (f ∷ fs) (suc d) q a h = let w = ports_within fs d q a.3 h in (omega (arith, w.0), w.1)

ports_more : (fs : List PhyFacts) (f : PhyFacts) (d q : ℕ) → q < ports_of fs d → q < ports_of (fs ++ f ∷ []) d
ports_more [] f d q h = absurd (omega arith)
ports_more (x ∷ fs) f zero q h = h
ports_more (x ∷ fs) f (suc d) q h = ports_more fs f d q h

devices_more : (fs : List PhyFacts) (f : PhyFacts) → AreDevices fs → 0 < f.ports → f.ports ≤ 27 → f.speed ≤ 2 → AreDevices (fs ++ f ∷ [])
devices_more [] f a h k l = (h, k, l, tt)
devices_more (x ∷ fs) f a h k l = (a.0, a.1, a.2, devices_more fs f a.3 h k l)

pub sound_add : (fs : List PhyFacts) (g : Peers) (f : PhyFacts) → IsSound (record { devices = fs; cables = g }) → length fs < 63 → 0 < f.ports → f.ports ≤ 27 → f.speed ≤ 2
    → IsSound (record { devices = fs ++ f ∷ []; cables = g })
sound_add fs g f s room h k l = record {
  few = omega (arith, length-append fs (f ∷ []));
  devices = devices_more fs f s.devices h k l;
  range = s.range;
  cables = s.cables;
  none = s.none;
  placed = λ d q e is. ports_more fs f d q (s.placed d q e is);
}

pub ports_at : (fs : List PhyFacts) (n d : ℕ) → d < n → (slice_index_or fs d (record { ports = 0; speed = 0; link = false; contender = false })).ports ≡ ports_of (take n fs) d
ports_at [] (suc n) d h = refl
ports_at [] zero d h = absurd (omega arith)
ports_at (f ∷ fs) zero d h = absurd (omega arith)
ports_at (f ∷ fs) (suc n) zero h = refl
ports_at (f ∷ fs) (suc n) (suc d) h = ports_at fs n d (omega arith)

pub ports_none : (fs : List PhyFacts) (n d : ℕ) → n ≤ d → 0 ≡ ports_of (take n fs) d
ports_none [] zero d h = refl
ports_none [] (suc n) d h = refl
ports_none (f ∷ fs) zero d h = refl
ports_none (f ∷ fs) (suc n) zero h = absurd (omega arith)
ports_none (f ∷ fs) (suc n) (suc d) h = ports_none fs n d (omega arith)

ports_have : (a m b n : ℕ) → (nat_lt a m && nat_lt b n) ≡ true → (a < m) × (b < n)
ports_have a m b n h =
    let x : nat_lt a m ≡ true = first_of (nat_lt a m) (nat_lt b n) h in
    let y : nat_lt b n ≡ true = second_of (nat_lt a m) (nat_lt b n) h in
    (below a m x, below b n y)
  where
    below : (a m : ℕ) → nat_lt a m ≡ true → a < m
    below a m h = grind (arith, nat_tests)

-- both ends are ports of devices
pub ends_within : (fs : List PhyFacts) (a b : End) → AreDevices fs → length fs ≤ 63 → (nat_lt a.port (ports_of fs a.device) && nat_lt b.port (ports_of fs b.device)) ≡ true → Ends a b
ends_within fs a b devices few h =
    let has = ports_have a.port (ports_of fs a.device) b.port (ports_of fs b.device) h in
    let u = ports_within fs a.device a.port devices has.0 in
    let v = ports_within fs b.device b.port devices has.1 in
    record { a_device = let k = u.0 in omega arith; a_port = u.1; b_device = let k = v.0 in omega arith; b_port = v.1 }

-- what was seen is closed both ways
to_seen : (seen : List Bool) (o : Option End) (e : End) → o ≡ Some e → IfSome o (λ f. is_seen seen f.device ≡ true) → is_seen seen e.device ≡ true
to_seen seen None e is h = cc
to_seen seen (Some f) e is h = let k : f ≡ e = cc in rw (← k) h

pub splits : (g : Peers) (seen : List Bool) → AreCables g → IsClosed g seen → Splits g (is_seen seen)
splits g seen cables closed d p e is = same (is_seen seen e.device) (is_seen seen d)
    (λ h. to_seen seen (peer g e.device e.port) (record { device = d; port = p }) (cables.back d p e is) (closed e.device e.port h)) (λ h. to_seen seen (peer g d p) e is (closed d p h))
  where
    same : (x y : Bool) → (x ≡ true → y ≡ true) → (y ≡ true → x ≡ true) → x ≡ y
    same true y f h = sym (f refl)
    same false true f h = h refl
    same false false f h = refl

pub sound_join : (fs : List PhyFacts) (g : Peers) (a b : End) → IsSound (record { devices = fs; cables = g }) → (nat_lt a.port (ports_of fs a.device) && nat_lt b.port (ports_of fs b.device)) ≡ true
    → are_used g a b ≡ false → Separates g a.device b.device → IsSound (record { devices = fs; cables = with_cable g a b })
sound_join fs g a b s has free apart =
    let w = ends_within fs a b s.devices s.few has in
    let differ : a.device ≡ b.device → ⊥ = λ e. let k = apart.first in let l = apart.second in cc in
    let added = is_added g a b s.range w free differ in
    let ports = ports_have a.port (ports_of fs a.device) b.port (ports_of fs b.device) has in
    record {
      few = s.few;
      devices = s.devices;
      range = put_range (put g a (Some b)) b a (put_range g a b s.range w.a_device w.a_port w.b_device w.b_port) w.b_device w.b_port w.a_device w.a_port;
      cables = still_cables g (with_cable g a b) a b s.cables added differ;
      none = still_no_loop g (with_cable g a b) a b (is_seen apart.seen) s.cables s.none added (splits g apart.seen s.cables apart.closed) apart.first apart.second;
      placed = λ d q e is. elim (is_at d q a.device a.port) [
        | inl t ↦ rw (t.0, t.1) ports.0
        | inr m ↦ elim (is_at d q b.device b.port) [ inl t ↦ rw (t.0, t.1) ports.1 | inr n ↦ s.placed d q e (sym (added.others d q m n) ∙ is) ]
      ];
    }

-- if no cable is
abbrev Ports : Type 0
Ports = List (Option End)

blank_port : (m p : ℕ) → slice_index_or (let r : Ports = replicate m None in r) p (let o : Option End = None in o) ≡ None
blank_port zero p = refl
blank_port (suc m) zero = refl
blank_port (suc m) (suc p) = blank_port m p

blank_row : (n m d p : ℕ) → peer (replicate n (replicate m None)) d p ≡ None
blank_row zero m d p = refl
blank_row (suc n) m zero p = blank_port m p
blank_row (suc n) m (suc d) p = blank_row n m d p

blank_size : (n m d : ℕ) → d < n → length (slice_index_or (let g : Peers = replicate n (replicate m None) in g) d []) ≡ m
blank_size zero m d h = absurd (omega arith)
blank_size (suc n) m zero h = length-replicate m None
blank_size (suc n) m (suc d) h = blank_size n m d (omega arith)

pub blank_at : (d p : ℕ) → peer (replicate 63 (replicate 27 None)) d p ≡ None
blank_at d p = blank_row 63 27 d p

pub sound_new : IsSound (record { devices = []; cables = replicate 63 (replicate 27 None) })
sound_new = record {
  few = omega arith;
  devices = tt;
  range = record { devices = refl; ports = λ d h. blank_size 63 27 d h; ends = λ d p. alike (peer (replicate 63 (replicate 27 None)) d p) None (blank_at d p) tt };
  cables = record { back = λ d p e is. absurd (none d p e is); apart = λ d p e is. absurd (none d p e is) };
  none = λ s x y member differ. record { leaf = y; member = member; other = differ; one = λ p q i j. absurd (shut s y p i) };
  placed = λ d q e is. absurd (none d q e is);
}
  where
    none : (d p : ℕ) (e : End) → peer (replicate 63 (replicate 27 None)) d p ≡ Some e → ⊥
    none d p e is = let k = blank_at d p in cc

    shut : (s : ℕ → Bool) (d p : ℕ) → is_open s (peer (replicate 63 (replicate 27 None)) d p) ≡ true → ⊥
    shut s d p o = let k : is_open s (peer (replicate 63 (replicate 27 None)) d p) ≡ is_open s None = ap (λ t. is_open s t) (blank_at d p) in cc

pub short : (fs : List PhyFacts) (n : ℕ) → n < 63 → length (take n fs) < 63
short fs n h = grind (arith, common_steps)

pub ports_most : (fs : List PhyFacts) (d : ℕ) → AreDevices fs → ports_of fs d ≤ 27
ports_most [] d a = omega arith
ports_most (f ∷ fs) zero a = a.1
ports_most (f ∷ fs) (suc d) a = ports_most fs d a.3
