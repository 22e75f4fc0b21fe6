-- The table of reserved bits names the first bit at which no packet goes on.
use Rattle.std.proofs.Common.{◌≡◌, ◌≢◌, ℕ, ◌+◌, ◌-◌, ◌/◌, ◌^◌, ◌≤◌, ◌<◌, ◌==◌, ◌⊎◌, inl, inr, Bool, true, false, Option, Some, None, Result, Ok, Err, IfOk, nat_le, ◌↔◌, subst, List, if◌then◌else◌}
use Rattle.std.proofs.Common.{arith, refl, ap, sym, ◌∙◌}
use Rattle.std.proofs.lemmas.Nat.{shr-shr}
use Rattle.std.proofs.lemmas.Bool.{cases_eq, cases_lt}
use Rattle.std.proofs.lemmas.Bool.Decides.{nat_tests}
use Rattle.std.specs.Option.{option_map}
use Rattle.std.specs.Result.{result_err}
use Rattle.fw_words.specs.Quadlet.{field, first_set, quadlet_at}
use Rattle.fw_words.proofs.FirstSet.{first_set_zero}
use Rattle.fw_phy.specs.declared.PhyFault.{PhyFault}
use Rattle.fw_phy.specs.declared.PhyFault.TheVariants.{Reserved}
use Rattle.fw_phy.specs.declared.packet.PhyPacket.{PhyPacket}
use Rattle.fw_phy.specs.declared.packet.PhyPacket.TheVariants.{LinkOn}
use Rattle.fw_phy.specs.Phy.{reserved_bit, Fits, quadlet_of, prefix, GoesOn, StopsAt, IsTwice}
use Rattle.fw_phy.proofs.BeginLaws.{same_field, first_of, none_set, same_prefix, kind_low, of_config, of_link_on, MoreZeros, of_more, config_at, config_fits, config_is, link_on_is, link_on_fits}
use Rattle.fw_phy.proofs.BeginLaws.{more_at, more_fits, more_is, whole_at, whole_fits, whole_is, zeros, zeros_fits, zeros_is}

-- each row of the table
stop_kind : (q : ℕ) → q < 2 ^ 32 → field q 0 1 ≡ 3 → StopsAt q 1
stop_kind q small kind = record {
  within = omega arith;
  before = record { packet = zeros; fits = zeros_fits; alike = let e = zeros_is in omega arith };
  stops = λ w. let low = kind_low w.packet w.fits in let e = same_field (quadlet_of w.packet) q 1 0 1 (omega arith) (omega arith) w.alike in omega arith;
}

stop_config : (q b : ℕ) → q < 2 ^ 32 → field q 0 1 ≡ 0 → first_set q 16 16 ≡ Some b → StopsAt q b
stop_config q b small kind h =
    let w = first_of q 16 16 b refl h in
    let low = w.low in
    let high = w.high in
    record {
      within = high;
      before = record { packet = config_at q; fits = config_fits q; alike = ap (λ n. prefix n b) (config_is q small kind) ∙ same_prefix q 16 b low high w.clear };
      stops = λ v.
          let alike = v.alike in
          let is_config : field (quadlet_of v.packet) 0 1 ≡ 0 = same_field (quadlet_of v.packet) q b 0 1 (omega arith) (omega arith) alike ∙ kind in
          let none = first_set_zero (quadlet_of v.packet) 16 16 refl (of_config v.packet v.fits is_config) in
          none_set (quadlet_of v.packet) 16 16 b none low (omega arith) (same_field (quadlet_of v.packet) q b b b (omega arith) (omega arith) alike ∙ w.set);
    }

stop_link_on : (q b : ℕ) → q < 2 ^ 32 → field q 0 1 ≡ 1 → first_set q 8 24 ≡ Some b → StopsAt q b
stop_link_on q b small kind h =
    let w = first_of q 8 24 b refl h in
    let low = w.low in
    let high = w.high in
    record {
      within = high;
      before = record { packet = LinkOn (field q 2 7); fits = link_on_fits q; alike = ap (λ n. prefix n b) (link_on_is q small kind) ∙ same_prefix q 8 b low high w.clear };
      stops = λ v.
          let alike = v.alike in
          let is_link_on : field (quadlet_of v.packet) 0 1 ≡ 1 = same_field (quadlet_of v.packet) q b 0 1 (omega arith) (omega arith) alike ∙ kind in
          let none = first_set_zero (quadlet_of v.packet) 8 24 refl (of_link_on v.packet v.fits is_link_on) in
          none_set (quadlet_of v.packet) 8 24 b none low (omega arith) (same_field (quadlet_of v.packet) q b b b (omega arith) (omega arith) alike ∙ w.set);
    }

-- what an extended self-ID packet that begins so has
begun : (q at : ℕ) → 8 ≤ at → at ≤ 31 → field q 0 1 ≡ 2 → field q 8 8 ≡ 1 → (w : GoesOn q (at + 1)) → MoreZeros (quadlet_of w.packet)
begun q at low high kind one w =
    of_more w.packet w.fits
    (same_field (quadlet_of w.packet) q at 0 1 high (omega arith) w.alike ∙ kind)
    (same_field (quadlet_of w.packet) q at 8 8 high low w.alike ∙ one)

stop_9 : (q : ℕ) → q < 2 ^ 32 → field q 0 1 ≡ 2 → field q 8 8 ≡ 1 → 4 ≤ field q 9 11 → StopsAt q 9
stop_9 q small kind one high = record {
  within = omega arith;
  before = record { packet = more_at q 0; fits = more_fits q 0 (omega arith); alike = let e = more_is q 0 (omega arith) in omega arith };
  stops = λ w. let z = begun q 9 (omega arith) (omega arith) kind one w in let n = z.number in let e = same_field (quadlet_of w.packet) q 9 9 9 (omega arith) (omega arith) w.alike in omega arith;
}

stop_11 : (q : ℕ) → q < 2 ^ 32 → field q 0 1 ≡ 2 → field q 8 8 ≡ 1 → field q 9 11 ≡ 3 → StopsAt q 11
stop_11 q small kind one three = record {
  within = omega arith;
  before = record { packet = more_at q 2; fits = more_fits q 2 (omega arith); alike = let e = more_is q 2 (omega arith) in omega arith };
  stops = λ w. let z = begun q 11 (omega arith) (omega arith) kind one w in let n = z.number in let e = same_field (quadlet_of w.packet) q 11 9 11 (omega arith) (omega arith) w.alike in omega arith;
}

stop_12 : (q : ℕ) → q < 2 ^ 32 → field q 0 1 ≡ 2 → field q 8 8 ≡ 1 → field q 9 11 ≤ 2 → field q 12 12 ≡ 1 → StopsAt q 12
stop_12 q small kind one low set = record {
  within = omega arith;
  before = record { packet = more_at q (field q 9 11); fits = more_fits q (field q 9 11) low; alike = let e = more_is q (field q 9 11) low in omega arith };
  stops = λ w. let z = begun q 12 (omega arith) (omega arith) kind one w in let n = z.first in let e = same_field (quadlet_of w.packet) q 12 12 12 (omega arith) (omega arith) w.alike in omega arith;
}

stop_13 : (q : ℕ) → q < 2 ^ 32 → field q 0 1 ≡ 2 → field q 8 8 ≡ 1 → field q 9 11 ≤ 2 → field q 12 12 ≡ 0 → field q 13 13 ≡ 1 → StopsAt q 13
stop_13 q small kind one low clear set = record {
  within = omega arith;
  before = record { packet = more_at q (field q 9 11); fits = more_fits q (field q 9 11) low; alike = let e = more_is q (field q 9 11) low in omega arith };
  stops = λ w. let z = begun q 13 (omega arith) (omega arith) kind one w in let n = z.second in let e = same_field (quadlet_of w.packet) q 13 13 13 (omega arith) (omega arith) w.alike in omega arith;
}

stop_30 : (q : ℕ) → q < 2 ^ 32 → field q 0 1 ≡ 2 → field q 8 8 ≡ 1 → field q 9 11 ≤ 2 → field q 12 12 ≡ 0 → field q 13 13 ≡ 0 → field q 30 30 ≡ 1 → StopsAt q 30
stop_30 q small kind one low a b set = record {
  within = omega arith;
  before = record { packet = whole_at q; fits = whole_fits q low; alike = whole_is q small kind one low a b };
  stops = λ w. let z = begun q 30 (omega arith) (omega arith) kind one w in let n = z.third in let e = same_field (quadlet_of w.packet) q 30 30 30 (omega arith) (omega arith) w.alike in omega arith;
}

-- a choice that gives a bit
pick : (c : Bool) (x y : Option ℕ) (b : ℕ) → (if c then x else y) ≡ Some b → ((c ≡ true) × (x ≡ Some b)) ⊎ ((c ≡ false) × (y ≡ Some b))
pick true x y b h = inl (refl, h)
pick false x y b h = inr (refl, h)

is_equal : (m n : ℕ) → (m == n) ≡ true → m ≡ n
is_equal m n h = grind (arith, nat_tests)

not_equal : (m n : ℕ) → (m == n) ≡ false → m ≢ n
not_equal m n h = grind (arith, nat_tests)

is_least : (m n : ℕ) → nat_le m n ≡ true → m ≤ n
is_least m n h = grind (arith, nat_tests)

not_least : (m n : ℕ) → nat_le m n ≡ false → n < m
not_least m n h = grind (arith, nat_tests)

at_bit : (q a b : ℕ) → StopsAt q a → (let o : Option ℕ = Some a in o) ≡ Some b → StopsAt q b
at_bit q a b s h = let e : a ≡ b = cc in let P : ℕ → Type 0 = StopsAt q in subst P e s

pub stops_at : (q b : ℕ) → q < 2 ^ 32 → reserved_bit q ≡ Some b → StopsAt q b
stops_at q b small h = elim (pick (field q 0 1 == 3) _ _ b h) [
  | inl u ↦ at_bit q 1 b (stop_kind q small (is_equal (field q 0 1) 3 u.0)) u.1
  | inr u ↦
      let k3 = not_equal (field q 0 1) 3 u.0 in
      elim (pick (field q 0 1 == 0) _ _ b u.1) [
        | inl v ↦ stop_config q b small (is_equal (field q 0 1) 0 v.0) v.1
        | inr v ↦
            let k0 = not_equal (field q 0 1) 0 v.0 in
            elim (pick (field q 0 1 == 1) _ _ b v.1) [
              | inl w ↦ stop_link_on q b small (is_equal (field q 0 1) 1 w.0) w.1
              | inr w ↦
                  let k1 = not_equal (field q 0 1) 1 w.0 in
                  more q b small (omega arith) w.1
            ]
      ]
]
  where
    tail : (q b : ℕ) → q < 2 ^ 32 → field q 0 1 ≡ 2 → field q 8 8 ≡ 1 → field q 9 11 ≤ 2
        → (if field q 12 12 == 1 then Some 12 else if field q 13 13 == 1 then Some 13 else if field q 30 30 == 1 then Some 30 else None) ≡ Some b → StopsAt q b
    tail q b small kind one low h = elim (pick (field q 12 12 == 1) _ _ b h) [
      | inl u ↦ at_bit q 12 b (stop_12 q small kind one low (is_equal (field q 12 12) 1 u.0)) u.1
      | inr u ↦
          let z = not_equal (field q 12 12) 1 u.0 in
          let a : field q 12 12 ≡ 0 = omega arith in
          elim (pick (field q 13 13 == 1) _ _ b u.1) [
            | inl v ↦ at_bit q 13 b (stop_13 q small kind one low a (is_equal (field q 13 13) 1 v.0)) v.1
            | inr v ↦
                let y = not_equal (field q 13 13) 1 v.0 in
                let d : field q 13 13 ≡ 0 = omega arith in
                elim (pick (field q 30 30 == 1) _ _ b v.1) [
                  | inl w ↦ at_bit q 30 b (stop_30 q small kind one low a d (is_equal (field q 30 30) 1 w.0)) w.1
                  | inr w ↦ absurd (let e = w.1 in let x : ⊥ = cc in x)
                ]
          ]
    ]

    more : (q b : ℕ) → q < 2 ^ 32 → field q 0 1 ≡ 2 → (if field q 8 8 == 0 then None else if nat_le 4 (field q 9 11) then Some 9 else if field q 9 11 == 3 then Some 11 else if field q 12 12 == 1
        then Some 12 else if field q 13 13 == 1 then Some 13 else if field q 30 30 == 1 then Some 30 else None) ≡ Some b → StopsAt q b
    more q b small kind h = elim (pick (field q 8 8 == 0) _ _ b h) [
      | inl u ↦ absurd (let e = u.1 in let x : ⊥ = cc in x)
      | inr u ↦
          let z = not_equal (field q 8 8) 0 u.0 in
          let one : field q 8 8 ≡ 1 = omega arith in
          elim (pick (nat_le 4 (field q 9 11)) _ _ b u.1) [
            | inl v ↦ at_bit q 9 b (stop_9 q small kind one (is_least 4 (field q 9 11) v.0)) v.1
            | inr v ↦
                let low = not_least 4 (field q 9 11) v.0 in
                elim (pick (field q 9 11 == 3) _ _ b v.1) [
                  | inl w ↦ at_bit q 11 b (stop_11 q small kind one (is_equal (field q 9 11) 3 w.0)) w.1
                  | inr w ↦ let other = not_equal (field q 9 11) 3 w.0 in tail q b small kind one (omega arith) w.1
                ]
          ]
    ]

-- a quadlet stops at one bit at most
shorter : (q m n : ℕ) → m ≤ n → n ≤ 32 → GoesOn q n → GoesOn q m
shorter q m n low high w =
    let split : 32 - m ≡ (32 - n) + (n - m) = omega arith in
    record { packet = w.packet; fits = w.fits; alike = rw (split, ← shr-shr, ← shr-shr) (ap (λ k. k / 2 ^ (n - m)) w.alike) }

pub one_stop : (q a b : ℕ) → StopsAt q a → StopsAt q b → a ≡ b
one_stop q a b s t =
    let x = s.within in
    let y = t.within in
    elim (cases_lt a b) [
      | inl less ↦ absurd (s.stops (shorter q (a + 1) b (omega arith) (omega arith) t.before))
      | inr most ↦ elim (cases_eq a b) [ inl same ↦ same | inr differ ↦ absurd (t.stops (shorter q (b + 1) a (omega arith) (omega arith) s.before)) ]
    ]

-- what is no packet stops at a bit, and what is one at none
pub reserved_of : (r : Result PhyPacket PhyFault) (bytes : List ℕ) (q : ℕ) → q < 2 ^ 32 → IsTwice bytes → q ≡ quadlet_at bytes 0 → result_err r ≡ option_map Reserved (reserved_bit q)
    → IfOk r (λ p. Fits p × (quadlet_of p ≡ q)) → (b : ℕ) → (r ≡ Err (Reserved b)) ↔ (IsTwice bytes × StopsAt (quadlet_at bytes 0) b)
reserved_of r bytes q small twice at fault found b = (
  λ e. (twice, rw (← at) (stops_at q b small (bit_is (reserved_bit q) b (sym fault ∙ ap result_err e)))),
  λ w. stopped r q b small fault found (rw (← at) at w.1),
)
  where
    bit_is : (o : Option ℕ) (b : ℕ) → option_map Reserved o ≡ Some (Reserved b) → o ≡ Some b
    bit_is None b h = absurd (let z : ⊥ = cc in z)
    bit_is (Some a) b h = cc

    of_bit : (r : Result PhyPacket PhyFault) (q a b : ℕ) → StopsAt q a → StopsAt q b → result_err r ≡ Some (Reserved a) → r ≡ Err (Reserved b)
    of_bit (Ok p) q a b s t e = absurd (let z : ⊥ = cc in z)
    of_bit (Err f) q a b s t e = let h = one_stop q a b s t in cc

    no_bit : (r : Result PhyPacket PhyFault) (q b : ℕ) → StopsAt q b → result_err r ≡ None → IfOk r (λ p. Fits p × (quadlet_of p ≡ q)) → r ≡ Err (Reserved b)
    no_bit (Ok p) q b t e found = absurd (t.stops (record { packet = p; fits = found.0; alike = ap (λ n. prefix n (b + 1)) found.1 }))
    no_bit (Err f) q b t e found = absurd (let z : ⊥ = cc in z)

    go : (r : Result PhyPacket PhyFault) (q b : ℕ) (o : Option ℕ) → q < 2 ^ 32 → reserved_bit q ≡ o → result_err r ≡ option_map Reserved o → IfOk r (λ p. Fits p × (quadlet_of p ≡ q)) → StopsAt q b
        → r ≡ Err (Reserved b)
    go r q b None small o e found t = no_bit r q b t e found
    go r q b (Some a) small o e found t = of_bit r q a b (stops_at q a small o) t e

    stopped : (r : Result PhyPacket PhyFault) (q b : ℕ) → q < 2 ^ 32 → result_err r ≡ option_map Reserved (reserved_bit q) → IfOk r (λ p. Fits p × (quadlet_of p ≡ q)) → StopsAt q b
        → r ≡ Err (Reserved b)
    stopped r q b small e found t = go r q b (reserved_bit q) small refl e found t
