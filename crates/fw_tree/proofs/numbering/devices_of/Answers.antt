use Rattle.fw_tree.proofs.Common.{◌≡◌, ◌<◌, inl, inr, ℕ, List, Option, Some, None, length, arith, subst, sym, cases_lt, get_or_past, number_at, device_at}
use Rattle.fw_tree.proofs.numbering.devices_of.Goals as goal

-- a device with a number is one of the 63
within : (number : List (Option ℕ)) (d n : ℕ) → length number ≡ 63 → number_at number d ≡ Some n → d < 63
within number d n size at = elim (cases_lt d 63) [
  | inl less ↦ less
  | inr most ↦ absurd (let none : number_at number d ≡ None = get_or_past number d None (omega arith) in let z : ⊥ = cc in z)
]

-- the table holds the device of the number
held : (number : List (Option ℕ)) (devices : List ℕ) (n : ℕ) → length number ≡ 63 → ((d n : ℕ) → d < 63 → number_at number d ≡ Some n → device_at devices n ≡ d) → (d : ℕ)
    × (number_at number d ≡ Some n) → (number_at number (device_at devices n) ≡ Some n) × (device_at devices n < 63)
held number devices n size table w =
    let low = within number w.0 n size w.1 in
    let same = table w.0 n low w.1 in
    let P : ℕ → Type 0 = λ d. (number_at number d ≡ Some n) × (d < 63) in
    subst P (sym same) (w.1, low)

pub returns-clause-devices : goal.returns-clause-devices
returns-clause-devices c =
    let all : c.loop-d.d ≡ 63 = omega arith in
    λ n low. (held c.args.number.now c.loop-d.devices n c.told-number (λ d k less. c.loop-d.invariant.devices d k (omega arith)) (c.requires.nodes.taken n low)).0

pub returns-clause-range : goal.returns-clause-range
returns-clause-range c =
    let all : c.loop-d.d ≡ 63 = omega arith in
    λ n low. (held c.args.number.now c.loop-d.devices n c.told-number (λ d k less. c.loop-d.invariant.devices d k (omega arith)) (c.requires.nodes.taken n low)).1
