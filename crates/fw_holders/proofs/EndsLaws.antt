-- Ends of connections, summed plug by plug.
use Rattle.fw_holders.proofs.Common.{◌≡◌, ◌<◌, ◌≤◌, ◌+◌, ℕ, Bool, true, false, nat_lt, Option, Some, None, slice_index, cond, refl, sym, ◌∙◌, ap, arith, false≢true, PlugAt, sum_to, at_plug, Account}
use Rattle.fw_holders.proofs.Common.{counter, has_connection, is_output, is_input, StandsFor, SeatsFor, Seats, Tables, ends_in}
use Rattle.std.proofs.Common.{◌||◌, ◌⊎◌, inl, inr, add-one}
use Rattle.std.proofs.lemmas.Bool.{cases_lt}
use Rattle.std.proofs.lemmas.Bool.Decides.{nat_tests}
use Rattle.std.proofs.lemmas.List.{get_or_past}
use Rattle.fw_terms.specs.Tables.{sum_plugs}
use Rattle.fw_terms.proofs.Tables.{sum_to_same, sum_to_at}
use Rattle.fw_model_account.specs.Account.{Connections, Owner, is_there}
use Rattle.fw_model_account.specs.Decode.{is_owner}
use Rattle.fw_account_tables.specs.Stands.{seats_at, owner_of}
use Rattle.fw_holders.specs.Deeds.{ends_at}
use Rattle.fw_holders.specs.Seated.{ends_if}

pub no_sum : (f : ℕ → ℕ) → sum_to 0 f ≡ 0
unfolding sum_to
no_sum f = refl

pub next_sum : (n : ℕ) (f : ℕ → ℕ) → sum_to (n + 1) f ≡ sum_to n f + f n
unfolding sum_to
next_sum n f = rw add-one refl

-- nobody owns a broadcast connection that is not there
not_owner : (c : ℕ) (o : Option Owner) → is_there o ≡ false → is_owner c o ≡ false
not_owner c None e = refl
not_owner c (Some o) e = absurd (false≢true (sym e))

or_parts : (a b : Bool) → (a || b) ≡ false → (a ≡ false) × (b ≡ false)
or_parts false false e = (refl, refl)
or_parts false true e = absurd (false≢true (sym e))
or_parts true b e = absurd (false≢true (sym e))

no_count : (n : ℕ) → nat_lt 0 n ≡ false → n ≡ 0
no_count n e = grind (arith, nat_tests)

-- a plug without a connection has no ends
no_ends : (c : ℕ) (s : Connections) → (63 ≤ c → s.counts c ≡ 0) → has_connection s ≡ false → 0 ≡ ends_at c s
no_ends c s beyond none =
    let parts : (nat_lt 0 (counter s) ≡ false) × (is_there s.broadcast ≡ false) = or_parts _ _ none in
    let empty : counter s ≡ 0 = no_count _ parts.0 in
    let few : s.counts c ≡ 0 = by empty (cases_lt c 63) in
    rw (few, not_owner c s.broadcast parts.1) refl
  where
    by : counter s ≡ 0 → (c < 63) ⊎ (63 ≤ c) → s.counts c ≡ 0
    by empty (inl lt) = let most = sum_to_at 63 c s.counts lt in omega arith
    by empty (inr le) = beyond le

-- a plug that has seats has the ends that they say
some_ends : (c : ℕ) (x : Seats) (s : Connections) → SeatsFor x s → (63 ≤ c → s.counts c ≡ 0) → ends_if true x c ≡ ends_at c s
some_ends c x s h beyond =
    ap (λ n. n + cond (is_owner c (owner_of x.broadcaster)) 1 0) (by (cases_lt c 63)) ∙ ap (λ o. s.counts c + cond (is_owner c o) 1 0) h.broadcast
  where
    by : (c < 63) ⊎ (63 ≤ c) → slice_index x.counts c ≡ s.counts c
    by (inl lt) = h.counts c lt
    by (inr le) = get_or_past x.counts c 0 (omega (arith, h.size)) ∙ sym (beyond le)

or_left : (a b : Bool) → a ≡ true → (a || b) ≡ true
or_left true b e = refl
or_left false b e = absurd (false≢true e)

-- at an output plug
output_ends : (t : Tables) (l : Account) (c : ℕ) (p : PlugAt) → StandsFor t l → ends_in t.outs t.output_seats.items c p ≡ ends_at c (l.outputs p)
output_ends t l c p h = by (nat_lt p.plug (slice_index t.outs p.device)) refl
  where
    silent : (b : Bool) → has_connection (l.outputs p) ≡ b → is_output l.latest p ≡ false → has_connection (l.outputs p) ≡ false
    silent false e none = e
    silent true e none = absurd (false≢true (sym none ∙ h.sound.there p (or_left _ _ e)))

    by : (b : Bool) → nat_lt p.plug (slice_index t.outs p.device) ≡ b → ends_if b (seats_at t.output_seats.items p) c ≡ ends_at c (l.outputs p)
    by true e = some_ends c _ (l.outputs p) (h.outputs.seats p (h.plugs.outs p ∙ e)) (λ le. (h.sound.controllers p c le).0)
    by false e = no_ends c (l.outputs p) (λ le. (h.sound.controllers p c le).0) (silent (has_connection (l.outputs p)) refl (h.plugs.outs p ∙ e))

-- at an input plug
input_ends : (t : Tables) (l : Account) (c : ℕ) (p : PlugAt) → StandsFor t l → ends_in t.ins t.input_seats.items c p ≡ ends_at c (l.inputs p)
input_ends t l c p h = by (nat_lt p.plug (slice_index t.ins p.device)) refl
  where
    silent : (b : Bool) → has_connection (l.inputs p) ≡ b → is_input l.latest p ≡ false → has_connection (l.inputs p) ≡ false
    silent false e none = e
    silent true e none = absurd (false≢true (sym none ∙ h.sound.inputs_there p e))

    by : (b : Bool) → nat_lt p.plug (slice_index t.ins p.device) ≡ b → ends_if b (seats_at t.input_seats.items p) c ≡ ends_at c (l.inputs p)
    by true e = some_ends c _ (l.inputs p) (h.inputs.seats p (h.plugs.ins p ∙ e)) (λ le. (h.sound.controllers p c le).1)
    by false e = no_ends c (l.inputs p) (λ le. (h.sound.controllers p c le).1) (silent (has_connection (l.inputs p)) refl (h.plugs.ins p ∙ e))

-- at all output plugs
pub all_output_ends : (t : Tables) (l : Account) (c : ℕ) → StandsFor t l → sum_plugs (ends_in t.outs t.output_seats.items c) ≡ sum_plugs (λ p. ends_at c (l.outputs p))
all_output_ends t l c h = sum_to_same 63 _ _ (λ d low. sum_to_same 31 _ _ (λ n less. output_ends t l c (at_plug d n) h))

-- at all input plugs
pub all_input_ends : (t : Tables) (l : Account) (c : ℕ) → StandsFor t l → sum_plugs (ends_in t.ins t.input_seats.items c) ≡ sum_plugs (λ p. ends_at c (l.inputs p))
all_input_ends t l c h = sum_to_same 63 _ _ (λ d low. sum_to_same 31 _ _ (λ n less. input_ends t l c (at_plug d n) h))
