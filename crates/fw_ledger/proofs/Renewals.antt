-- A table that is renewed place by place, and what a place of a plug becomes.
use Rattle.fw_ledger.proofs.Common.{◌≡◌, ◌≢◌, ◌<◌, ◌≤◌, ◌+◌, ◌-◌, ◌*◌, ◌/◌, ◌%◌, ◌⊎◌, inl, inr, ℕ, Bool, true, false, not, nat_lt, ◌&&◌, ◌||◌, List, length, cond, get_or, slice_index, refl, sym, ◌∙◌}
use Rattle.fw_ledger.proofs.Common.{ap, subst, arith, get_or-set_same, get_or-set_other, cases_eq, nat_tests, NodeRow, is_connected, AreRates, renewed_seats, Account, StandsFor, no_seats, Seats}
use Rattle.fw_ledger.proofs.Common.{Tables, PlugAt}
use Rattle.std.proofs.Common.{set}
use Rattle.fw_phy.specs.declared.packet.PhyPacket.{PhyPacket}
use Rattle.fw_plug.specs.Plugs.{disconnected}
use Rattle.fw_ledger.specs.Resets.{GainsNone, GainsSome, HasNoNewOutput, rate_of, first_output, first_input, renewed_output, renewed_input, goes_on}
use Rattle.fw_ledger.specs.Renewed.{AreOuts}
use Rattle.fw_account_tables.specs.Stands.{Stands}

-- the places below k are renewed, and the others are as they were
pub record Renews (A : Type 0) (d : A) (f : ℕ → A → A) (old new : List A) (k : ℕ) : Type 0 where
  pub done : (j : ℕ) → j < k → get_or new j d ≡ f j (get_or old j d)
  pub left : (j : ℕ) → k ≤ j → get_or new j d ≡ get_or old j d

-- none is yet
pub none_renewed : (A : Type 0) (d : A) (f : ℕ → A → A) (xs : List A) → Renews A d f xs xs 0
none_renewed A d f xs = record { done = λ j lt. absurd (omega arith); left = λ j le. refl }

-- one place more
pub one_renewed : (A : Type 0) (d : A) (f : ℕ → A → A) (old new : List A) (k : ℕ) (v : A) → k < length new → v ≡ f k (get_or new k d) → Renews A d f old new k → Renews A d f old (set new k v) (k + 1)
one_renewed A d f old new k v lt is h = record {
  done = λ j small. go j small (cases_eq j k);
  left = λ j le. get_or-set_other new k j v d (omega arith) ∙ h.left j (omega arith);
}
  where
    go : (j : ℕ) → j < k + 1 → (j ≡ k) ⊎ (j ≢ k) → get_or (set new k v) j d ≡ f j (get_or old j d)
    go j small (inl e) = rw e (get_or-set_same new k v d lt ∙ is ∙ ap (f k) (h.left k (omega arith)))
    go j small (inr ne) = get_or-set_other new k j v d ne ∙ h.done j (omega arith)

-- ---- the place of a plug

-- its device and its number
pub place_of : (d k : ℕ) → d * 31 ≤ k → k < d * 31 + 31 → (k / 31 ≡ d) × (k % 31 ≡ k - d * 31)
place_of d k low high = (omega arith, omega arith)

-- what the place of a plug that is there becomes, whose device had b plugs
pub word_set : (before now rates : List ℕ) (d n k w b v : ℕ) → k / 31 ≡ d → k % 31 ≡ n → nat_lt n (slice_index now d) ≡ true → b ≡ slice_index before d
    → v ≡ cond (nat_lt n b) (disconnected w) (first_output (slice_index rates d)) → v ≡ renewed_output before now rates (k / 31) (k % 31) w
word_set before now rates d n k w b v at is there had set = rw (at, is, there, ← had) set

pub input_set : (before now : List ℕ) (d n k w b v : ℕ) → k / 31 ≡ d → k % 31 ≡ n → nat_lt n (slice_index now d) ≡ true → b ≡ slice_index before d
    → v ≡ cond (nat_lt n b) (disconnected w) first_input → v ≡ renewed_input before now (k / 31) (k % 31) w
input_set before now d n k w b v at is there had set = rw (at, is, there, ← had) set

pub seats_set : (before now : List ℕ) (d n k w b : ℕ) (connected : Bool) (s v : Seats) → k / 31 ≡ d → k % 31 ≡ n → nat_lt n (slice_index now d) ≡ true → b ≡ slice_index before d
    → connected ≡ is_connected w → v ≡ cond (nat_lt n b && not connected) s no_seats → v ≡ renewed_seats before now (k / 31) (k % 31) w s
seats_set before now d n k w b connected s v at is there had shows set = rw (at, is, there, ← had, ← shows) set

pub on_set : (before now : List ℕ) (runs : Bool) (d n k w b : ℕ) (connected c v : Bool) → k / 31 ≡ d → k % 31 ≡ n → nat_lt n (slice_index now d) ≡ true → b ≡ slice_index before d
    → connected ≡ is_connected w → v ≡ (nat_lt n b && (connected || (runs && c))) → v ≡ goes_on before now runs (k / 31) (k % 31) w c
on_set before now runs d n k w b connected c v at is there had shows set = rw (at, is, there, ← had, ← shows) set

-- ---- the speeds of devices

-- one device more
pub rate_set : (before now : List ℕ) (nodes : List NodeRow) (ids : List PhyPacket) (rates : List ℕ) (device v : ℕ) → device < length rates
    → ((d n : ℕ) → d < device → nat_lt n (slice_index now d) ≡ true → nat_lt n (slice_index before d) ≡ false → slice_index rates d ≡ rate_of nodes ids d)
    → (nat_lt (slice_index before device) (slice_index now device) ≡ true → v ≡ rate_of nodes ids device)
    → (d n : ℕ) → d < device + 1 → nat_lt n (slice_index now d) ≡ true → nat_lt n (slice_index before d) ≡ false → slice_index (set rates device v) d ≡ rate_of nodes ids d
rate_set before now nodes ids rates device v long done is d n lt there gone = go (cases_eq d device)
  where
    gains : nat_lt (slice_index before d) (slice_index now d) ≡ true
    gains = grind (arith, nat_tests)

    go : (d ≡ device) ⊎ (d ≢ device) → slice_index (set rates device v) d ≡ rate_of nodes ids d
    go (inl e) =
        ap (λ (j : ℕ). slice_index (set rates device v) j) e ∙ get_or-set_same rates device v 0 long
        ∙ is (subst (λ (j : ℕ). nat_lt (slice_index before j) (slice_index now j) ≡ true) e gains) ∙ ap (λ (j : ℕ). rate_of nodes ids j) (sym e)
    go (inr ne) = get_or-set_other rates device d v 0 ne ∙ done d n (omega arith) there gone

pub small_set : (rates : List ℕ) (device v : ℕ) → device < length rates → ((d : ℕ) → slice_index rates d < 4) → v < 4 → (d : ℕ) → slice_index (set rates device v) d < 4
small_set rates device v long small low d = go (cases_eq d device)
  where
    go : (d ≡ device) ⊎ (d ≢ device) → slice_index (set rates device v) d < 4
    go (inl e) = rw (e, get_or-set_same rates device v 0 long) low
    go (inr ne) = rw (get_or-set_other rates device d v 0 ne) (small d)

-- none counts if no device has more plugs than before
pub no_rates : (before now : List ℕ) (nodes : List NodeRow) (ids : List PhyPacket) (rates : List ℕ) → GainsNone before now → AreRates before now nodes ids rates
no_rates before now nodes ids rates none d n there gone = absurd (let most = none d in grind (arith, nat_tests))

-- then no output plug is new
pub none_new : (t : Tables) (l : Account) (nodes : List NodeRow) (outs : List ℕ) → StandsFor t l → AreOuts nodes outs → GainsNone t.outs outs → HasNoNewOutput l.latest nodes
none_new t l nodes outs h are none p there =
    let most = none p.device in
    let had : nat_lt p.plug (slice_index t.outs p.device) ≡ true = let has = sym (are p) ∙ there in grind (arith, nat_tests) in
    h.plugs.outs p ∙ had

-- where one has more, that after its last plug is new
pub some_new : (t : Tables) (l : Account) (nodes : List NodeRow) (outs : List ℕ) → StandsFor t l → AreOuts nodes outs → GainsSome t.outs outs → HasNoNewOutput l.latest nodes → false ≡ true
some_new t l nodes outs h are some none =
    let p : PlugAt = record { device = some.0; plug = slice_index t.outs some.0 } in
    let gains = some.1 in
    let there : nat_lt p.plug (slice_index outs p.device) ≡ true = grind (arith, nat_tests) in
    let had : nat_lt p.plug (slice_index t.outs p.device) ≡ true = sym (h.plugs.outs p) ∙ none p (are p ∙ there) in
    absurd (grind (arith, nat_tests))

-- a ledger stands for some account whether a bus reset was taken or not
pub bus_stands : (taken : Bool) (old new : Tables) (l m : Account) → StandsFor old l → (taken ≡ true → StandsFor new m) → (taken ≡ false → new ≡ old) → Stands new
bus_stands true old new l m h made kept = (m, made refl)
bus_stands false old new l m h made kept = (l, subst (λ (t : Tables). StandsFor t l) (sym (kept refl)) h)
