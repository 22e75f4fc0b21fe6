-- What is spoken for at a plug, and how steps change it.
use Rattle.fw_model_reclaim.proofs.Common.{PlugAt, ConnectionKind, PointToPoint, Broadcast, ◌≡◌, ◌≢◌, ◌⊎◌, inl, inr, ℕ, Bool, true}
use Rattle.fw_model_reclaim.proofs.Common.{false, ◌+◌, ◌<◌, ◌≤◌, Option, Some, None, refl, ap, ◌∙◌, arith, nat_tests}
use Rattle.fw_model_reclaim.proofs.Common.{cases_lt, cases_eq, sum_to_same, sum_to_zero, Account, IsSound, connections_of, Side, Output, Input, AreSeated, connections_at, most, number_of, orphaned_of}
use Rattle.std.proofs.Common.{zero, suc}
use Rattle.fw_terms.specs.Tables.{sum_to}
use Rattle.fw_plug.specs.Words.{flag}
use Rattle.fw_terms.proofs.Tables.{sum_to_le, sum_to_changed}
use Rattle.fw_model_account.specs.Account.{Owner, Of, Dead, Connections, is_there}
use Rattle.fw_model_account.specs.Events.{after_death, orphaned_connections, orphaned_owner}
use Rattle.fw_model_controllers.specs.Holding.{is_of}
use Rattle.fw_model_reclaim.specs.Seats.{Due, Fits, is_dead}

-- a table that is 0 but at one place
one_place : (d : ℕ) → d < 63 → sum_to 63 (λ c. flag (is_of c (Some (Of d)))) ≡ 1
one_place d lt =
    let e = sum_to_changed 63 d (λ c. flag (is_of c (Some (Of d)))) (λ c. 0) lt (λ j ne. grind (arith, nat_tests)) in
    grind (arith, nat_tests, sum_to_zero 63)

owned : (d : ℕ) → ((c : ℕ) → 63 ≤ c → flag (is_of c (Some (Of d))) ≡ 0) → (d < 63) ⊎ (63 ≤ d)
    → flag (is_there (Some (Of d))) ≡ flag (is_dead (Some (Of d))) + sum_to 63 (λ c. flag (is_of c (Some (Of d))))
owned d b (inl lt) = omega (arith, one_place d lt)
owned d b (inr le) = grind (arith, nat_tests, b d le)

-- what the register of a plug shows are the connections whose controllers died, and those of each controller
pub number_is : (kind : ConnectionKind) (s : Connections) → ((c : ℕ) → 63 ≤ c → connections_of c Broadcast s ≡ 0) → number_of kind s ≡ orphaned_of kind s + sum_to 63 (λ c. connections_of c kind s)
number_is PointToPoint s beyond = refl
number_is Broadcast s beyond = go s.broadcast beyond
  where
    go : (o : Option Owner) → ((c : ℕ) → 63 ≤ c → flag (is_of c o) ≡ 0) → flag (is_there o) ≡ flag (is_dead o) + sum_to 63 (λ c. flag (is_of c o))
    go None b = omega (arith, sum_to_zero 63)
    go (Some Dead) b = omega (arith, sum_to_zero 63)
    go (Some (Of d)) b = owned d b (cases_lt d 63)

-- tables of which one is below the other, and strictly so at one place
sum_to_less : (n k : ℕ) (f g : ℕ → ℕ) → k < n → ((j : ℕ) → j < n → f j ≤ g j) → f k < g k → sum_to n f < sum_to n g
unfolding sum_to
sum_to_less zero k f g lt le less = omega arith
sum_to_less (suc n) k f g lt le less = go (cases_eq n k) (sum_to_less n k f g)
  where
    go : (n ≡ k) ⊎ (n ≢ k) → (k < n → ((j : ℕ) → j < n → f j ≤ g j) → f k < g k → sum_to n f < sum_to n g) → sum_to n f + f n < sum_to n g + g n
    go (inl e) h = let b = sum_to_le n f g (λ j jl. le j (omega arith)) in omega (arith, ap f e, ap g e)
    go (inr ne) h = omega (arith, h (omega arith) (λ j jl. le j (omega arith)) less, le n (omega arith))

-- a plug has room for a connection that is due and not there yet
pub has_room : (l : Account) (seats due : Due) (c : ℕ) (side : Side) (kind : ConnectionKind) (q : PlugAt) → c < 63 → AreSeated l seats → Fits l due
    → ((d : ℕ) → seats d side kind q ≤ due d side kind q) → seats c side kind q < due c side kind q → number_of kind (connections_at l side q) < most kind
has_room l seats due c side kind q lt at f le less =
    let e = number_is kind (connections_at l side q) (λ d far. at.seated d side Broadcast q ∙ at.beyond d side Broadcast q far) in
    let s = sum_to_same 63 (λ d. connections_of d kind (connections_at l side q)) (λ d. seats d side kind q) (λ d dl. at.seated d side kind q) in
    let b = sum_to_less 63 c (λ d. seats d side kind q) (λ d. due d side kind q) lt (λ d dl. le d) less in
    omega (arith, f.fits side kind q)

-- as many connections and orphans as before, or fewer
pub fits_less : (l m : Account) (due less : Due) → ((side : Side) (kind : ConnectionKind) (q : PlugAt) → orphaned_of kind (connections_at m side q) ≤ orphaned_of kind (connections_at l side q))
    → ((c : ℕ) (side : Side) (kind : ConnectionKind) (q : PlugAt) → less c side kind q ≤ due c side kind q) → Fits l due → Fits m less
fits_less l m due less orphans le f = record {
  fits = λ side kind q. omega (arith, f.fits side kind q, orphans side kind q, sum_to_le 63 (λ c. less c side kind q) (λ c. due c side kind q) (λ c cl. le c side kind q));
}

number_fits : (l : Account) (side : Side) (kind : ConnectionKind) (q : PlugAt) → IsSound l → number_of kind (connections_at l side q) ≤ most kind
number_fits l Output PointToPoint q s = (s.counts q).0
number_fits l Input PointToPoint q s = (s.counts q).1
number_fits l Output Broadcast q s = go (is_there (l.outputs q).broadcast)
  where
    go : (b : Bool) → flag b ≤ 1
    go true = omega arith
    go false = omega arith
number_fits l Input Broadcast q s = go (is_there (l.inputs q).broadcast)
  where
    go : (b : Bool) → flag b ≤ 1
    go true = omega arith
    go false = omega arith

-- what stands fits
pub fits_seats : (l : Account) (seats due : Due) → IsSound l → AreSeated l seats → ((c : ℕ) (side : Side) (kind : ConnectionKind) (q : PlugAt) → due c side kind q ≤ seats c side kind q) → Fits l due
fits_seats l seats due s at le = record {
  fits = λ side kind q.
      let e = number_is kind (connections_at l side q) (λ d far. at.seated d side Broadcast q ∙ at.beyond d side Broadcast q far) in
      let g = sum_to_same 63 (λ d. connections_of d kind (connections_at l side q)) (λ d. seats d side kind q) (λ d dl. at.seated d side kind q) in
      omega (arith, number_fits l side kind q s, sum_to_le 63 (λ c. due c side kind q) (λ c. seats c side kind q) (λ c cl. le c side kind q));
}

orphaned_more : (c : ℕ) (kind : ConnectionKind) (s : Connections) → orphaned_of kind (orphaned_connections c s) ≡ orphaned_of kind s + connections_of c kind s
orphaned_more c PointToPoint s = refl
orphaned_more c Broadcast s = go s.broadcast
  where
    go : (o : Option Owner) → flag (is_dead (orphaned_owner c o)) ≡ flag (is_dead o) + flag (is_of c o)
    go None = refl
    go (Some (Of d)) = grind (arith, nat_tests)
    go (Some Dead) = refl

-- a controller died: its connections stay, and nothing else is due to it
pub fits_death : (l : Account) (seats due less : Due) (c : ℕ) → c < 63 → AreSeated l seats → ((side : Side) (kind : ConnectionKind) (q : PlugAt) → seats c side kind q ≤ due c side kind q)
    → ((side : Side) (kind : ConnectionKind) (q : PlugAt) → less c side kind q ≡ 0) → ((d : ℕ) (side : Side) (kind : ConnectionKind) (q : PlugAt) → d ≢ c → less d side kind q ≡ due d side kind q)
    → Fits l due → Fits (after_death c l) less
fits_death l seats due less c lt at le none same f = record {
  fits = λ side kind q. at_side side kind q;
}
  where
    sums : (side : Side) (kind : ConnectionKind) (q : PlugAt) (s : Connections) → s ≡ connections_at l side q
        → orphaned_of kind (orphaned_connections c s) + sum_to 63 (λ d. less d side kind q) ≤ most kind
    sums side kind q s e =
        let more = orphaned_more c kind s in
        let own : connections_of c kind s ≡ seats c side kind q = ap (connections_of c kind) e ∙ at.seated c side kind q in
        let ch = sum_to_changed 63 c (λ d. less d side kind q) (λ d. due d side kind q) lt (λ d ne. same d side kind q ne) in
        let z = none side kind q in
        let old : orphaned_of kind s ≡ orphaned_of kind (connections_at l side q) = ap (orphaned_of kind) e in
        omega (arith, f.fits side kind q, le side kind q)

    at_side : (side : Side) (kind : ConnectionKind) (q : PlugAt) → orphaned_of kind (connections_at (after_death c l) side q) + sum_to 63 (λ d. less d side kind q) ≤ most kind
    at_side Output kind q = sums Output kind q (l.outputs q) refl
    at_side Input kind q = sums Input kind q (l.inputs q) refl
