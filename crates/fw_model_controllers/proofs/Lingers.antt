-- Which output plugs linger after a move and after the answer to a stage's request.
use Rattle.fw_model_controllers.proofs.Common.{◌≡◌, ◌≢◌, ◌⊎◌, inl, inr, ℕ, ◌<◌, ◌&&◌, cond, Bool, true, false, Option, Some, None, refl, ap, sym, subst, ◌∙◌, arith, nat_tests, PlugAt, update_plug}
use Rattle.fw_model_controllers.proofs.Common.{update_plug_same, Reply, Swap, is_connected, Account, has_connection}
use Rattle.fw_model_controllers.proofs.Common.{Move, AllocateChannel, AllocateUnits, ConnectFirst, ConnectOverlaid, DisconnectInput}
use Rattle.fw_model_controllers.proofs.Common.{DisconnectOutput, ReleaseUnits, ReleaseChannel, Can, after, is_output, IsSound, word_of}
use Rattle.fw_model_controllers.proofs.Common.{had_connection, Job, Target, Stage, swap_of, Others, HalfStep, after_move}
use Rattle.fw_model_controllers.proofs.Common.{carried_out, succeeds, register_at}
use Rattle.std.proofs.Common.{◌==◌, ◌||◌}
use Rattle.fw_terms.proofs.Tables.{update_plug_at}
use Rattle.fw_plug.specs.Plugs.{is_active}
use Rattle.fw_model_account.specs.Account.{talks}
use Rattle.fw_model_account.specs.Moves.{ConnectInput}
use Rattle.fw_model_account.specs.Words.{OutputPlug}
use Rattle.fw_model_account.proofs.Connections.{has_connection_added}
use Rattle.fw_model_account.proofs.Moves.{moves_keep}
use Rattle.fw_model_controllers.specs.Moves.{move_of}
use Rattle.fw_model_controllers.specs.Lingering.{LingerUnchanged}
use Rattle.fw_model_controllers.proofs.Elsewhere.{move_elsewhere}
use Rattle.fw_model_controllers.proofs.Words.{output_shows, shows_connected}
use Rattle.fw_model_account.specs.Decode.{register_of_move}

-- ---- words and connections

-- the word of a plug that stands says whether it is connected
connected_shown : (l : Account) (p : PlugAt) → IsSound l → is_output l.latest p ≡ true → is_connected (word_of l (OutputPlug p)) ≡ has_connection (l.outputs p)
connected_shown l p s there =
    shows_connected (word_of l (OutputPlug p)) (l.outputs p) (output_shows (l.outputs p) (l.settings p) (s.counts p).0 (s.settings_fit p there))

pub talks_shown : (l : Account) (p : PlugAt) → IsSound l → is_output l.latest p ≡ true → is_active (word_of l (OutputPlug p)) (l.continues p) ≡ talks l p
talks_shown l p s there = ap (λ b. b || l.continues p) (connected_shown l p s there)

-- a plug with a connection does not linger
connected_rests : (l : Account) (p : PlugAt) → IsSound l → has_connection (l.outputs p) ≡ true → l.continues p ≡ false
connected_rests l p s has = go (l.continues p) refl
  where
    go : (b : Bool) → l.continues p ≡ b → l.continues p ≡ false
    go true e = let none = (s.continuing p e).0 in absurd (grind (arith, none, has))
    go false e = e

-- words that say different things differ
differ : (v w : ℕ) → is_connected v ≡ true → is_connected w ≡ false → (v == w) ≡ false
differ v w on off = go (v == w) refl
  where
    go : (b : Bool) → (v == w) ≡ b → (v == w) ≡ false
    go true e = let same : v ≡ w = grind (arith, nat_tests, e) in absurd (let both = sym on ∙ (ap is_connected same ∙ off) in grind (arith, both))
    go false e = e

-- ---- one plug

-- if the word stays
kept : (v w : ℕ) (a b : Bool) → v ≡ w → a ≡ b → a ≡ ((v == w) && b)
kept v w a b same e = grind (arith, nat_tests, same, e)

-- if the plug does not linger
quiet : (v w : ℕ) (a b : Bool) → b ≡ false → a ≡ b → a ≡ ((v == w) && b)
quiet v w a b off e = grind (arith, off, e)

-- if the word changes
ended_by : (v w : ℕ) (a b : Bool) → (v == w) ≡ false → a ≡ false → a ≡ ((v == w) && b)
ended_by v w a b other e = grind (arith, other, e)

apart : (p q : PlugAt) → q ≢ p → OutputPlug q ≢ OutputPlug p
apart p q ne e = ne (let same : q ≡ p = cc in same)

-- ---- moves

pub same_account : (l : Account) → LingerUnchanged l l
same_account l q = kept (word_of l (OutputPlug q)) (word_of l (OutputPlug q)) (l.continues q) (l.continues q) refl refl

-- a move at a plug that has a connection
overlaid : (c : ℕ) (p : PlugAt) (m : Move) (l : Account) → IsSound l → has_connection (l.outputs p) ≡ true
    → ((q : PlugAt) → q ≢ p → word_of (after c p m l) (OutputPlug q) ≡ word_of l (OutputPlug q)) → ((q : PlugAt) → (after c p m l).continues q ≡ l.continues q)
    → LingerUnchanged l (after c p m l)
overlaid c p m l s has words flags q = go (update_plug_at l.continues p false q)
  where
    go : ((q ≡ p) × (update_plug l.continues p false q ≡ false)) ⊎ ((q ≢ p) × (update_plug l.continues p false q ≡ l.continues q))
        → (after c p m l).continues q ≡ ((word_of (after c p m l) (OutputPlug q) == word_of l (OutputPlug q)) && l.continues q)
    go (inl x) = quiet _ _ _ _ (ap l.continues x.0 ∙ connected_rests l p s has) (flags q)
    go (inr x) = kept _ _ _ _ (words q x.0) (flags q)

-- the first connection ends the lingering of its plug
joined : (c : ℕ) (p : PlugAt) (m : Move) (l : Account) → IsSound l → IsSound (after c p m l) → is_output l.latest p ≡ true → (after c p m l).latest ≡ l.latest
    → has_connection (l.outputs p) ≡ false → has_connection ((after c p m l).outputs p) ≡ true
    → ((q : PlugAt) → q ≢ p → word_of (after c p m l) (OutputPlug q) ≡ word_of l (OutputPlug q))
    → ((q : PlugAt) → (after c p m l).continues q ≡ update_plug l.continues p false q) → LingerUnchanged l (after c p m l)
joined c p m l s t there latest empty full words flags q = go (update_plug_at l.continues p false q)
  where
    changed : (word_of (after c p m l) (OutputPlug p) == word_of l (OutputPlug p)) ≡ false
    changed =
        differ (word_of (after c p m l) (OutputPlug p)) (word_of l (OutputPlug p))
        (connected_shown (after c p m l) p t (ap (λ o. is_output o p) latest ∙ there) ∙ full) (connected_shown l p s there ∙ empty)

    go : ((q ≡ p) × (update_plug l.continues p false q ≡ false)) ⊎ ((q ≢ p) × (update_plug l.continues p false q ≡ l.continues q))
        → (after c p m l).continues q ≡ ((word_of (after c p m l) (OutputPlug q) == word_of l (OutputPlug q)) && l.continues q)
    go (inl x) =
        ended_by _ _ _ _ (ap (λ k. word_of (after c p m l) (OutputPlug k) == word_of l (OutputPlug k)) x.0 ∙ changed) (flags q ∙ x.1)
    go (inr x) = kept _ _ _ _ (words q x.0) (flags q ∙ x.1)

pub move_lingers : (c : ℕ) (p : PlugAt) (m : Move) (l : Account) → c < 63 → IsSound l → Can c p m l → LingerUnchanged l (after c p m l)
move_lingers c p (AllocateChannel ch) l lt s h = same_account l
move_lingers c p (AllocateUnits ch u) l lt s h = same_account l
move_lingers c p (ConnectFirst kind ch overhead) l lt s h =
    joined c p (ConnectFirst kind ch overhead) l s (moves_keep c p (ConnectFirst kind ch overhead) l lt s h) h.is_plug refl h.empty
    (ap has_connection (update_plug_same l.outputs p _) ∙ has_connection_added c kind (l.outputs p) lt)
    (λ q ne. move_elsewhere c p (ConnectFirst kind ch overhead) l (OutputPlug q) lt s h tt (apart p q ne)) (λ q. refl)
move_lingers c p (ConnectOverlaid kind) l lt s h =
    overlaid c p (ConnectOverlaid kind) l s h.connected (λ q ne. move_elsewhere c p (ConnectOverlaid kind) l (OutputPlug q) lt s h tt (apart p q ne)) (λ q. refl)
move_lingers c p (ConnectInput kind ch) l lt s h = same_account l
move_lingers c p (DisconnectInput kind) l lt s h = same_account l
move_lingers c p (DisconnectOutput kind) l lt s h =
    overlaid c p (DisconnectOutput kind) l s (had_connection c kind (l.outputs p) lt h.has)
    (λ q ne. move_elsewhere c p (DisconnectOutput kind) l (OutputPlug q) lt s h tt (apart p q ne)) (λ q. refl)
move_lingers c p (ReleaseUnits ch u) l lt s h = same_account l
move_lingers c p (ReleaseChannel ch) l lt s h = same_account l

-- ---- the answer to a stage's request

pub answer_lingers : (l : Account) (c : ℕ) (j : Job) (s : Stage) (others : Others) (t : Target) (r : Reply) → c < 63 → IsSound l → HalfStep l c j s others t r
    → LingerUnchanged l (carried_out c j s r l)
answer_lingers l c j s others t r lt sound h = go (swap_of j s) refl
  where
    swaps : (x : Swap) → swap_of j s ≡ Some x → (b : Bool) → succeeds (Some x) r ≡ b → LingerUnchanged l (cond b (after_move c (move_of j s) l) l)
    swaps x e true f =
        let m = h.moves x e f in
        subst (λ y. LingerUnchanged l (after_move c y l)) (sym m.move_is) (move_lingers c m.plug m.move l lt sound m.is_move.can)
    swaps x e false f = same_account l

    go : (w : Option Swap) → swap_of j s ≡ w → LingerUnchanged l (cond (succeeds w r) (after_move c (move_of j s) l) l)
    go None e = same_account l
    go (Some x) e = swaps x e (succeeds (Some x) r) refl

-- the answer at a register ends the lingering of no other plug
pub answer_elsewhere : (l : Account) (c : ℕ) (j : Job) (s : Stage) (others : Others) (t : Target) (r : Reply) (q : PlugAt) → c < 63 → IsSound l
    → HalfStep l c j s others t r → OutputPlug q ≢ register_at t → (carried_out c j s r l).continues q ≡ l.continues q
answer_elsewhere l c j s others t r q lt sound h ne = go (swap_of j s) refl
  where
    Same : Account → Type 0
    Same m = m.continues q ≡ l.continues q

    word_kept : (v w : ℕ) (a b : Bool) → a ≡ ((v == w) && b) → v ≡ w → a ≡ b
    word_kept v w a b e same = grind (arith, nat_tests, e, same)

    moves : (p : PlugAt) (m : Move) → Can c p m l → register_of_move p m ≡ register_at t → Same (after c p m l)
    moves p m can place =
        word_kept _ _ _ _ (move_lingers c p m l lt sound can q) (move_elsewhere c p m l (OutputPlug q) lt sound can tt (λ e. ne (e ∙ place)))

    swaps : (x : Swap) → swap_of j s ≡ Some x → (b : Bool) → succeeds (Some x) r ≡ b → Same (cond b (after_move c (move_of j s) l) l)
    swaps x e true f =
        let m = h.moves x e f in
        subst (λ y. Same (after_move c y l)) (sym m.move_is) (moves m.plug m.move m.is_move.can m.is_move.place)
    swaps x e false f = refl

    go : (w : Option Swap) → swap_of j s ≡ w → Same (cond (succeeds w r) (after_move c (move_of j s) l) l)
    go None e = refl
    go (Some x) e = swaps x e (succeeds (Some x) r) refl
