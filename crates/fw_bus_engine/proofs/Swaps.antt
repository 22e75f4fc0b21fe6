-- The answer to a controller's request changes the word of its own register alone, and leaves there what the node's register has then.
use Rattle.fw_bus_engine.proofs.Common.{◌≡◌, ◌≢◌, ◌⊎◌, inl, inr, ℕ, ◌+◌, ◌*◌, ◌^◌, ◌<◌, ◌==◌, Bool, true, false}
use Rattle.fw_bus_engine.proofs.Common.{cond, Option, Some, None, refl, ap, sym, subst, ◌∙◌, arith, IsTrue, cases_eq, nat_tests}
use Rattle.fw_bus_engine.proofs.Common.{PlugAt, Reply, after_at, Account, Register, BandwidthAvailable, ChannelsAvailable, OutputPlug}
use Rattle.fw_bus_engine.proofs.Common.{InputPlug, word_of, Target, Stage, offset_of, request_at, register_at}
use Rattle.fw_bus_engine.proofs.Common.{stands}
use Rattle.std.proofs.lemmas.Nat.{from_be_bytes-to_be_bytes_4}
use Rattle.fw_words.specs.Quadlet.{quadlet_at}
use Rattle.fw_words.specs.declared.swap.Swap.{Swap}
use Rattle.fw_csr.specs.Replies.{word_after}
use Rattle.fw_words.specs.Swaps.{swap_bytes}
use Rattle.fw_csr.specs.Requests as Asked
use Rattle.fw_model_account.specs.Decode.{IsMove}
use Rattle.fw_model_account.specs.Moves.{Move, after}
use Rattle.fw_model_account.specs.Sound.{IsSound}
use Rattle.fw_model_account.proofs.Bounds.{word_below}
use Rattle.fw_model_account.proofs.Moves.{moves_keep}
use Rattle.fw_cmp_jobs.specs.declared.job.Job.{Job}
use Rattle.fw_cmp_jobs.specs.declared.request.Target.TheVariants as target
use Rattle.fw_cmp_jobs.specs.declared.stage.Stage.TheVariants.{SwapChannels, SwapBandwidth, ConnectOutput, OverlayOutput, ConnectInput, LeaveInput, LeaveOutput, RaiseBandwidth, RestoreChannel}
use Rattle.fw_cmp_jobs.specs.Fits.{StageFits}
use Rattle.fw_cmp_jobs.specs.Requests.{swap_of}
use Rattle.fw_model_controllers.specs.InStep.{Others, HalfStep, IsRegister}
use Rattle.fw_model_controllers.specs.Moves.{move_of, after_move, carried_out}
use Rattle.fw_model_controllers.specs.Registers.{succeeds, IsAnswer}
use Rattle.fw_model_controllers.proofs.Elsewhere.{move_elsewhere}
use Rattle.fw_model_controllers.proofs.Holdings.{move_keeps}

-- ---- registers by their places

abbrev pub place_of : Register → ℕ
place_of BandwidthAvailable = 0xFFFF_F000_0220
place_of (ChannelsAvailable base) = cond (base == 0) 0xFFFF_F000_0224 0xFFFF_F000_0228
place_of (OutputPlug p) = 0xFFFF_F000_0904 + 4 * p.plug
place_of (InputPlug p) = 0xFFFF_F000_0984 + 4 * p.plug

-- the register of a target stands at the target's offset
pub place_is : (t : Target) → place_of (register_at t) ≡ offset_of t
place_is (target.OutputPlug p) = refl
place_is (target.InputPlug p) = refl
place_is (target.Channels base) = refl
place_is target.BandwidthAvailable = refl

-- a request is at its offset
pub request_place : (offset : ℕ) (w : Option Swap) → Asked.offset_of (request_at offset w) ≡ offset
request_place offset None = refl
request_place offset (Some x) = refl

-- ---- what a request leaves at its register

-- a swap that finds its argument stores its new word
stores : (word offset : ℕ) (x : Swap) → x.argument < 2 ^ 32 → x.new < 2 ^ 32 → word ≡ x.argument → word_after word (request_at offset (Some x)) ≡ x.new
stores word offset x low small e =
    let first : quadlet_at (swap_bytes x) 0 ≡ x.argument = from_be_bytes-to_be_bytes_4 x.argument low in
    let second : quadlet_at (swap_bytes x) 4 ≡ x.new = from_be_bytes-to_be_bytes_4 x.new small in
    let found : (word == x.argument) ≡ true = grind (arith, nat_tests, e) in
    ap (λ a. cond (word == a) (quadlet_at (swap_bytes x) 4) word) first ∙ (ap (λ b. cond b (quadlet_at (swap_bytes x) 4) word) found ∙ second)

-- any other leaves the word
spares : (word offset : ℕ) (x : Swap) → x.argument < 2 ^ 32 → (word == x.argument) ≡ false → word_after word (request_at offset (Some x)) ≡ word
spares word offset x low other =
    let first : quadlet_at (swap_bytes x) 0 ≡ x.argument = from_be_bytes-to_be_bytes_4 x.argument low in
    ap (λ a. cond (word == a) (quadlet_at (swap_bytes x) 4) word) first ∙ ap (λ b. cond b (quadlet_at (swap_bytes x) 4) word) other

-- ---- what the answer leaves of the words of the account

pub record IsAnswered (l m : Account) (t : Target) (w : Option Swap) : Type 0 where
  pub own : IsTrue (stands l.latest t) → word_of m (register_at t) ≡ word_after (word_of l (register_at t)) (request_at (offset_of t) w)
  pub others : (r : Register) → IsRegister r → r ≢ register_at t → word_of m r ≡ word_of l r

-- the word of a register that stands is a quadlet
pub quadlet_below : (l : Account) (t : Target) → IsSound l → IsRegister (register_at t) → stands l.latest t ≡ true → word_of l (register_at t) < 2 ^ 32
quadlet_below l (target.OutputPlug p) s is there = word_below l (OutputPlug p) s there
quadlet_below l (target.InputPlug p) s is there = word_below l (InputPlug p) s there
quadlet_below l (target.Channels base) s is there = word_below l (ChannelsAvailable base) s is
quadlet_below l target.BandwidthAvailable s is there = word_below l BandwidthAvailable s tt

-- a swap that is given by its words has their argument
argument_of : (arg new : ℕ) (x : Swap) → arg < 2 ^ 32 → Some (record { argument = arg; new = new }) ≡ Some x → x.argument < 2 ^ 32
argument_of arg new x lt e = let same : record { argument = arg; new = new } ≡ x = cc in subst (λ (y : Swap). y.argument < 2 ^ 32) same lt

-- the argument of a stage's swap is a quadlet
argument_below : (j : Job) (s : Stage) (x : Swap) → StageFits j s → swap_of j s ≡ Some x → x.argument < 2 ^ 32
argument_below j (SwapChannels ch arg w) x f e = argument_of arg _ x f.4 e
argument_below j (SwapBandwidth ch u arg w) x f e = argument_of arg _ x f.3 e
argument_below j (ConnectOutput ch u arg) x f e = argument_of arg _ x f.2.0 e
argument_below j (OverlayOutput arg) x f e = argument_of arg _ x f.1 e
argument_below j (ConnectInput g arg) x f e = argument_of arg _ x f.2 e
argument_below j (LeaveInput ch u arg) x f e = argument_of arg _ x f.2 e
argument_below j (LeaveOutput end ch u arg) x f e = argument_of arg _ x f.2 e
argument_below j (RaiseBandwidth next ch u arg) x f e = argument_of arg _ x f.2 e
argument_below j (RestoreChannel next ch arg) x f e = argument_of arg _ x f.2 e
argument_below j _ x f e = absurd (grind arith)

-- a swap that is a move
moved : (l : Account) (c : ℕ) (t : Target) (p : PlugAt) (m : Move) (x : Swap) → c < 63 → IsSound l → IsRegister (register_at t) → x.argument < 2 ^ 32
    → IsMove c p m (register_at t) x.argument x.new l → IsAnswered l (after c p m l) t (Some x)
moved l c t p m x lt sound at low is =
    record {
      own = λ there. is.later ∙ sym (stores (word_of l (register_at t)) (offset_of t) x low (small there) is.before);
      others = λ r register ne. move_elsewhere c p m l r lt sound is.can register (λ e. ne (e ∙ is.place));
    }
  where
    small : stands l.latest t ≡ true → x.new < 2 ^ 32
    small there =
        subst (λ v. v < 2 ^ 32) is.later
        (quadlet_below (after c p m l) t (moves_keep c p m l lt sound is.can) at (ap (λ o. stands o t) (move_keeps c p m l is.can).latest ∙ there))

-- a swap that found another word, or was refused
failed : (l : Account) (t : Target) (x : Swap) (r : Reply) → x.argument < 2 ^ 32 → IsAnswer l t r → succeeds (Some x) r ≡ false → IsAnswered l l t (Some x)
failed l t x r low a f =
    record {
      own = λ there. sym (spares (word_of l (register_at t)) (offset_of t) x low (let w = a.complete there in grind (arith, nat_tests, f, w.0, w.1)));
      others = λ r register ne. refl;
    }

-- the answer that a stage hears leaves the words so
pub answer_changes : (l : Account) (c : ℕ) (j : Job) (s : Stage) (o : Others) (t : Target) (r : Reply) → c < 63 → IsSound l → StageFits j s
    → IsRegister (register_at t) → IsAnswer l t r → HalfStep l c j s o t r → IsAnswered l (carried_out c j s r l) t (swap_of j s)
answer_changes l c j s o t r lt sound fits at a h = go (swap_of j s) refl
  where
    swaps : (x : Swap) → swap_of j s ≡ Some x → (b : Bool) → succeeds (Some x) r ≡ b → IsAnswered l (cond b (after_move c (move_of j s) l) l) t (Some x)
    swaps x e true f =
        let m = h.moves x e f in
        subst (λ y. IsAnswered l (after_move c y l) t (Some x)) (sym m.move_is)
        (moved l c t m.plug m.move x lt sound at (argument_below j s x fits e) m.is_move)
    swaps x e false f = failed l t x r (argument_below j s x fits e) a f

    go : (w : Option Swap) → swap_of j s ≡ w → IsAnswered l (cond (succeeds w r) (after_move c (move_of j s) l) l) t w
    go None e = record { own = λ there. refl; others = λ r register ne. refl }
    go (Some x) e = swaps x e (succeeds (Some x) r) refl

-- ---- a register of the node after the request

-- its word is the one that the request leaves at its place
pub follows : (l m : Account) (t : Target) (w : Option Swap) (r : Register) → IsAnswered l m t w → IsRegister r
    → (place_of r ≡ offset_of t → (r ≡ register_at t) × IsTrue (stands l.latest t))
    → word_of m r ≡ after_at (place_of r) (request_at (offset_of t) w) (word_of l r)
follows l m t w r x is same = go (cases_eq (offset_of t) (place_of r))
  where
    there : (b : Bool) → (Asked.offset_of (request_at (offset_of t) w) == place_of r) ≡ b
        → after_at (place_of r) (request_at (offset_of t) w) (word_of l r) ≡ cond b (word_after (word_of l r) (request_at (offset_of t) w)) (word_of l r)
    there b e = ap (λ z. cond z (word_after (word_of l r) (request_at (offset_of t) w)) (word_of l r)) e

    go : (offset_of t ≡ place_of r) ⊎ (offset_of t ≢ place_of r) → word_of m r ≡ after_at (place_of r) (request_at (offset_of t) w) (word_of l r)
    go (inl e) =
        let own = same (sym e) in
        let at : Asked.offset_of (request_at (offset_of t) w) ≡ place_of r = request_place (offset_of t) w ∙ e in
        let test : (Asked.offset_of (request_at (offset_of t) w) == place_of r) ≡ true = grind (arith, nat_tests, at) in
        subst (λ q. word_of m q ≡ word_after (word_of l q) (request_at (offset_of t) w)) (sym own.0) (x.own own.1) ∙ sym (there true test)
    go (inr ne) =
        let at : Asked.offset_of (request_at (offset_of t) w) ≡ offset_of t = request_place (offset_of t) w in
        let test : (Asked.offset_of (request_at (offset_of t) w) == place_of r) ≡ false = grind (arith, nat_tests, at, ne) in
        x.others r is (λ e. ne (sym (ap place_of e ∙ place_is t))) ∙ sym (there false test)

-- a place that is no register's of the account
pub passes : (t : Target) (w : Option Swap) (place word : ℕ) → offset_of t ≢ place → after_at place (request_at (offset_of t) w) word ≡ word
passes t w place word ne =
    let at : Asked.offset_of (request_at (offset_of t) w) ≡ offset_of t = request_place (offset_of t) w in
    let test : (Asked.offset_of (request_at (offset_of t) w) == place) ≡ false = grind (arith, nat_tests, at, ne) in
    ap (λ z. cond z (word_after word (request_at (offset_of t) w)) word) test
