-- The half step of a controller of which no request is outstanding leads from a good state to a good state.
use Rattle.fw_model_run.proofs.Common.{◌≡◌, ◌≢◌, ◌⊎◌, inl, inr, ℕ, true, Option, Some, None, is_some, unwrap_or, refl}
use Rattle.fw_model_run.proofs.Common.{ap, sym, subst, ◌∙◌, arith, IsTrue, IsFalse, false, ◌<◌, cases_eq, nat_tests, PlugAt}
use Rattle.fw_model_run.proofs.Common.{update, Head, Swap, Async, ResetEntry, Account, row_of_node, node_of, Next, Send, Idle, Waiting, Deaf, Force, Access, ControllerState, new_controller, IsHeard}
use Rattle.fw_model_run.proofs.Common.{offset_of, request_at, next, after_next, kind_at, row_of, goes_on_reclaiming, AsksWhatStands, packet_of, dub_between, State, while_talking, linked_number}
use Rattle.fw_model_run.proofs.Common.{directory_of, is_living, is_deaf, epoch_of, head_from, said, asks, taken, IsGood, IsLatest, world_of, Asks}
use Rattle.fw_csr.specs.declared.request.Request.{Request as Asked}
use Rattle.fw_model_account.specs.Account.{Request}
use Rattle.fw_model_account.specs.Packets.{asked}
use Rattle.fw_cmp.specs.declared.outcome.Next.TheVariants.{End}
use Rattle.fw_cmp_jobs.specs.Requests.{request_of}
use Rattle.fw_async.specs.Quadlets.{request_with}
use Rattle.fw_model_controllers.specs.Requests.{Tells, is_sent, request_to, outstanding_of}
use Rattle.fw_model_controllers.specs.Together.{Becomes}
use Rattle.fw_model_controllers.proofs.Leads.{turn_tells, turn_leads}
use Rattle.fw_model_reclaim.specs.Worlds.{SendsRequest, SendsNothing, Turn}
use Rattle.fw_model_rounds.proofs.Stands.{next_stands}
use Rattle.fw_model_run.specs.State.{entered_by}
use Rattle.fw_model_run.specs.Good.{AreLosses}
use Rattle.fw_model_run.proofs.Buses.{shows_bus, linked_at, linked_small}
use Rattle.fw_model_run.proofs.Counts.{silent}
use Rattle.fw_model_run.proofs.Directories.{told}

-- ---- packets

pub same_packet : (h : Head) (offset : ℕ) (w : Option Swap) → packet_of h (request_at offset w) ≡ request_with h offset w
same_packet h offset None = refl
same_packet h offset (Some swap) = refl

-- ---- one controller of the table

pub update_new : {A : Type 0} → (f : ℕ → A) (d : ℕ) (x : A) → update f d x d ≡ x
update_new f d x = grind (arith, nat_tests)

pub update_others : {A : Type 0} → (f : ℕ → A) (d : ℕ) (x : A) (k : ℕ) → k ≢ d → update f d x k ≡ f k
update_others f d x k ne = grind (arith, nat_tests, ne)

pub becomes : (f : ℕ → ControllerState) (d : ℕ) (x : ControllerState) → Becomes f d x (update f d x)
becomes f d x = record { new = update_new f d x; others = λ k ne. update_others f d x k ne }

-- what holds of all others and of the new one holds of each
pub each_of : (P : ControllerState → Type 0) (f : ℕ → ControllerState) (d : ℕ) (x : ControllerState) → P x → ((k : ℕ) → P (f k)) → (k : ℕ) → P (update f d x k)
each_of P f d x new old k = go (cases_eq k d)
  where
    go : (k ≡ d) ⊎ (k ≢ d) → P (update f d x k)
    go (inl e) = subst P (sym (ap (update f d x) e ∙ update_new f d x)) new
    go (inr ne) = subst P (sym (update_others f d x k ne)) (old k)

-- one that has lost no response changes, and the others still ask
pub quiet_losses : (s : State) (d : ℕ) (c : ControllerState) → IsGood s → IsFalse (is_deaf s d) → AreLosses s.lost (update s.controllers d c) s.resets (epoch_of s.account.latest)
quiet_losses s d c g quiet = record { asks = λ k on. go k on (cases_eq k d); counted = g.losses.counted; came = g.losses.came; few = g.losses.few }
  where
    go : (k : ℕ) → IsTrue (is_deaf s k) → (k ≡ d) ⊎ (k ≢ d) → Asks (update s.controllers d c k).current
    go k on (inl same) = let off : is_deaf s k ≡ false = ap (is_deaf s) same ∙ quiet in absurd (grind (arith, on, off))
    go k on (inr ne) = subst (λ (x : ControllerState). Asks x.current) (sym (update_others s.controllers d c k ne)) (g.losses.asks k on)

-- the controller of device d is new, or keeps what it asks
pub new_losses : (s : State) (d : ℕ) (c : ControllerState) → IsGood s → AreLosses (update s.lost d None) (update s.controllers d c) s.resets (epoch_of s.account.latest)
new_losses s d c g = record { asks = λ k on. go k on (cases_eq k d); counted = λ k on. lost k on (cases_eq k d); came = g.losses.came; few = g.losses.few }
  where
    off : (k : ℕ) → k ≡ d → is_some (update s.lost d None k) ≡ false
    off k same = ap (λ x. is_some (update s.lost d None x)) same ∙ ap is_some (update_new s.lost d None)

    still : (k : ℕ) → k ≢ d → IsTrue (is_some (update s.lost d None k)) → IsTrue (is_deaf s k)
    still k ne on = sym (ap is_some (update_others s.lost d None k ne)) ∙ on

    go : (k : ℕ) → IsTrue (is_some (update s.lost d None k)) → (k ≡ d) ⊎ (k ≢ d) → Asks (update s.controllers d c k).current
    go k on (inl same) = absurd (let none = off k same in grind (arith, on, none))
    go k on (inr ne) = subst (λ (x : ControllerState). Asks x.current) (sym (update_others s.controllers d c k ne)) (g.losses.asks k (still k ne on))

    lost : (k : ℕ) → IsTrue (is_some (update s.lost d None k)) → (k ≡ d) ⊎ (k ≢ d) → epoch_of s.account.latest < s.resets
    lost k on (inl same) = absurd (let none = off k same in grind (arith, on, none))
    lost k on (inr ne) = g.losses.counted k (still k ne on)

pub kept_losses : (s : State) (d : ℕ) (c : ControllerState) → IsGood s → c.current ≡ (s.controllers d).current → AreLosses s.lost (update s.controllers d c) s.resets (epoch_of s.account.latest)
kept_losses s d c g same = record { asks = λ k on. go k on (cases_eq k d); counted = g.losses.counted; came = g.losses.came; few = g.losses.few }
  where
    go : (k : ℕ) → IsTrue (is_deaf s k) → (k ≡ d) ⊎ (k ≢ d) → Asks (update s.controllers d c k).current
    go k on (inl e) =
        let is : (update s.controllers d c k).current ≡ (s.controllers k).current =
        ap (λ x. (update s.controllers d c x).current) e ∙ (ap (λ (x : ControllerState). x.current) (update_new s.controllers d c) ∙ (same ∙ ap (λ x. (s.controllers x).current) (sym e))) in
        subst Asks (sym is) (g.losses.asks k on)
    go k on (inr ne) = subst (λ (x : ControllerState). Asks x.current) (sym (update_others s.controllers d c k ne)) (g.losses.asks k on)

-- ---- the state after it

-- what a turn changes of the account
abbrev marked : Account → (ℕ → Option PlugAt) → (ℕ → Option Request) → Account
marked l a o = record l { addressed = a; outstanding = o }

abbrev turned : State → ℕ → (ℕ → Option PlugAt) → (ℕ → Option Request) → State
turned s d a o = record s {
  account = marked s.account a o;
  controllers = update s.controllers d (after_next s.clock.cycle (directory_of s) (s.controllers d));
  asked_at = update s.asked_at d (asks s d).asked_at;
  streams = while_talking (marked s.account a o) s.streams;
  dub = dub_between s.account (marked s.account a o) s.dub;
}

turned_good : (s : State) (d n : ℕ) (e : ResetEntry) (a : ℕ → Option PlugAt) (o : ℕ → Option Request) → IsGood s → IsTrue (is_living s d) → IsFalse (is_deaf s d) → s.account.latest ≡ Some e
    → IsLatest (Some e) s.declared s.account → linked_number (Some e) d ≡ Some n → IsHeard (s.controllers d).current
    → SendsRequest (world_of s) d s.clock.cycle (marked s.account a o) ⊎ SendsNothing (world_of s) d s.clock.cycle (marked s.account a o) → IsGood (turned s d a o)
turned_good s d n e a o g lives quiet is h number heard says = record {
  declared = g.declared;
  latest = subst (λ x. IsLatest x s.declared (marked s.account a o)) (sym is) h;
  reclaims = goes_on_reclaiming (world_of s) (world_of (turned s d a o)) (Turn d s.clock.cycle) g.reclaims (record {
    device = linked_small s e d n h.1 number;
    shows = shows_bus s e is h.1;
    turn = record {
      heard = heard;
      told = told s e is h.1 g.time.second;
      says = says;
      becomes = becomes s.controllers d (after_next s.clock.cycle (directory_of s) (s.controllers d));
      directory = refl;
    };
  });
  stands = each_of (λ c. AsksWhatStands c.current) s.controllers d (after_next s.clock.cycle (directory_of s) (s.controllers d))
      (next_stands s.clock.cycle (directory_of s) (s.controllers d) heard) g.stands;
  unused = λ k off. unused k off (cases_eq k d);
  time = g.time;
  losses = quiet_losses s d (after_next s.clock.cycle (directory_of s) (s.controllers d)) g quiet;
  half_steps = g.half_steps;
  written = g.written;
  decks = g.decks;
  streams = silent (marked s.account a o) s.streams;
}
  where
    unused : (k : ℕ) → IsFalse (is_living s k) → (k ≡ d) ⊎ (k ≢ d) → (turned s d a o).controllers k ≡ new_controller
    unused k off (inl same) = let on : is_living s k ≡ true = ap (is_living s) same ∙ lives in absurd (grind (arith, on, off))
    unused k off (inr ne) = update_others s.controllers d (after_next s.clock.cycle (directory_of s) (s.controllers d)) k ne ∙ g.unused k off

-- ---- what it says

-- the account after it, and what the controller then waits for
pub data Turns (s : State) (d : ℕ) : Type 0 where
  sends : (request : Request) → outstanding_of (directory_of s) (after_next s.clock.cycle (directory_of s) (s.controllers d)).current ≡ Some request
      → entered_by s.account (asks s d).says ≡ asked d request s.account → Turns s d
  rests : outstanding_of (directory_of s) (after_next s.clock.cycle (directory_of s) (s.controllers d)).current ≡ None → entered_by s.account (asks s d).says ≡ s.account → Turns s d

pub turns : (s : State) (d n : ℕ) (e : ResetEntry) → IsGood s → s.account.latest ≡ Some e → IsLatest (Some e) s.declared s.account → linked_number (Some e) d ≡ Some n
    → IsHeard (s.controllers d).current → Turns s d
turns s d n e g is h number heard = go (next s.clock.cycle (directory_of s) (s.controllers d)) refl
  where
    c : ControllerState
    c = s.controllers d

    tells : Tells (directory_of s) (next s.clock.cycle (directory_of s) c) (after_next s.clock.cycle (directory_of s) c).current
    tells = turn_tells s.clock.cycle (directory_of s) c (g.reclaims.step.fits d) (g.reclaims.step.goes_on d) heard

    goes : (to : ℕ) (q : Asked) (a : Access) → q ≡ request_of a → entered_by s.account (said s d (Send to q)) ≡ asked d (request_to to a) s.account
    goes to q a same =
        let own = subst (λ o. row_of_node o (node_of o d) ≡ Some (row_of d (kind_at s.declared.kinds d))) (sym is) (linked_at s e d n h.1 number) in
        let leads = turn_leads (directory_of s) s.account s.controllers (node_of s.account.latest d) to (row_of d (kind_at s.declared.kinds d)) a g.reclaims.step heard own in
        ap (λ p. entered_by s.account (Some (Async p))) (ap (packet_of (head_from s d to)) same ∙ same_packet (head_from s d to) (offset_of a.target) a.swap) ∙ ap (λ o. unwrap_or o s.account) leads

    go : (x : Next) → next s.clock.cycle (directory_of s) c ≡ x → Turns s d
    go (Send to q) f = let w = tells.sent to q f in sends (request_to to w.0) w.2 (ap (λ x. entered_by s.account (said s d x)) f ∙ goes to q w.0 w.1)
    go (End i o) f = rests (tells.unsent (ap is_sent f)) (ap (λ x. entered_by s.account (said s d x)) f)
    go Idle f = rests (tells.unsent (ap is_sent f)) (ap (λ x. entered_by s.account (said s d x)) f)
    go (Waiting until) f = rests (tells.unsent (ap is_sent f)) (ap (λ x. entered_by s.account (said s d x)) f)
    go (Deaf until) f = rests (tells.unsent (ap is_sent f)) (ap (λ x. entered_by s.account (said s d x)) f)
    go Force f = rests (tells.unsent (ap is_sent f)) (ap (λ x. entered_by s.account (said s d x)) f)

-- the state with this account
abbrev pub with_account : State → ℕ → Account → State
with_account s d l = record s {
  account = l;
  controllers = update s.controllers d (after_next s.clock.cycle (directory_of s) (s.controllers d));
  asked_at = update s.asked_at d (asks s d).asked_at;
  streams = while_talking l s.streams;
  dub = dub_between s.account l s.dub;
}

pub living_linked : (s : State) (d : ℕ) → IsTrue (is_living s d) → IsTrue (is_some (linked_number s.account.latest d))
living_linked s d lives = grind (arith, lives)

pub turn_good : (s : State) (d : ℕ) → IsGood s → IsTrue (is_living s d) → IsFalse (is_deaf s d) → IsHeard (s.controllers d).current → IsGood (taken s d (asks s d))
turn_good s d g lives quiet heard = of_latest s.account.latest refl
  where
    done : (n : ℕ) (e : ResetEntry) → s.account.latest ≡ Some e → IsLatest (Some e) s.declared s.account → linked_number (Some e) d ≡ Some n → Turns s d → IsGood (taken s d (asks s d))
    done n e is h number (sends request out leads) = subst (λ l. IsGood (with_account s d l)) (sym leads)
        (turned_good s d n e (asked d request s.account).addressed (asked d request s.account).outstanding g lives quiet is h number heard
        (inl (record { request = request; outstanding = out; account = refl })))
    done n e is h number (rests out leads) = subst (λ l. IsGood (with_account s d l)) (sym leads)
        (turned_good s d n e s.account.addressed s.account.outstanding g lives quiet is h number heard (inr (record { outstanding = out; account = refl })))

    of_number : (e : ResetEntry) → s.account.latest ≡ Some e → (o : Option ℕ) → linked_number (Some e) d ≡ o → IsTrue (is_some o) → IsGood (taken s d (asks s d))
    of_number e is None f on = absurd (grind arith)
    of_number e is (Some n) f on = let h = subst (λ x. IsLatest x s.declared s.account) is g.latest in done n e is h f (turns s d n e g is h f heard)

    of_latest : (o : Option ResetEntry) → s.account.latest ≡ o → IsGood (taken s d (asks s d))
    of_latest None is = let on = subst (λ x. IsTrue (is_some (linked_number x d))) is (living_linked s d lives) in absurd (grind (arith, on))
    of_latest (Some e) is = of_number e is (linked_number (Some e) d) refl (subst (λ x. IsTrue (is_some (linked_number x d))) is (living_linked s d lives))
