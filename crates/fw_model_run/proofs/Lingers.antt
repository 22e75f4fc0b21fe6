-- Each action leaves the output plugs that linger as its entry says, and a half step as their words say.
use Rattle.fw_model_run.proofs.Common.{◌≡◌, ℕ, ◌<◌, ◌==◌, ◌&&◌, List, Bool, true, false, Option, Some, None}
use Rattle.fw_model_run.proofs.Common.{is_some, option_map, refl, ap, sym, subst, ◌∙◌, arith, IsTrue, ⊤, nat_tests, output_plugs_of}
use Rattle.fw_model_run.proofs.Common.{at_plug, PlugAt, Packet, Entry, Reset, Async, Iso, Event, Outcome, Shown, End, ResetEntry, Timed, Account, talks, is_output, is_output_of, IsSound, OutputPlug}
use Rattle.fw_model_run.proofs.Common.{word_of, node_of, any_at, Current, Nothing, Asking, Hearing, Overtaken, Next, Send}
use Rattle.fw_model_run.proofs.Common.{EndOf, Idle, Waiting, Deaf, Force, Access, access_of, addressee_of, next, kind_at}
use Rattle.fw_model_run.proofs.Common.{row_of, at_most, State, directory_of, number_in, is_on, is_living, answer_packet, head_from}
use Rattle.fw_model_run.proofs.Common.{said, half, half_of, after_half, Action, AddDevice, AddCable, ResetBus}
use Rattle.fw_model_run.proofs.Common.{HalfStep, Pass, EndSecond, Lose, CarryOut, Transition, IsGood, IsLatest}
use Rattle.fw_cmp_jobs.specs.Requests.{request_of}
use Rattle.fw_plug.specs.Plugs.{is_active}
use Rattle.fw_model_controllers.specs.Lingering.{SameLinger, LingerUnchanged}
use Rattle.fw_model_controllers.proofs.Lingers.{talks_shown}
use Rattle.fw_model_controllers.proofs.LingersAlong.{entry_lingers}
use Rattle.fw_model_run.specs.HalfSteps.{hears, hears_from}
use Rattle.fw_model_run.specs.Lingering.{LingerBy, LingerThrough, LingerHalf}
use Rattle.fw_model_run.proofs.Along.{step_led}
use Rattle.fw_model_run.proofs.Buses.{row_place}
use Rattle.fw_model_run.proofs.Leads.{NextIs, half_next}
use Rattle.fw_model_run.proofs.Led.{Led}
use Rattle.fw_model_run.proofs.Times.{second_ends}
use Rattle.fw_model_run.proofs.Words.{number_of_on}
use Rattle.fw_model_run.proofs.Taking.{Taken, listens, keeps_deaf, forces_reset, may_step, taken_as}
use Rattle.fw_model_run.proofs.Withholds.{withholding_keeps}
use Rattle.fw_model_run.proofs.Alterations.{Allows, Alteration, Halved, IsHalf, IsTimeless, MayBegin, Over, Withheld, altered}
use Rattle.fw_model_run.proofs.Effects.{Effect, altering, effect, resetting}

-- ---- by an entry, or none

flags : (l m : Account) → m ≡ l → SameLinger l m
flags l m e p = ap (λ (x : Account). x.continues p) e

kept : (v w : ℕ) (a b : Bool) → v ≡ w → a ≡ b → a ≡ ((v == w) && b)
kept v w a b same e = grind (arith, nat_tests, same, e)

unchanged : (l m : Account) → m ≡ l → LingerUnchanged l m
unchanged l m e p = kept _ _ _ _ (ap (λ (x : Account). word_of x (OutputPlug p)) e) (ap (λ (x : Account). x.continues p) e)

by_entry : (s t : State) (out : List Timed) → IsGood s → Led s out t → LingerBy out s.account t.account
by_entry s t out g w = subst (λ z. LingerBy z s.account t.account) (sym w.is) (go w.entry w.next)
  where
    go : (o : Option Entry) → NextIs s.account o t.account → LingerBy (at_most t.clock.cycle o) s.account t.account
    go None e = flags s.account t.account e
    go (Some x) e = entry_lingers s.account t.account x g.reclaims.step.sound e

-- ---- a half step

-- it writes a packet, an outcome or nothing
abbrev pub IsOfHalf : Option Entry → Type 0
IsOfHalf None = ⊤
IsOfHalf (Some (Async p)) = ⊤
IsOfHalf (Some (Outcome o)) = ⊤
IsOfHalf _ = ⊥

of_half : (l m : Account) (o : Option Entry) → IsSound l → IsOfHalf o → NextIs l o m → LingerUnchanged l m
of_half l m None s is e = unchanged l m e
of_half l m (Some (Async p)) s is e = entry_lingers l m (Async p) s e
of_half l m (Some (Outcome o)) s is e = let same : m ≡ l = cc in unchanged l m same
of_half l m (Some (Reset r)) s is e = absurd is
of_half l m (Some (Iso p)) s is e = absurd is
of_half l m (Some (Event v)) s is e = absurd is
of_half l m (Some (Shown v)) s is e = absurd is
of_half l m (Some End) s is e = absurd is

pub says_half : (s : State) (d : ℕ) → IsOfHalf (half s d).says
says_half s d = go (s.controllers d).current
  where
    said_half : (y : Next) → IsOfHalf (said s d y)
    said_half (Send to q) = tt
    said_half (EndOf slot outcome) = tt
    said_half Idle = tt
    said_half (Waiting until) = tt
    said_half (Deaf until) = tt
    said_half Force = tt

    packet : (o : Option Packet) → IsOfHalf (option_map Async o)
    packet None = tt
    packet (Some p) = tt

    from : (o : Option ℕ) (a : Access) → IsOfHalf (hears_from s d o a).says
    from None a = tt
    from (Some to) a = packet (answer_packet s to (head_from s d to) (request_of a))

    heard : (o : Option Access) → IsOfHalf (hears s d o).says
    heard None = tt
    heard (Some a) = from (addressee_of (directory_of s) a.target) a

    go : (c : Current) → IsOfHalf (half_of s d c).says
    go Nothing = said_half (next s.clock.cycle (directory_of s) (s.controllers d))
    go (Asking j stage) = said_half (next s.clock.cycle (directory_of s) (s.controllers d))
    go (Overtaken slot outcome) = said_half (next s.clock.cycle (directory_of s) (s.controllers d))
    go (Hearing j stage) = heard (access_of j stage)

pub half_lingers : (s : State) (d : ℕ) → IsGood s → IsTrue (is_living s d) → LingerUnchanged s.account (after_half s d).account
half_lingers s d g lives = of_half s.account (after_half s d).account (half s d).says g.reclaims.step.sound (says_half s d) (half_next s d g lives)

-- ---- each action

-- one whose account is this one
leads_to : (P : Account → Type 0) (t u : State) → t ≡ u → P u.account → P t.account
leads_to P t u e h = subst (λ (z : State). P z.account) (sym e) h

-- by the entry that a half step writes, which is no bus reset
unforced : (l m : Account) (cycle : ℕ) (o : Option Entry) → IsOfHalf o → LingerUnchanged l m → LingerHalf (at_most cycle o) l m
unforced l m cycle None h f = f
unforced l m cycle (Some (Async p)) h f = f
unforced l m cycle (Some (Outcome x)) h f = f
unforced l m cycle (Some (Reset r)) h f = absurd h
unforced l m cycle (Some (Iso p)) h f = absurd h
unforced l m cycle (Some (Event x)) h f = absurd h
unforced l m cycle (Some (Shown x)) h f = absurd h
unforced l m cycle (Some End) h f = absurd h

-- that of a bus reset
by_force : (cycle : ℕ) (e : ResetEntry) (out : List Timed) (l m : Account) → out ≡ at_most cycle (Some (Reset e)) → LingerBy out l m → LingerHalf out l m
by_force cycle e out l m is h = subst (λ o. LingerHalf o l m) (sym is) (subst (λ o. LingerBy o l m) is h)

still_linger : (l : Account) → LingerUnchanged l l
still_linger l p = grind (arith, nat_tests)

taken_lingers : (s : State) (d : ℕ) (out : List Timed) (t : State) → IsGood s → IsTrue (is_living s d) → Led s out t → Taken s d out t → LingerHalf out s.account t.account
taken_lingers s d out t g lives w (listens quiet said is) = subst (λ o. LingerHalf o s.account t.account) (sym said)
    (unforced s.account t.account s.clock.cycle (half s d).says (says_half s d) (leads_to (LingerUnchanged s.account) t _ is (half_lingers s d g lives)))
taken_lingers s d out t g lives w (keeps_deaf deaf said is) = subst (λ o. LingerHalf o s.account t.account) (sym said) (leads_to (LingerUnchanged s.account) t _ is (still_linger s.account))
taken_lingers s d out t g lives w (forces_reset deaf r) = by_force s.clock.cycle r.entry out s.account t.account r.out_is (by_entry s t out g w)

-- one that is no bus reset, no half step and no end of a second
leaves : (s : State) (a : Action) (out : List Timed) (t : State) → (MayBegin a → ⊥) → (IsHalf a → ⊥) → IsTimeless a → Effect s a out t → SameLinger s.account t.account
leaves s a out t unbegun whole timeless (resetting resets half_steps n initiator free begins may r) = absurd (unbegun begins)
leaves s a out t unbegun whole timeless (altering y waits out_is is ok) = leads_to (SameLinger s.account) t _ is (go y ok)
  where
    go : (y : Alteration) → Allows s a y → SameLinger s.account (altered s y).account
    go (Halved d lost resets half_steps) ok = absurd (whole ok.1)
    go Over ok = absurd (subst IsTimeless ok.0 timeless)
    go Withheld ok = λ p. withholding_keeps (λ (l : Account). l.continues p) s.account refl
    go _ ok = λ p. refl

pub step_lingers : (s : State) (a : Action) (out : List Timed) (t : State) → IsGood s → Transition s a out t → LingerThrough a out s.account t.account
step_lingers s (AddDevice name kind ports speed) out t g x = by_entry s t out g (step_led s t (AddDevice name kind ports speed) out g x)
step_lingers s (AddCable a b) out t g x = by_entry s t out g (step_led s t (AddCable a b) out g x)
step_lingers s (ResetBus d) out t g x = by_entry s t out g (step_led s t (ResetBus d) out g x)
step_lingers s (HalfStep d) out t g x = taken_lingers s d out t g (may_step s d x.found x.may).lives (step_led s t (HalfStep d) out g x) (taken_as s d out t x)
step_lingers s (CarryOut d) out t g x = leads_to (LingerUnchanged s.account) t _ x.state_is (half_lingers s d g x.may.lives)
step_lingers s (Lose d) out t g x = leads_to (LingerUnchanged s.account) t _ x.state_is (half_lingers s d g x.may.request.lives)
step_lingers s (Pass n) out t g x = leads_to (SameLinger s.account) t _ x.state_is (λ p. refl)
step_lingers s EndSecond out t g x =
    let P : Account → Type 0 = λ l. (p : PlugAt) → l.continues p ≡ false in leads_to P t _ x.state_is (subst P (sym (second_ends s.account x.may.runs)) (λ p. refl))
step_lingers s a out t g x = leaves s a out t (λ no. no) (λ no. no) tt (effect s a out t x)

-- ---- devices on the bus and off it

-- an output plug of a device on the bus stands
stands : (s : State) (d n k : ℕ) → IsGood s → number_in s.account.latest d ≡ Some n → k < output_plugs_of (kind_at s.declared.kinds d)
    → is_output s.account.latest (at_plug d k) ≡ true
stands s d n k g at lt = go s.account.latest g.latest at
  where
    go : (o : Option ResetEntry) → IsLatest o s.declared s.account → number_in o d ≡ Some n → is_output o (at_plug d k) ≡ true
    go None h at = absurd (let z : ⊥ = cc in z)
    go (Some e) h at = any_at (is_output_of (at_plug d k)) e.nodes n (row_of d (kind_at s.declared.kinds d)) (h.1.numbers d n at) (grind (arith, nat_tests))

pub talks_by_word : (s : State) (d k : ℕ) → IsGood s → IsTrue (is_on s d) → k < output_plugs_of (kind_at s.declared.kinds d)
    → is_active (word_of s.account (OutputPlug (at_plug d k))) (s.account.continues (at_plug d k)) ≡ talks s.account (at_plug d k)
talks_by_word s d k g on lt =
    talks_shown s.account (at_plug d k) g.reclaims.step.sound (stands s d (node_of s.account.latest d) k g (number_of_on s.account.latest d on) lt)

-- no plug of a device that is off stands
gone : (s : State) (d k : ℕ) → IsGood s → is_on s d ≡ false → is_output s.account.latest (at_plug d k) ≡ true → ⊥
gone s d k g off there = go s.account.latest g.latest off there
  where
    go : (o : Option ResetEntry) → IsLatest o s.declared s.account → is_some (number_in o d) ≡ false → is_output o (at_plug d k) ≡ true → ⊥
    go None h off there = grind (arith, there)
    go (Some e) h off there =
        let w = row_place (is_output_of (at_plug d k)) e.nodes there in
        let device : w.1.device ≡ d = let x = w.3 in grind (arith, nat_tests, x) in
        let number : number_in (Some e) d ≡ Some w.0 = ap (number_in (Some e)) (sym device) ∙ (h.1.rows w.0 w.1 w.2).1 in
        let on : is_some (number_in (Some e) d) ≡ true = ap is_some number in
        grind (arith, on, off)

pub off_talks : (s : State) (d k : ℕ) → IsGood s → is_on s d ≡ false → talks s.account (at_plug d k) ≡ false
off_talks s d k g off = go (talks s.account (at_plug d k)) refl
  where
    go : (b : Bool) → talks s.account (at_plug d k) ≡ b → talks s.account (at_plug d k) ≡ false
    go true e = absurd (gone s d k g off (g.reclaims.step.sound.there (at_plug d k) e))
    go false e = e
