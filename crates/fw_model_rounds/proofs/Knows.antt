-- What the account says of the stage of a job: its channel, and that its output plug is free for who holds the channel.
use Rattle.fw_model_rounds.proofs.Common.{◌≡◌, ℕ, ◌+◌, ◌<◌, ◌≤◌, Bool, true, false, Option, Some, eqb, refl, ap}
use Rattle.fw_model_rounds.proofs.Common.{sym, subst, ◌∙◌, arith, inl, inr, ◌||◌, not, nat_tests, option_map, PlugAt, is_connected}
use Rattle.fw_model_rounds.proofs.Common.{Account, Current, Nothing, Asking, Hearing, Overtaken, Job, Target, OutputPlug, Stage, ReadChannels, SwapChannels, ConnectOutput, output_of, ControllerState}
use Rattle.fw_model_rounds.proofs.Common.{CurrentFits, half_of, words_of, shown, Situation, AccountSays}
use Rattle.fw_model_account.specs.Account.{Pending, has_connection, counter, is_there}
use Rattle.fw_model_account.specs.Network.{is_output}
use Rattle.fw_model_account.specs.Sound.{IsSound}
use Rattle.fw_model_account.specs.Words.{word_of}
use Rattle.fw_model_account.specs.Words as word
use Rattle.fw_cmp_jobs.specs.Decisions.{is_other}
use Rattle.fw_cmp_jobs.specs.Fits.{StageFits, IsHalf, AskedWithin}
use Rattle.fw_model_controllers.specs.Controllers.{CurrentInStep, JobInStep}
use Rattle.fw_model_controllers.specs.Holding.{HasReserved}
use Rattle.fw_model_controllers.specs.InStep.{reservation}
use Rattle.fw_model_rounds.specs.Accounts.{IsReclaiming}
use Rattle.fw_model_rounds.specs.Distance.{HasPlug}
use Rattle.fw_model_rounds.specs.HalfSteps.{CurrentKnows, JobKnows}
use Rattle.fw_model_rounds.proofs.Accounts.{connected_word, output_is, holder_of}

-- ---- who holds the channel of an output plug finds it without a connection

plug_is_free : (l : Account) (k ch u : ℕ) (p : PlugAt) → IsSound l → l.reclaiming ≡ true → l.allocations ch ≡ Some (record { holder = Pending k p; units = u }) → has_connection (l.outputs p) ≡ false
plug_is_free l k ch u p s second e = go (has_connection (l.outputs p)) refl
  where
    go : (b : Bool) → has_connection (l.outputs p) ≡ b → has_connection (l.outputs p) ≡ false
    go false is = is
    go true is =
        let own = s.allocated p is in
        let mine = s.reclaimed second ch _ e in
        let its = s.reclaimed second (l.settings p).channel _ own in
        let same = s.reclaimable_once ch (l.settings p).channel p mine.0 its.0 mine.1 its.1 in
        let both : l.allocations ch ≡ l.allocations (l.settings p).channel = ap l.allocations same in
        absurd (grind (arith, both, own, e))

shows_free : (l : Account) (k ch u : ℕ) (p : PlugAt) → IsSound l → l.reclaiming ≡ true → is_output l.latest p ≡ true → l.allocations ch ≡ Some (record { holder = Pending k p; units = u })
    → is_connected (word_of l (word.OutputPlug p)) ≡ false
shows_free l k ch u p s second there e =
    let none = plug_is_free l k ch u p s second e in
    let same : (is_there (l.outputs p).broadcast || not (eqb (counter (l.outputs p)) 0)) ≡ false = grind (arith, nat_tests) in
    connected_word l p s there ∙ same

first_knows : (l : Account) (k : ℕ) (c : ControllerState) (j : Job) (ch u arg : ℕ) (waits : Bool) → IsSound l → l.reclaiming ≡ true → StageFits j (ConnectOutput ch u arg)
    → JobInStep l k c j (ConnectOutput ch u arg) waits → HasPlug (words_of l) j (ConnectOutput ch u arg)
first_knows l k c j ch u arg waits s second f i = go (output_is j.connection f.0)
  where
    go : (p : PlugAt) × (output_of j.connection ≡ Some p) → HasPlug (words_of l) j (ConnectOutput ch u arg)
    go o =
        let own = subst (λ (x : Option PlugAt). HasReserved k (reservation x (Some (record { channel = ch; units = u }))) l.allocations) o.1 i.step.holds.reserved in
        subst (λ (x : Option PlugAt). is_connected (shown (words_of l) (option_map OutputPlug x)) ≡ false) (sym o.1) (shows_free l k ch u o.0 s second (i.step.found o.0 o.1 refl) own.1)

-- ---- the channel that a stage is at

half_is : (base ch : ℕ) → IsHalf base → base ≤ ch → ch < base + 32 → base ≡ half_of ch
half_is base ch (inl e) le lt = grind (arith, nat_tests)
half_is base ch (inr e) le lt = grind (arith, nat_tests)

reads_half : (j : Job) (base w ch : ℕ) → StageFits j (ReadChannels base w) → j.asked ≡ Some ch → base ≡ half_of ch
reads_half j base w ch f e = let within = subst (λ (o : Option ℕ). AskedWithin o base) e f.2 in half_is base ch f.1 within.0 within.1

swaps_own : (l : Account) (k : ℕ) (c : ControllerState) (j : Job) (ch arg w own : ℕ) (waits : Bool) → StageFits j (SwapChannels ch arg w) → JobInStep l k c j (SwapChannels ch arg w) waits
    → j.asked ≡ Some own → ch ≡ own
swaps_own l k c j ch arg w own waits f i e = go (output_is j.connection f.0)
  where
    go : (p : PlugAt) × (output_of j.connection ≡ Some p) → ch ≡ own
    go o =
        let same : is_other (Some own) ch ≡ false = subst (λ (x : Option ℕ). is_other x ch ≡ false) e (i.step.knows o.0 o.1).0 in
        grind (arith, nat_tests)

-- ---- every stage

job_knows : (l : Account) (k : ℕ) (c : ControllerState) (j : Job) (s : Stage) (waits : Bool) → IsSound l → l.reclaiming ≡ true → StageFits j s → JobInStep l k c j s waits → JobKnows (words_of l) j s
job_knows l k c j (ReadChannels base w) waits s second f i = (tt, (λ ch e. reads_half j base w ch f e))
job_knows l k c j (SwapChannels ch arg w) waits s second f i = (tt, (λ own e. swaps_own l k c j ch arg w own waits f i e))
job_knows l k c j (ConnectOutput ch u arg) waits s second f i = (first_knows l k c j ch u arg waits s second f i, (λ ch e. tt))
job_knows l k c j stage waits s second f i = (tt, (λ ch e. tt))

current_knows : (l : Account) (k : ℕ) (c : ControllerState) (current : Current) → IsSound l → l.reclaiming ≡ true → CurrentFits c current → CurrentInStep l k c current
    → CurrentKnows (words_of l) current
current_knows l k c Nothing s second f i = tt
current_knows l k c (Asking j x) s second f i = job_knows l k c j x false s second f.stage i
current_knows l k c (Hearing j x) s second f i = job_knows l k c j x true s second f.stage i
current_knows l k c (Overtaken n o) s second f i = tt

pub account_says : (l : Account) (s : Situation) → IsReclaiming l s → AccountSays s
account_says l s a = record {
  fits = a.fits;
  knows = λ k lt. subst (λ (ws : Target → ℕ). CurrentKnows ws (s.at k).current) (sym a.words)
      (current_knows l k (s.at k) (s.at k).current a.sound a.second (a.fits k lt).current (a.in_step k lt).current);
  holder = λ k lt w. holder_of l s k a lt w;
}
