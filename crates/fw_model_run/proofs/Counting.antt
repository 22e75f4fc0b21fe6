-- Each plug counts its data packets since it began to talk, and the packets of a cycle carry those counts.
use Rattle.fw_model_run.proofs.Common.{◌≡◌, ℕ, ◌+◌, ◌<◌, ◌==◌, ◌&&◌, ◌||◌, cond, List, [], ◌∷◌, ◌++◌, Bool, true}
use Rattle.fw_model_run.proofs.Common.{false, Option, Some, None, is_some, option_map, refl, ap, sym, subst, ◌∙◌, arith, IsTrue}
use Rattle.fw_model_run.proofs.Common.{nat_tests, PlugAt, update, Reset, Iso, ResetEntry, Timed, Account, talks}
use Rattle.fw_model_run.proofs.Common.{is_output, IsSound, at_cycle, second_over, State, entered, while_talking, bytes_of, tape_at}
use Rattle.fw_model_run.proofs.Common.{stream_packet, Action, Pass, EndSecond, Die, Transition, after_cycles, after_second, after_reset_entry, next_cycle, SendsPackets, IsGood}
use Rattle.std.specs.Prelude.{if◌then◌else◌}
use Rattle.fw_terms.proofs.Tables.{sum_to_changed, sum_to_zero}
use Rattle.fw_tape.specs.declared.cassette.BlockPlace.{BlockPlace}
use Rattle.fw_tape.specs.declared.cassette.Cassette.{Cassette}
use Rattle.fw_tape.specs.Blocks.{block_now, blocks_among}
use Rattle.fw_tape.specs.Motion.{passed_on}
use Rattle.fw_tape.proofs.BlockLaws.{given_now, counted_one}
use Rattle.fw_model_account.specs.Account.{Connections, Owner, Of, Dead, counter, is_there, has_connection}
use Rattle.fw_model_account.specs.Events.{no_connections, orphaned_connections, orphaned_owner, after_reset as account_reset, after_death as account_death}
use Rattle.fw_model_reclaim.specs.Worlds.{Grows}
use Rattle.fw_model_run.specs.Streams.{sent_before}
use Rattle.fw_model_run.specs.Cycles.{given_in, CountsThrough, ArePackets}
use Rattle.fw_model_run.specs.Reclaiming.{IsBusReset}
use Rattle.fw_model_run.proofs.Counts.{heard_on}
use Rattle.fw_model_run.proofs.Events.{living_small}
use Rattle.fw_model_run.proofs.Reclaiming.{bus_resets}
use Rattle.fw_model_run.proofs.Resets.{declaring, numbered}
use Rattle.fw_model_run.proofs.Seconds.{opens_over}
use Rattle.fw_model_run.proofs.Steps.{step_good}
use Rattle.fw_model_run.proofs.Times.{second_ends}
use Rattle.fw_model_run.proofs.Alterations.{Allows, Alteration, Died, Halved, IsTimeless, Over, Passed, altered, begun_timeless}
use Rattle.fw_model_run.proofs.Effects.{Effect, altering, effect, resetting}

-- ---- each action

-- one that leaves the counts
stays : (a : Action) (s t u : State) (p : PlugAt) → IsGood s → IsGood t → t ≡ u → u.streams p ≡ s.streams p → given_in a s p ≡ 0 → CountsThrough a s t p
stays a s t u p g good is same none = subst (λ (z : State). CountsThrough a s z p) (sym is) (record {
  goes_on = λ on still. omega (arith, same, none);
  begins = λ off on. same ∙ g.streams p off;
  silent = (subst IsGood is good).streams p;
})

-- one after which those that talk keep theirs
keeps : (a : Action) (s t u : State) (p : PlugAt) → IsGood s → IsGood t → t ≡ u → u.streams p ≡ while_talking u.account s.streams p → given_in a s p ≡ 0 → CountsThrough a s t p
keeps a s t u p g good is same none = subst (λ (z : State). CountsThrough a s z p) (sym is) (record {
  goes_on = λ on still. let e = same ∙ heard_on u.account s.streams p still in omega (arith, e, none);
  begins = λ off on. same ∙ (heard_on u.account s.streams p on ∙ g.streams p off);
  silent = (subst IsGood is good).streams p;
})

never_both : (b : Bool) → b ≡ true → b ≡ false → ⊥
never_both b x y = let clash : true ≡ false = sym x ∙ y in cc clash

-- the counts after cycles that go by, of the plugs that talk in them
abbrev passing : State → ℕ → PlugAt → ℕ
passing s n p = s.streams p + blocks_among (tape_at s p) n

passes : (s : State) (n : ℕ) (t : State) (p : PlugAt) → IsGood t → t ≡ after_cycles s n → CountsThrough (Pass n) s t p
passes s n t p good is = subst (λ (z : State). CountsThrough (Pass n) s z p) (sym is) (record {
  goes_on = λ on still. heard_on s.account (passing s n) p on;
  begins = λ off on. absurd (never_both (talks s.account p) on off);
  silent = (subst IsGood is good).streams p;
})

-- the count after the cycle at which the second is over
over_counts : (s : State) (p : PlugAt) → IsTrue (talks (entered s.account second_over) p)
    → (after_cycles (after_second s) 1).streams p ≡ s.streams p + blocks_among (tape_at s p) 1
over_counts s p on = heard_on (entered s.account second_over) (passing (after_second s) 1) p on ∙ ap (λ k. k + blocks_among (tape_at s p) 1) (heard_on (entered s.account second_over) s.streams p on)

-- a plug that talks after the second talked before
talked : (s : State) (p : PlugAt) → IsTrue s.account.reclaiming → IsTrue (talks (entered s.account second_over) p) → IsTrue (talks s.account p)
talked s p runs on = go (has_connection (s.account.outputs p)) (s.account.continues p) (subst (λ l. IsTrue (talks l p)) (second_ends s.account runs) on)
  where
    go : (a b : Bool) → (a || false) ≡ true → (a || b) ≡ true
    go true b e = refl
    go false b e = let no : ⊥ = cc e in absurd no

ends : (s t : State) (p : PlugAt) → IsGood t → IsTrue s.account.reclaiming → t ≡ after_cycles (after_second s) 1 → CountsThrough EndSecond s t p
ends s t p good runs is = subst (λ (z : State). CountsThrough EndSecond s z p) (sym is) (record {
  goes_on = λ on still. over_counts s p still;
  begins = λ off on. absurd (never_both (talks s.account p) (talked s p runs on) off);
  silent = (subst IsGood is good).streams p;
})

-- what gives no blocks
timeless_gives : (a : Action) (s : State) (p : PlugAt) → IsTimeless a → given_in a s p ≡ 0
timeless_gives (Pass n) s p moves = absurd moves
timeless_gives EndSecond s p moves = absurd moves
timeless_gives _ s p timeless = refl

pub counts_step : (s : State) (a : Action) (out : List Timed) (t : State) → IsGood s → Transition s a out t → (p : PlugAt) → CountsThrough a s t p
counts_step s a out t g x p = go (effect s a out t x)
  where
    good : IsGood t
    good = step_good s a out t g x

    by : (y : Alteration) → Allows s a y → t ≡ altered s y → CountsThrough a s t p
    by (Halved d lost resets half_steps) ok is = keeps a s t _ p g good is refl (timeless_gives a s p ok.0)
    by (Passed n) ok is = subst (λ b. CountsThrough b s t p) (sym ok.0) (passes s n t p good is)
    by Over ok is = subst (λ b. CountsThrough b s t p) (sym ok.0) (ends s t p good ok.1 is)
    by (Died d) ok is = keeps a s t _ p g good is refl (timeless_gives a s p ok.0)
    by _ ok is = stays a s t _ p g good is refl (timeless_gives a s p ok.0)

    go : Effect s a out t → CountsThrough a s t p
    go (resetting resets half_steps n initiator free begins may r) =
        keeps a s t (after_reset_entry (declaring (numbered s resets half_steps) n) r.entry) p g good r.state_is refl (timeless_gives a s p (begun_timeless a begins))
    go (altering y waits out_is is ok) = by y ok is

-- ---- bus resets and deaths

-- if the same plugs talk, the counts are the same
same_talk : (a : Action) (s t : State) (p : PlugAt) → IsGood s → IsGood t → talks t.account p ≡ talks s.account p → given_in a s p ≡ 0 → CountsThrough a s t p → t.streams p ≡ s.streams p
same_talk a s t p g good same none c = go (talks s.account p) refl
  where
    go : (b : Bool) → talks s.account p ≡ b → t.streams p ≡ s.streams p
    go true on = let e = c.goes_on on (same ∙ on) in omega (arith, e, none)
    go false off = c.silent (same ∙ off) ∙ sym (g.streams p off)

never_reset : (c : ℕ) (e : ResetEntry) → at_cycle c (Reset e) ∷ [] ≡ [] → ⊥
never_reset c e same = cc same

reset_gives : (a : Action) (s t : State) (c : ℕ) (e : ResetEntry) (p : PlugAt) → Transition s a (at_cycle c (Reset e) ∷ []) t → given_in a s p ≡ 0
reset_gives (Pass n) s t c e p x = absurd (never_reset c e x.out_is)
reset_gives EndSecond s t c e p x = absurd (let clash : false ≡ true = ap opens_over x.out_is in cc clash)
reset_gives _ s t c e p x = refl

no_connection : has_connection no_connections ≡ false
no_connection = grind (arith, nat_tests, sum_to_zero 63)

reset_talks : (l : Account) (e : ResetEntry) (p : PlugAt) → IsSound l → Grows l e → talks (account_reset e l) p ≡ talks l p
reset_talks l e p s grows = ap (λ b. b || (talks l p && is_output (Some e) p)) no_connection ∙ go (talks l p) refl
  where
    go : (b : Bool) → talks l p ≡ b → (talks l p && is_output (Some e) p) ≡ talks l p
    go true on = let there = grows.outputs p (s.there p on) in grind (arith, on, there)
    go false off = grind (arith, off)

pub resets_keep : (s : State) (a : Action) (t : State) → IsGood s → IsBusReset s a t → (p : PlugAt) → t.streams p ≡ s.streams p
resets_keep s a t g r p =
    let out = at_cycle s.clock.cycle (Reset r.entry) ∷ [] in
    let x = bus_resets s t a r.entry s.clock.cycle g r.step in
    same_talk a s t p g (step_good s a out t g r.step) (ap (λ (l : Account). talks l p) x.is.account ∙ reset_talks s.account x.entry p g.reclaims.step.sound x.is.grows)
    (reset_gives a s t s.clock.cycle r.entry p r.step) (counts_step s a out t g r.step p)

counter_same : (c : ℕ) (s : Connections) → c < 63 → counter (orphaned_connections c s) ≡ counter s
counter_same c s lt = let e = sum_to_changed 63 c (update s.counts c 0) s.counts lt (λ j ne. grind (arith, nat_tests)) in grind (arith, nat_tests)

orphaned_there : (c : ℕ) (o : Option Owner) → is_there (orphaned_owner c o) ≡ is_there o
orphaned_there c None = refl
orphaned_there c (Some (Of d)) = refl
orphaned_there c (Some Dead) = refl

death_talks : (l : Account) (d : ℕ) (p : PlugAt) → d < 63 → talks (account_death d l) p ≡ talks l p
death_talks l d p lt = let a = counter_same d (l.outputs p) lt in let b = orphaned_there d (l.outputs p).broadcast in grind (arith, a, b)

pub deaths_keep : (s : State) (d : ℕ) (out : List Timed) (t : State) → IsGood s → Transition s (Die d) out t → (p : PlugAt) → t.streams p ≡ s.streams p
deaths_keep s d out t g x p =
    same_talk (Die d) s t p g (step_good s (Die d) out t g x) (ap (λ (z : State). talks z.account p) x.state_is ∙ death_talks s.account d p (living_small s d g x.may)) refl
    (counts_step s (Die d) out t g x p)

-- ---- the packets of a cycle

pub packets_are : (plugs : List PlugAt) (s : State) (actions : List Action) (out : List Timed) (t : State) → SendsPackets plugs s actions out t → ArePackets s plugs out × (t ≡ s)
packets_are [] s actions out t f = (f.1, f.2)
packets_are (p ∷ plugs) s actions out t f =
    let x = f.5 in
    let same : f.1 ≡ s = x.5.1 ∙ x.3.state_is in
    let packet = at_cycle s.clock.cycle (Iso (stream_packet s p (bytes_of f.0))) in
    let one : f.3 ≡ packet ∷ [] = x.4 ∙ (ap (λ z. z ++ x.1) x.3.out_is ∙ ap (λ z. packet ∷ z) x.5.0) in
    let later = packets_are plugs f.1 f.2 f.4 t f.6 in
    ((bytes_of f.0, f.4, f.8 ∙ ap (λ z. z ++ f.4) one, subst (λ z. ArePackets z plugs f.4) same later.0), later.1 ∙ same)

-- 1 for a block
abbrev one_of : Option BlockPlace → ℕ
one_of o = if is_some o then 1 else 0

-- the count before a cycle
before_is : (t : State) (p : PlugAt) (o : Option Cassette) (count : ℕ) → tape_at t p ≡ option_map (passed_on 1) o → t.streams p ≡ count + blocks_among o 1 → sent_before t p ≡ count
before_is t p o count tape counts =
    let now : blocks_among o 1 ≡ one_of (block_now (tape_at t p)) = counted_one o ∙ ap one_of (sym (ap block_now tape ∙ given_now o)) in
    omega (arith, now, counts)

pub counts_before : (s : State) (out : List Timed) (t : State) (p : PlugAt) → Transition s (next_cycle s) out t → IsTrue (talks t.account p) → sent_before t p ≡ s.streams p
counts_before s out t p x on = go (s.account.reclaiming && (s.clock.cycle + 1 == s.clock.over_at)) x
  where
    Ok : State → Type 0
    Ok z = IsTrue (talks z.account p) → sent_before z p ≡ s.streams p

    go : (b : Bool) → Transition s (cond b EndSecond (Pass 1)) out t → sent_before t p ≡ s.streams p
    go true x = subst Ok (sym x.state_is) (λ on. before_is (after_cycles (after_second s) 1) p (tape_at s p) (s.streams p) refl (over_counts s p on)) on
    go false x = subst Ok (sym x.state_is) (λ on. before_is (after_cycles s 1) p (tape_at s p) (s.streams p) refl (heard_on s.account (passing s 1) p on)) on
