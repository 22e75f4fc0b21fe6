-- Cycles can be written for as long as time may go on: whatever talks, a packet of it may be sent.
use Rattle.fw_model_run.proofs.Common.{◌≡◌, ◌⊎◌, inl, inr, ℕ, zero, suc, ◌+◌, ◌<◌, ◌≤◌, ◌^◌, ◌==◌, ◌&&◌, cond, List, [], ◌∷◌, ◌++◌, length, slice_get, Bool, true, false, Option, Some, None, is_some}
use Rattle.fw_model_run.proofs.Common.{option_map, refl, ap, sym, subst, ◌∙◌, arith, IsTrue, nat_tests, cases_lt, PlugAt, Async, Iso, ResetEntry, Timed, Account, talks, at_most, at_cycle, second_over}
use Rattle.fw_model_run.proofs.Common.{
  State,
  GivenBlock,
  GivesBlock,
  bytes_of,
  tape_at,
  cycle_start,
  stream_packet,
  talkers,
  Action,
  Pass,
  EndSecond,
  StartCycle,
  SendPacket,
  KeepBlock,
  Transition,
  Transitions,
}
use Rattle.fw_model_run.proofs.Common.{after_cycles, after_second, next_cycle, HasCycle, HasCycles, IsGood, heard_in}
use Rattle.std.proofs.Common.{slice_index, IfSome}
use Rattle.fw_cip.specs.Iso.{IsBlock}
use Rattle.fw_tape.specs.declared.cassette.BlockPlace.{BlockPlace}
use Rattle.fw_tape.specs.Blocks.{block_now}
use Rattle.fw_order.specs.declared.limits.TheConstants.{MOST_WRITTEN_CYCLES}
use Rattle.fw_model_run.specs.Cycles.{AllTalk, CanSendPackets, MayWrite, CanWriteCycles}
use Rattle.fw_model_run.specs.Recording.{with_block}
use Rattle.fw_model_run.proofs.Runs.{cycle_steps}
use Rattle.fw_model_run.proofs.Steps.{steps_good}
use Rattle.fw_model_run.proofs.Talkers.{member_talks}
use Rattle.fw_model_run.proofs.Times.{second_ends}

-- ---- a block

zeros : ℕ → List ℕ
zeros zero = []
zeros (suc n) = 0 ∷ zeros n

zeros_length : (n : ℕ) → length (zeros n) ≡ n
unfolding zeros
zeros_length zero = refl
zeros_length (suc n) = ap (λ k. suc k) (zeros_length n)

zeros_bytes : (n i : ℕ) → slice_index (zeros n) i < 256
unfolding zeros
zeros_bytes zero i = omega arith
zeros_bytes (suc n) zero = omega arith
zeros_bytes (suc n) (suc i) = zeros_bytes n i

-- one for a place, if there is one
block_for : Option BlockPlace → Option GivenBlock
block_for None = None
block_for (Some place) = Some (record { place = place; bytes = zeros 480 })

gives_one : (s : State) (p : PlugAt) → GivesBlock s p (block_for (block_now (tape_at s p)))
unfolding block_for
gives_one s p = record { due = due (block_now (tape_at s p)); bytes = bytes (block_now (tape_at s p)) }
  where
    due : (o : Option BlockPlace) → option_map (λ (b : GivenBlock). b.place) (block_for o) ≡ o
    due None = refl
    due (Some place) = refl

    bytes : (o : Option BlockPlace) → IfSome (block_for o) (λ b. IsBlock b.bytes)
    bytes None = tt
    bytes (Some place) = record { size = zeros_length 480; bytes = zeros_bytes 480 }

-- ---- packets

pub can_send : (plugs : List PlugAt) (s : State) → s.transaction ≡ None → AllTalk s plugs → CanSendPackets plugs s
can_send [] s none on = record { actions = []; out = []; sends = (refl, refl, refl) }
can_send (p ∷ plugs) s none on =
    let block = block_for (block_now (tape_at s p)) in
    let entry = at_cycle s.clock.cycle (Iso (stream_packet s p (bytes_of block))) in
    let rest = can_send plugs s none on.1 in
    let sent : Transition s (SendPacket p block) (entry ∷ []) s = record { found = tt; waits = none; may = record { talks = on.0; gives = gives_one s p }; out_is = refl; state_is = refl } in
    record {
      actions = SendPacket p block ∷ rest.actions;
      out = entry ∷ rest.out;
      sends = (block, s, rest.actions, entry ∷ [], rest.out, (entry ∷ [], [], s, sent, refl, (refl, refl)), rest.sends, refl, refl);
    }

all_talk : (s : State) (plugs : List PlugAt) → ((i : ℕ) (p : PlugAt) → slice_get plugs i ≡ Some p → IsTrue (talks s.account p)) → AllTalk s plugs
all_talk s [] f = tt
all_talk s (p ∷ plugs) f = (f 0 p refl, all_talk s plugs (λ i q e. f (suc i) q e))

pub talkers_talk : (s : State) → AllTalk s (talkers s.account)
talkers_talk s = all_talk s (talkers s.account) (λ i p e. (member_talks 64 s.account i p e).0)

append_none : (xs : List Timed) → xs ++ [] ≡ xs
append_none [] = refl
append_none (x ∷ xs) = ap (λ z. x ∷ z) (append_none xs)

-- ---- one cycle

-- the next cycle comes
record Comes (s : State) : Type 0 where
  out : List Timed
  after : State
  step : Transition s (next_cycle s) out after
  cycle : after.clock.cycle ≡ s.clock.cycle + 1
  latest : after.account.latest ≡ s.account.latest
  written : after.written ≡ s.written
  none : after.transaction ≡ None

comes : (s : State) → IsGood s → s.transaction ≡ None → s.clock.cycle + 1 ≤ 2 ^ 52 → Comes s
comes s g none low = go (s.account.reclaiming && (s.clock.cycle + 1 == s.clock.over_at)) refl
  where
    ComesBy : Action → Type 0
    ComesBy a = (out : List Timed) × (after : State) × Transition s a out after × (after.clock.cycle ≡ s.clock.cycle + 1) × (after.account.latest ≡ s.account.latest) × (after.written ≡ s.written)
        × (after.transaction ≡ None)

    ends : IsTrue s.account.reclaiming → s.clock.cycle + 1 ≡ s.clock.over_at → ComesBy EndSecond
    ends runs at = (
      at_most (s.clock.cycle + 1) (Some second_over),
      after_cycles (after_second s) 1,
      record { found = tt; waits = none; may = record { fits = low; runs = runs; over = at }; out_is = refl; state_is = refl },
      refl,
      ap (λ (l : Account). l.latest) (second_ends s.account runs),
      refl,
      none,
    )

    passes : (IsTrue s.account.reclaiming → s.clock.cycle + 1 < s.clock.over_at) → ComesBy (Pass 1)
    passes early = ([], after_cycles s 1, record { found = tt; waits = none; may = record { fits = low; within = early }; out_is = refl; state_is = refl }, refl, refl, refl, none)

    both : (a : Bool) (m n : ℕ) → (a && (m == n)) ≡ true → (a ≡ true) × (m ≡ n)
    both a m n e = (grind (arith, e), grind (arith, nat_tests, e))

    apart : (a : Bool) (m n : ℕ) → (a && (m == n)) ≡ false → a ≡ true → m ≡ n → ⊥
    apart a m n e on same = grind (arith, nat_tests, e, on, same)

    made : (b : Bool) → (s.account.reclaiming && (s.clock.cycle + 1 == s.clock.over_at)) ≡ b → ComesBy (cond b EndSecond (Pass 1)) → Comes s
    made b e f = let x = subst (λ b. ComesBy (cond b EndSecond (Pass 1))) (sym e) f in record { out = x.0; after = x.1; step = x.2; cycle = x.3; latest = x.4; written = x.5; none = x.6 }

    go : (b : Bool) → (s.account.reclaiming && (s.clock.cycle + 1 == s.clock.over_at)) ≡ b → Comes s
    go true e = let h = both s.account.reclaiming (s.clock.cycle + 1) s.clock.over_at e in made true e (ends h.0 h.1)
    go false e = made false e (passes (λ on. let below = g.time.second on in strictly below (λ same. apart s.account.reclaiming (s.clock.cycle + 1) s.clock.over_at e on same)))
      where
        strictly : s.clock.cycle < s.clock.over_at → (s.clock.cycle + 1 ≡ s.clock.over_at → ⊥) → s.clock.cycle + 1 < s.clock.over_at
        strictly below ne = pick (cases_lt (s.clock.cycle + 1) s.clock.over_at)
          where
            pick : (s.clock.cycle + 1 < s.clock.over_at) ⊎ (s.clock.over_at ≤ s.clock.cycle + 1) → s.clock.cycle + 1 < s.clock.over_at
            pick (inl lt) = lt
            pick (inr ge) = absurd (ne (omega (arith, below, ge)))

-- it is written, if that is begun
record CanCycle (s : State) : Type 0 where
  actions : List Action
  out : List Timed
  after : State
  has : HasCycle s.account.latest s actions out after
  cycle : after.clock.cycle ≡ s.clock.cycle + 1
  latest : after.account.latest ≡ s.account.latest
  few : (n : ℕ) → (IsTrue (is_some s.account.latest) → s.written + suc n ≤ MOST_WRITTEN_CYCLES) → IsTrue (is_some after.account.latest) → after.written + n ≤ MOST_WRITTEN_CYCLES
  none : after.transaction ≡ None

can_cycle : (s : State) → IsGood s → s.transaction ≡ None → s.clock.cycle + 1 ≤ 2 ^ 52 → (IsTrue (is_some s.account.latest) → s.written < MOST_WRITTEN_CYCLES) → CanCycle s
can_cycle s g none low few = go s.account.latest refl
  where
    c : Comes s
    c = comes s g none low

    one : Transitions s (next_cycle s ∷ []) c.out c.after
    one = (c.out, [], c.after, c.step, sym (append_none c.out), (refl, refl))

    go : (o : Option ResetEntry) → s.account.latest ≡ o → CanCycle s
    go None is = record {
      actions = next_cycle s ∷ [];
      out = c.out;
      after = c.after;
      has = subst (λ o. HasCycle o s (next_cycle s ∷ []) c.out c.after) (sym is) (one, refl);
      cycle = c.cycle;
      latest = c.latest;
      few = λ n before there. absurd (let on : IsTrue (is_some {T = ResetEntry} None) = subst (λ o. IsTrue (is_some o)) (c.latest ∙ is) there in cc on);
      none = c.none;
    }
    go (Some e) is =
        let start = at_most c.after.clock.cycle (Some (Async (cycle_start e.root c.after.clock.cycle))) in
        let mid : State = record c.after { written = c.after.written + 1 } in
        let less : c.after.written < MOST_WRITTEN_CYCLES = let w = few (subst (λ o. IsTrue (is_some o)) (sym is) refl) in let same = c.written in omega (arith, w, same) in
        let sent = can_send (talkers mid.account) mid c.none (talkers_talk mid) in
        let out = (c.out ++ start) ++ sent.out in
        let block = heard_in mid out in
        let begins : Transition c.after StartCycle start mid = record { found = e; waits = c.none; may = record { few = less; latest = c.latest ∙ is }; out_is = refl; state_is = refl } in
        let kept : Transition mid (KeepBlock block) [] (with_block mid block) = record { found = tt; waits = c.none; may = tt; out_is = refl; state_is = refl } in
        record {
          actions = (next_cycle s ∷ StartCycle ∷ sent.actions) ++ KeepBlock block ∷ [];
          out = out;
          after = with_block mid block;
          has = subst (λ o. HasCycle o s ((next_cycle s ∷ StartCycle ∷ sent.actions) ++ KeepBlock block ∷ []) out (with_block mid block)) (sym is) (record {
            sent = mid;
            written = next_cycle s ∷ StartCycle ∷ sent.actions;
            writes = record {
              mid = mid;
              packets = sent.actions;
              first = c.out ++ start;
              last = sent.out;
              comes = (c.out, start, c.after, c.step, refl, (start, [], mid, begins, refl, (refl, refl)));
              sends = sent.sends;
              actions_are = refl;
              out_is = refl;
            };
            keeps = ([], [], with_block mid block, kept, refl, (refl, refl));
            actions_are = refl;
          });
          cycle = c.cycle;
          latest = c.latest;
          few = λ n before there. let w = before (subst (λ o. IsTrue (is_some o)) (sym is) refl) in let same = c.written in omega (arith, w, same);
          none = c.none;
        }

-- ---- so many

pub can_write : (n : ℕ) (s : State) → IsGood s → MayWrite n s → CanWriteCycles n s
unfolding HasCycles
can_write zero s g may = record { actions = []; out = []; after = s; cycles = (refl, refl, refl) }
can_write (suc n) s g may =
    let low = may.cycle in
    let c = can_cycle s g may.none (omega (arith, low)) (λ on. let w = may.few on in omega (arith, w)) in
    let good : IsGood c.after = steps_good s c.after c.actions c.out g (cycle_steps s.account.latest s c.actions c.out c.after c.has) in
    let same = c.cycle in
    let rest = can_write n c.after good (record { none = c.none; cycle = omega (arith, low, same); few = c.few n may.few }) in
    record {
      actions = c.actions ++ rest.actions;
      out = c.out ++ rest.out;
      after = rest.after;
      cycles = (c.after, c.actions, rest.actions, c.out, rest.out, c.has, rest.cycles, refl, refl);
    }
