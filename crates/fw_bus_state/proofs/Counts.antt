-- What is counted of the plugs that talk, through each change.
use Rattle.fw_bus_state.proofs.Common.{◌≡◌, ◌≢◌, ◌⊎◌, inl, inr, ℕ, zero, suc, ◌+◌, ◌<◌, ◌≤◌, List, [], ◌∷◌, length, replicate, take, add-one, slice_set, Bool, true, false, cond, refl, ap, sym, subst}
use Rattle.fw_bus_state.proofs.Common.{◌∙◌, arith, IsTrue, cases_eq, cases_lt, get_or-set_same, get_or-set_other, length-replicate, length-set, at_plug, NodeState, tape_of, node_at, IsGood, State}
use Rattle.fw_bus_state.proofs.Common.{PlugAt, HasLingering, HasNodes, count_at, counted_on}
use Rattle.std.proofs.Common.{◌%◌}
use Rattle.std.proofs.lemmas.List.{length-take}
use Rattle.fw_model_account.specs.Account.{talks}
use Rattle.fw_tape.specs.Blocks.{blocks_among}
use Rattle.fw_node.specs.Streams as Plugs
use Rattle.fw_model_run.specs.Afterwards.{after_cycles}
use Rattle.fw_model_run.specs.State.{first_state, while_talking}
use Rattle.fw_bus_state.specs.Stands.{HasDecks, seen}
use Rattle.fw_bus_state.specs.Streaming.{HasStreams, counted_for, looked_at}
use Rattle.fw_bus_state.proofs.Streaming.{talks_same, undeclared_silent, tape_same, few_nodes}

-- ---- counts by device

pub counted_size : (cycles : ℕ) (nodes : List NodeState) (counts : List ℕ) → length (counted_on cycles nodes counts) ≡ length counts
counted_size cycles [] counts = refl
counted_size cycles (n ∷ nodes) [] = refl
counted_size cycles (n ∷ nodes) (k ∷ counts) = ap (λ j. suc j) (counted_size cycles nodes counts)

pub counted_at : (cycles : ℕ) (nodes : List NodeState) (counts : List ℕ) (d : ℕ) → d < length nodes → length nodes ≤ length counts
    → count_at (counted_on cycles nodes counts) d ≡ counted_for cycles (node_at nodes d) (count_at counts d)
counted_at cycles [] counts d low few = absurd (omega (arith, low))
counted_at cycles (n ∷ nodes) [] d low few = absurd (omega (arith, few))
counted_at cycles (n ∷ nodes) (k ∷ counts) zero low few = refl
counted_at cycles (n ∷ nodes) (k ∷ counts) (suc d) low few = counted_at cycles nodes counts d (omega (arith, low)) (omega (arith, few))

pub counted_past : (cycles : ℕ) (nodes : List NodeState) (counts : List ℕ) (d : ℕ) → length nodes ≤ d
    → count_at (counted_on cycles nodes counts) d ≡ count_at counts d
counted_past cycles [] counts d past = refl
counted_past cycles (n ∷ nodes) [] d past = refl
counted_past cycles (n ∷ nodes) (k ∷ counts) zero past = absurd (omega (arith, past))
counted_past cycles (n ∷ nodes) (k ∷ counts) (suc d) past = counted_past cycles nodes counts d (omega (arith, past))

-- one device more
counted_next : (cycles : ℕ) (nodes : List NodeState) (counts : List ℕ) (d : ℕ) → d < length nodes → length nodes ≤ length counts
    → slice_set (counted_on cycles (take d nodes) counts) d (counted_for cycles (node_at nodes d) (count_at counts d))
    ≡ counted_on cycles (take (suc d) nodes) counts
counted_next cycles [] counts d low few = absurd (omega (arith, low))
counted_next cycles (n ∷ nodes) [] d low few = absurd (omega (arith, few))
counted_next cycles (n ∷ nodes) (k ∷ counts) zero low few = refl
counted_next cycles (n ∷ nodes) (k ∷ counts) (suc d) low few =
    ap (λ ks. counted_for cycles n k ∷ ks) (counted_next cycles nodes counts d (omega (arith, low)) (omega (arith, few)))

pub counted_more : (cycles : ℕ) (nodes : List NodeState) (counts now : List ℕ) (d v : ℕ) → d < length nodes → length nodes ≤ length counts
    → now ≡ counted_on cycles (take d nodes) counts → v ≡ counted_for cycles (node_at nodes d) (count_at now d)
    → slice_set now d v ≡ counted_on cycles (take (d + 1) nodes) counts
counted_more cycles nodes counts now d v low few is value =
    let size = length-take d nodes in
    let same : count_at now d ≡ count_at counts d = ap (λ ks. count_at ks d) is ∙ counted_past cycles (take d nodes) counts d (omega (arith, size)) in
    (λ i. slice_set (is i) d ((value ∙ ap (counted_for cycles (node_at nodes d)) same) i))
    ∙ (counted_next cycles nodes counts d low few ∙ ap (λ k. counted_on cycles (take k nodes) counts) (sym (add-one d)))

-- before the first device nothing is sent
nothing_at : (n d : ℕ) → count_at (replicate n 0) d ≡ 0
nothing_at zero d = refl
nothing_at (suc n) zero = refl
nothing_at (suc n) (suc d) = nothing_at n d

pub nothing_sent : HasStreams (replicate 63 0) first_state.streams
nothing_sent = record { size = length-replicate {A = ℕ} 63 0; each = λ d. nothing_at 63 d }

-- ---- cycles go by

-- what the counts after cycles rest on: those of the plugs that talk, and the tapes of their devices
pub record MayCount (nodes : List NodeState) (counts : List ℕ) (s : State) : Type 0 where
  pub size : length counts ≡ 63
  pub few : length nodes ≤ 63
  pub same : (d : ℕ) → d < length nodes → Plugs.talks (node_at nodes d) ≡ talks s.account (at_plug d 0)
  pub silent : (d : ℕ) → length nodes ≤ d → talks s.account (at_plug d 0) ≡ false
  pub tapes : (d : ℕ) → d < length nodes → IsTrue (talks s.account (at_plug d 0)) → tape_of (node_at nodes d) ≡ (s.decks d).unit.tape
  pub each : (d : ℕ) → d < length nodes → IsTrue (talks s.account (at_plug d 0)) → count_at counts d ≡ s.streams (at_plug d 0) % 256
  pub none : (d : ℕ) → length nodes ≤ d → count_at counts d ≡ 0

add_low : (k n : ℕ) → (k % 256 + n) % 256 ≡ (k + n) % 256
add_low k n = omega arith

pub streams_counted : (cycles : ℕ) (nodes : List NodeState) (counts : List ℕ) (s : State) → MayCount nodes counts s
    → HasStreams (counted_on cycles nodes counts) (after_cycles s cycles).streams
streams_counted cycles nodes counts s may = record {
  size = counted_size cycles nodes counts ∙ may.size;
  each = λ d. go d (cases_lt d (length nodes));
}
  where
    -- the count that the run has
    count : ℕ → ℕ
    count d = s.streams (at_plug d 0) + blocks_among (s.decks d).unit.tape cycles

    within : (d : ℕ) → d < length nodes → (b : Bool) → talks s.account (at_plug d 0) ≡ b
        → cond b ((count_at counts d + blocks_among (tape_of (node_at nodes d)) cycles) % 256) 0 ≡ cond b (count d) 0 % 256
    within d low true on =
        (λ i. (may.each d low on i + blocks_among (may.tapes d low on i) cycles) % 256)
        ∙ add_low (s.streams (at_plug d 0)) (blocks_among (s.decks d).unit.tape cycles)
    within d low false off = refl

    go : (d : ℕ) → (d < length nodes) ⊎ (length nodes ≤ d)
        → count_at (counted_on cycles nodes counts) d ≡ (after_cycles s cycles).streams (at_plug d 0) % 256
    go d (inl low) =
        let room : length nodes ≤ length counts = (let few = may.few in let size = may.size in omega (arith, few, size)) in
        counted_at cycles nodes counts d low room
        ∙ (ap (λ b. cond b ((count_at counts d + blocks_among (tape_of (node_at nodes d)) cycles) % 256) 0) (may.same d low)
        ∙ within d low (talks s.account (at_plug d 0)) refl)
    go d (inr past) =
        counted_past cycles nodes counts d past
        ∙ (may.none d past ∙ sym (ap (λ b. cond b (count d) 0 % 256) (may.silent d past)))

-- a plug of a device that is not declared has sent nothing
pub undeclared_none : (nodes : List NodeState) (counts : List ℕ) (s : State) (d : ℕ) → IsGood s → HasNodes nodes (seen s) → HasStreams counts s.streams → length nodes ≤ d
    → count_at counts d ≡ 0
undeclared_none nodes counts s d g h st past = st.each d ∙ ap (λ k. k % 256) (g.streams (at_plug d 0) (undeclared_silent nodes s d g h past))

-- cycles in which nothing else happens
pub streams_pass : (cycles : ℕ) (nodes : List NodeState) (counts : List ℕ) (s : State) → IsGood s → HasNodes nodes (seen s) → HasLingering nodes s.account.continues
    → HasDecks nodes s.declared.kinds s.decks → HasStreams counts s.streams → HasStreams (counted_on cycles nodes counts) (after_cycles s cycles).streams
streams_pass cycles nodes counts s g h linger decks st = streams_counted cycles nodes counts s (record {
  size = st.size;
  few = few_nodes nodes s g h;
  same = λ d low. talks_same nodes s d g h linger low;
  silent = λ d past. undeclared_silent nodes s d g h past;
  tapes = λ d low on. tape_same (node_at nodes d) s d (s.decks d) g (decks.each d low) on;
  each = λ d low on. st.each d;
  none = λ d past. undeclared_none nodes counts s d g h st past;
})

-- The cycle at which the second is over: in the state t all hear of it, and the plugs that talk no longer begin anew. The state after it is good.
pub streams_end : (nodes old : List NodeState) (counts : List ℕ) (s t : State) → IsGood s → IsGood (after_cycles t 1) → HasNodes old (seen s)
    → length nodes ≡ length old
    → HasNodes nodes (seen (after_cycles t 1)) → HasLingering nodes (after_cycles t 1).account.continues → HasDecks nodes t.declared.kinds t.decks → t.streams ≡ while_talking t.account s.streams
    → HasStreams counts s.streams → HasStreams (counted_on 1 nodes counts) (after_cycles t 1).streams
streams_end nodes old counts s t g good before size h linger decks counted st = streams_counted 1 nodes counts t (record {
  size = st.size;
  few = few_nodes nodes v good h;
  same = λ d low. talks_same nodes v d good h linger low;
  silent = λ d past. undeclared_silent nodes v d good h past;
  tapes = λ d low on. tape_same (node_at nodes d) v d (t.decks d) good (decks.each d low) on;
  each = λ d low on. st.each d ∙ ap (λ k. k % 256) (sym (ap (λ f. f (at_plug d 0)) counted ∙ ap (λ b. cond b (s.streams (at_plug d 0)) 0) on));
  none = λ d past. undeclared_none old counts s d g before st (omega (arith, past, size));
})
  where
    v : State
    v = after_cycles t 1

-- ---- who talks may change

-- if the counts of the run are the same
pub streams_same : (counts : List ℕ) (sent now : PlugAt → ℕ) → ((d : ℕ) → now (at_plug d 0) ≡ sent (at_plug d 0)) → HasStreams counts sent → HasStreams counts now
streams_same counts sent now same st = record { size = st.size; each = λ d. st.each d ∙ ap (λ k. k % 256) (sym (same d)) }

-- as they are if the same plugs talk
pub streams_stay : (counts : List ℕ) (s t : State) → IsGood s → t.streams ≡ while_talking t.account s.streams
    → ((d : ℕ) → talks t.account (at_plug d 0) ≡ talks s.account (at_plug d 0)) → HasStreams counts s.streams → HasStreams counts t.streams
streams_stay counts s t g counted same st = streams_same counts s.streams t.streams kept st
  where
    go : (d : ℕ) (b : Bool) → talks s.account (at_plug d 0) ≡ b → cond b (s.streams (at_plug d 0)) 0 ≡ s.streams (at_plug d 0)
    go d true on = refl
    go d false off = sym (g.streams (at_plug d 0) off)

    kept : (d : ℕ) → t.streams (at_plug d 0) ≡ s.streams (at_plug d 0)
    kept d =
        ap (λ f. f (at_plug d 0)) counted
        ∙ (ap (λ b. cond b (s.streams (at_plug d 0)) 0) (same d) ∙ go d (talks s.account (at_plug d 0)) refl)

-- if one node changes, only its plug may begin to talk, or stop
pub streams_look : (nodes now : List NodeState) (counts : List ℕ) (s t : State) (d : ℕ) → IsGood s → IsGood t → HasNodes nodes (seen s) → HasNodes now (seen t)
    → HasLingering nodes s.account.continues → HasLingering now t.account.continues → length now ≡ length nodes → d < length nodes → ((c : ℕ) → c ≢ d → node_at now c ≡ node_at nodes c)
    → t.streams ≡ while_talking t.account s.streams → HasStreams counts s.streams → HasStreams (looked_at d now counts) t.streams
streams_look nodes now counts s t d g good before h lingered linger size low others counted st = record {
  size = length-set counts d _ ∙ st.size;
  each = λ c. go c (cases_eq c d) (cases_lt c (length nodes));
}
  where
    is : (c : ℕ) → t.streams (at_plug c 0) ≡ cond (talks t.account (at_plug c 0)) (s.streams (at_plug c 0)) 0
    is c = ap (λ f. f (at_plug c 0)) counted

    here : (b : Bool) → cond b (count_at counts d) 0 ≡ cond b (s.streams (at_plug d 0)) 0 % 256
    here true = st.each d
    here false = refl

    -- a plug that talks as it did
    kept : (c : ℕ) (b : Bool) → talks s.account (at_plug c 0) ≡ b → s.streams (at_plug c 0) % 256 ≡ cond b (s.streams (at_plug c 0)) 0 % 256
    kept c true on = refl
    kept c false off = ap (λ k. k % 256) (g.streams (at_plug c 0) off)

    stays : (c : ℕ) → talks s.account (at_plug c 0) ≡ talks t.account (at_plug c 0) → count_at counts c ≡ t.streams (at_plug c 0) % 256
    stays c same =
        st.each c
        ∙ (kept c (talks s.account (at_plug c 0)) refl
        ∙ (ap (λ b. cond b (s.streams (at_plug c 0)) 0 % 256) same ∙ ap (λ k. k % 256) (sym (is c))))

    go : (c : ℕ) → (c ≡ d) ⊎ (c ≢ d) → (c < length nodes) ⊎ (length nodes ≤ c) → count_at (looked_at d now counts) c ≡ t.streams (at_plug c 0) % 256
    go c (inl e) place =
        let within : d < length counts = (let few = few_nodes nodes s g before in let room = st.size in omega (arith, low, few, room)) in
        let P : ℕ → Type 0 = λ c. count_at (looked_at d now counts) c ≡ t.streams (at_plug c 0) % 256 in
        subst P (sym e)
        (get_or-set_same counts d (cond (Plugs.talks (node_at now d)) (count_at counts d) 0) 0 within
        ∙ (ap (λ b. cond b (count_at counts d) 0) (talks_same now t d good h linger (omega (arith, low, size)))
        ∙ (here (talks t.account (at_plug d 0)) ∙ ap (λ k. k % 256) (sym (is d)))))
    go c (inr ne) (inl lt) =
        get_or-set_other counts d c (cond (Plugs.talks (node_at now d)) (count_at counts d) 0) 0 ne
        ∙ stays c (sym (talks_same nodes s c g before lingered lt)
        ∙ (ap Plugs.talks (sym (others c ne)) ∙ talks_same now t c good h linger (omega (arith, lt, size))))
    go c (inr ne) (inr past) =
        get_or-set_other counts d c (cond (Plugs.talks (node_at now d)) (count_at counts d) 0) 0 ne
        ∙ stays c (undeclared_silent nodes s c g before past ∙ sym (undeclared_silent now t c good h (omega (arith, past, size))))
